-- The wires that are left are live as before, the others as the panel has it after.
use Rattle.std.proofs.Common.{◌≡◌, ℕ, true, cond}
use Rattle.chest.specs.Meaning.{knob_to}
use Rattle.chest.specs.Positions.{positions_of}
use Rattle.sets.specs.NumberSet.{members, remaining}
use Rattle.wires.specs.Wires.{live}
use Rattle.board.specs.Wiring.{panel, wires}
use Rattle.board.specs.Among.{among, waits}
use Rattle.board.proofs.Sums.{left}
use Rattle.board.proofs.wiring.Wiring.live_after.Given as goal

abbrev pub invariant-loop-number : goal.invariant-loop-number
invariant-loop-number l =
    ((i : ℕ) → remaining l.rest i ≡ true → among (waits l.fn.to.knob) (wires l.self) i ≡ true)
    × ((i : ℕ) → members l.live i ≡ cond (remaining l.rest i) (among (live (panel l.self)) (wires l.self) i) (among (live (positions_of l.positions)) (wires l.self) i))
    × (positions_of l.positions ≡ knob_to (panel l.self) l.fn.to.knob l.fn.to.position)

abbrev pub decreases-loop-number : goal.decreases-loop-number
decreases-loop-number l = left (remaining l.rest)

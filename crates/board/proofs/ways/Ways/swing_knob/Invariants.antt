-- Of the wires that are left the ways count as before, of the others by the panel after.
use Rattle.std.proofs.Common.{◌≡◌, ℕ, ◌<◌, true}
use Rattle.chest.specs.Meaning.{knob_to}
use Rattle.sets.specs.NumberSet.{remaining}
use Rattle.wires.specs.Wires.{through}
use Rattle.board.specs.Wiring.{beneath, register, panel, wires}
use Rattle.board.specs.Among.{among, waits}
use Rattle.board.specs.Counts.{at_place}
use Rattle.board.specs.Ways.{Keeps}
use Rattle.board.proofs.Sums.{mixed, left}
use Rattle.board.proofs.ways.Ways.swing_knob.Given as goal

abbrev pub invariant-loop-number : goal.invariant-loop-number
invariant-loop-number g l =
    ((i : ℕ) → remaining l.rest i ≡ true → among (waits l.turn.to.knob) (wires l.wiring) i ≡ true)
    × ((b q : ℕ) → b < 16 → q < 128 → at_place l.self.table b q ≡ mixed (through (beneath l.wiring) (knob_to (panel l.wiring) l.turn.to.knob l.turn.to.position) (register l.wiring) b q) (through (beneath l.wiring) (panel l.wiring) (register l.wiring) b q) (wires l.wiring) (remaining l.rest))
    × Keeps g.C.Chest.meaning g.C.Chest.settled (beneath l.wiring) l.initial.self.table l.initial.below l.self.table l.below

abbrev pub decreases-loop-number : goal.decreases-loop-number
decreases-loop-number g l = left (remaining l.rest)

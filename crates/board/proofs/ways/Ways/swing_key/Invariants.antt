-- Of the wires that are left the ways count as before, of the others by the register after.
use Rattle.std.proofs.Common.{◌≡◌, ℕ, ◌<◌, true, is_some}
use Rattle.chest.specs.Places.{put}
use Rattle.sets.specs.NumberSet.{remaining}
use Rattle.wires.specs.Wires.{through, outlet}
use Rattle.board.specs.Wiring.{beneath, register, panel, wires}
use Rattle.board.specs.Among.{among}
use Rattle.board.specs.Swing.{starts}
use Rattle.board.specs.Counts.{at_place}
use Rattle.board.specs.Ways.{Keeps}
use Rattle.board.proofs.Sums.{mixed, left}
use Rattle.board.proofs.ways.Ways.swing_key.Given as goal

abbrev pub invariant-loop-number : goal.invariant-loop-number
invariant-loop-number g l =
    ((i : ℕ) → remaining l.rest i ≡ true → among (λ w. is_some (outlet (beneath l.wiring) (panel l.wiring) w l.key.row l.key.place)) (wires l.wiring) i ≡ true)
    × ((b q : ℕ) → b < 16 → q < 128 → at_place l.self.table b q ≡ mixed (through (beneath l.wiring) (panel l.wiring) (put (register l.wiring) l.key.row l.key.place (starts l.swing)) b q) (through (beneath l.wiring) (panel l.wiring) (register l.wiring) b q) (wires l.wiring) (remaining l.rest))
    × Keeps g.C.Chest.meaning g.C.Chest.settled (beneath l.wiring) l.initial.self.table l.initial.below l.self.table l.below

abbrev pub decreases-loop-number : goal.decreases-loop-number
decreases-loop-number g l = left (remaining l.rest)

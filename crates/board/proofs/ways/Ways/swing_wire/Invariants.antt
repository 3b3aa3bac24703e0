-- The ways of the wire are counted, but for those of the keys that are left.
use Rattle.sets.specs.NumberSet.{remaining}
use Rattle.board.specs.Wiring.{beneath}
use Rattle.board.specs.Swing.{starts}
use Rattle.board.specs.Ways.{Keeps}
use Rattle.board.proofs.Counting.{Left}
use Rattle.board.proofs.Sums.{left}
use Rattle.board.proofs.ways.Ways.swing_wire.Given as goal

abbrev pub invariant-loop-key : goal.invariant-loop-key
invariant-loop-key g l =
    Left l.wiring l.w (starts l.swing) l.initial.self.table l.self.table (remaining l.rest)
    × Keeps g.C.Chest.meaning g.C.Chest.settled (beneath l.wiring) l.initial.self.table l.initial.below l.self.table l.below

abbrev pub decreases-loop-key : goal.decreases-loop-key
decreases-loop-key g l = left (remaining l.rest)

-- So far the wires before this one are fitted: what is left of the run starts here.
use Rattle.std.proofs.Common.{◌≡◌, drop}
use Rattle.board.specs.Relay.{Settled, wired_of}
use Rattle.organ.specs.Pass.{fit_run}
use Rattle.organ.proofs.assembly.fit_all.Given as goal

abbrev pub invariant-loop-number : goal.invariant-loop-number
invariant-loop-number g l =
    let chest = g.C.Chest in
    let m = chest.meaning l.initial.board.below in
    (fit_run l.on m (wired_of l.initial.board.coupling) 0 l.wires ≡ fit_run l.on m (wired_of l.board.coupling) l.number-counter (drop l.number-counter l.wires))
    × ((wired_of l.board.coupling).reach ≡ (wired_of l.initial.board.coupling).reach)
    × (l.board.below ≡ l.initial.board.below)
    × (Settled chest.meaning chest.settled l.initial.board → Settled chest.meaning chest.settled l.board)

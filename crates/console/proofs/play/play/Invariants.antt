-- So far: a record of the calls before this one and their answers, and room for the answers to come.
use Rattle.std.proofs.Common.{◌≡◌, ◌+◌, ◌≤◌, List, ◌++◌, length, take, vec_items, vec_len, vec_capacity}
use Rattle.console.specs.Model.{Setup, Model}
use Rattle.console.specs.Record.{Answer}
use Rattle.console.specs.Tracks.{Tracks}
use Rattle.console.specs.Plays.{Recorded}
use Rattle.console.proofs.play.play.Given as goal

abbrev pub invariant-loop-call : goal.invariant-loop-call
invariant-loop-call g l =
    let chest = g.C.Chest in
    (vec_len l.answers + length l.calls ≤ vec_capacity l.answers + l.call-index)
    × ((goal : List Answer) × (vec_items l.answers ≡ vec_items l.initial.answers ++ goal)
    × ((s : Setup) (p : Model) → Tracks chest.meaning chest.settled l.initial.console s p → Recorded chest.meaning chest.settled l.initial.console s p (take l.call-index l.calls) goal l.console))

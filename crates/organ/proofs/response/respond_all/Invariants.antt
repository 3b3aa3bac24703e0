-- So far the messages before this one are answered.
use Rattle.std.proofs.Common.{◌+◌, ◌*◌, ◌≤◌, take, vec_items, vec_len, vec_capacity}
use Rattle.console.specs.Model.{Setup, Model}
use Rattle.console.specs.Tracks.{Tracks}
use Rattle.organ.specs.Answered.{Answered}
use Rattle.organ.proofs.response.respond_all.Given as goal

abbrev pub invariant-loop-answered : goal.invariant-loop-answered
invariant-loop-answered g l =
    let chest = g.C.Chest in
    ((vec_len l.listing ≤ vec_len l.initial.listing + 64 * l.answered-counter) × (vec_capacity l.initial.listing ≤ vec_capacity l.listing))
    × ((s : Setup) (p : Model) → Tracks chest.meaning chest.settled l.initial.console s p → Answered chest.meaning chest.settled l.initial.console l.console s p (take l.answered-counter l.messages) (vec_items l.initial.listing) (vec_items l.listing))

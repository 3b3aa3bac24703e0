-- So far the places before `place` stand as the rule says.
use Rattle.chest.specs.Meaning.{Becomes}
use Rattle.chest.specs.Walks.{row_shown}
use Rattle.chest.proofs.walks.show_row.Given as goal

abbrev pub invariant-loop-place : goal.invariant-loop-place
invariant-loop-place g l =
    let chest = g.C.Chest in
    Becomes chest.meaning chest.settled l.initial.chest l.chest (row_shown (chest.meaning l.initial.chest) (g.R.Rule.set l.rule) l.row l.place)

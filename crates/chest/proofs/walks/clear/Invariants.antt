-- So far the rows before `row` are out.
use Rattle.chest.specs.Meaning.{Becomes}
use Rattle.chest.specs.Walks.{rows_out}
use Rattle.chest.proofs.walks.clear.Given as goal

abbrev pub invariant-loop-row : goal.invariant-loop-row
invariant-loop-row g l =
    let chest = g.C.Chest in
    Becomes chest.meaning chest.settled l.initial.chest l.chest (rows_out (chest.meaning l.initial.chest) l.row)

use Rattle.chest.specs.Places.{none}
use Rattle.chest.specs.Walks.{row_shown}
use Rattle.chest.proofs.Walking.{rows_more, stepped}
use Rattle.chest.proofs.walks.clear.Goals as goal

pub loop-row-preserved : goal.loop-row-preserved
loop-row-preserved g c =
    let row = c.loop-row.row in
    stepped g.C.Chest.meaning g.C.Chest.settled (λ x. row_shown x none row (x.reach row)) c.loop-row.invariant c.show_row.ensures (rows_more (g.C.Chest.meaning c.args.chest.now) row)

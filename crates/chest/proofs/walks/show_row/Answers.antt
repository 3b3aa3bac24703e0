use Rattle.std.proofs.Common.{arith}
use Rattle.chest.specs.Meaning.{set_after}
use Rattle.chest.proofs.Calls.{reach_is, row_of_place}
use Rattle.chest.proofs.Walking.{row_more, stepped}
use Rattle.chest.proofs.walks.show_row.Goals as goal

pub loop-place-preserved : goal.loop-place-preserved
loop-place-preserved g c =
    let m = g.C.Chest.meaning c.args.chest.now in
    let row = c.args.row in
    let place = c.loop-place.place in
    let there = row_of_place m row _ place _ c.reach.ensures c.unwrap_or-place-end.ensures c.loop-place-test.true in
    let reach = reach_is m row c.unwrap_or-place-end.result _ there c.reach.ensures c.unwrap_or-place-end.ensures in
    stepped g.C.Chest.meaning g.C.Chest.settled (λ x. set_after x row place c.sets.result) c.loop-place.invariant c.set.ensures.after (row_more m (g.R.Rule.set c.args.rule.now) row place c.sets.result there (omega arith) c.sets.ensures)

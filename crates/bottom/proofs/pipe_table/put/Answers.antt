use Rattle.std.proofs.Common.{◌≡◌, ◌%◌, ◌/◌, ◌<◌, length, get_or, arith}
use Rattle.bottom.proofs.Tables.{PutBit, put_on, put-off, shown-put}
use Rattle.bottom.proofs.pipe_table.put.Goals as goal
use Rattle.bottom.proofs.pipe_table.put.Goals.{then-on, else-on}

pub returns : goal.returns
returns c =
    let long : length c.args.table.now ≡ 256 = omega arith in
    let place = c.index-place.result in
    let within : place % 8 < 8 = omega arith in
    let bit : PutBit (get_or c.args.table.now (place / 8) 0) c.if-on.byte (place % 8) c.args.on
    = elim c.if-on.branch [ then-on w ↦ put_on _ _ _ _ within w.byte-is w.if-on.true | else-on w ↦ put-off _ _ _ _ within w.byte-is w.if-on.false ] in
    shown-put _ _ _ _ _ _ _ long c.args.at.row_in c.args.at.place_in (omega arith) (omega arith) bit

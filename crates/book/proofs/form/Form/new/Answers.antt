use Rattle.std.proofs.Common.{arith, rules}
use Rattle.book.proofs.Forming.{formed_by}
use Rattle.book.proofs.form.Form.new.Goals as goal
use Rattle.book.proofs.form.Form.new.Goals.{in-Keys-len2, in-Rank-len2, in-Knob-len3, in-Piston-len3, in-Wire-len8}

pub returns : goal.returns
returns c =
    let v = c.ok_or.ensures.value in
    elim c.match-head.branch [
      | in-Keys-len2 w ↦ formed_by _ _ _ _ _ _ _ w.in-Keys-len2.is-0 (omega arith) w.form-is (search rules) v
      | in-Rank-len2 w ↦ formed_by _ _ _ _ _ _ _ w.in-Rank-len2.is-0 (omega arith) w.form-is (search rules) v
      | in-Knob-len3 w ↦ formed_by _ _ _ _ _ _ _ w.in-Knob-len3.is-0 (omega arith) w.form-is (search rules) v
      | in-Piston-len3 w ↦ formed_by _ _ _ _ _ _ _ w.in-Piston-len3.is-0 (omega arith) w.form-is (search rules) v
      | in-Wire-len8 w ↦ formed_by _ _ _ _ _ _ _ w.in-Wire-len8.is-0 (omega arith) w.form-is (search rules) v
    ]

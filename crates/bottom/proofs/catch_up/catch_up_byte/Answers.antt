use Rattle.std.proofs.Common.{◌+◌, ◌*◌, refl, arith}
use Rattle.bottom.proofs.CatchUpLemmas.{up_to_at, none_more, stretch_same, goes_then}
use Rattle.bottom.proofs.catch_up.catch_up_byte.Goals as goal

pub returns-then-agrees-clause-after : goal.returns-then-agrees-clause-after
returns-then-agrees-clause-after c = λ start buffer front u.
    none_more _ _ start buffer _ front _ (stretch_same _ start buffer _ front _ 8 (8 * c.args.byte) (c.agrees.ensures c.if-agrees.true) u)

pub loop-bit-preserved : goal.loop-bit-preserved
loop-bit-preserved c =
    let so_far = c.loop-bit.invariant in
    let then = c.catch_up_place-written.ensures in
    record {
      bound = omega (arith, then.bound);
      after = goes_then _ _ _ so_far.bound _ _ _ _ _ _ _ _ _ _ _ _ so_far.after then.after refl (omega (arith, c.place_of-at.ensures)) (omega (arith, c.place_of-at.ensures));
    }

pub returns-clause-after : goal.returns-clause-after
returns-clause-after c = λ start buffer front u.
    up_to_at (8 * c.args.byte + c.loop-bit.bit) (8 * c.args.byte + 8) _ start buffer _ _ _ (omega arith) (c.loop-bit.invariant.after start buffer front u)

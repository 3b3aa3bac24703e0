use Rattle.std.proofs.Common.{◌+◌, ◌-◌, ◌*◌, refl, arith, length-drop}
use Rattle.bottom.proofs.CatchUpLemmas.{up_to_at, up_to_none, stretch_full, goes_then}
use Rattle.bottom.proofs.catch_up.catch_up.Goals as goal

pub loop-byte-preserved : goal.loop-byte-preserved
loop-byte-preserved c =
    let so_far = c.loop-byte.invariant in
    let then = c.catch_up_byte-written.ensures in
    record {
      bound = omega (arith, then.bound);
      after = goes_then _ _ _ so_far.bound _ _ _ _ _ _ _ _ _ _ _ _ so_far.after then.after refl refl (omega arith);
    }

pub returns-after-loop-byte-clause-after : goal.returns-after-loop-byte-clause-after
returns-after-loop-byte-clause-after c =
    up_to_at (8 * c.loop-byte.byte) 2048 _ _ _ _ _ _ (omega arith) (c.loop-byte.invariant.after _ _ _ (up_to_none _ _ _))

pub returns-then-out-written-lt-MESSAGE-clause-after : goal.returns-then-out-written-lt-MESSAGE-clause-after
returns-then-out-written-lt-MESSAGE-clause-after c =
    let n = 8 * c.loop-byte.byte in
    let rest = stretch_full _ _ _ _ _ _ (2048 - n) n (omega (arith, length-drop c.loop-byte.written c.loop-byte.out)) (c.loop-byte.invariant.after _ _ _ (up_to_none _ _ _)) in
    up_to_at (n + (2048 - n)) 2048 _ _ _ _ _ _ (omega arith) rest

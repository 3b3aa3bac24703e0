use Rattle.std.proofs.Common.{◌+◌, ◌*◌, ap, ◌∙◌, arith}
use Rattle.book.proofs.Digital.{Grows, size-more, size-done}
use Rattle.book.proofs.numerals.size.Goals as goal
use Rattle.book.proofs.numerals.size.Goals.{In-loop-b}

more : (c : In-loop-b) → Grows c.args.digits.now c.loop-b.b-index c.loop-b.n
more c = size-more _ _ _ c.loop-b.invariant.0 c.loop-b-test.true c.loop-b.invariant.1

pub overflow_sub-b : goal.overflow_sub-b
overflow_sub-b c = omega (arith, (more (goal.at.overflow_sub-b c).In-loop-b).digit)

pub overflow_mul-n : goal.overflow_mul-n
overflow_mul-n c = omega (arith, (more c).room)

pub overflow_add-n : goal.overflow_add-n
overflow_add-n c = omega (arith, c.from.ensures, (more (goal.at.overflow_add-n c).In-loop-b).room)

pub loop-b-preserved : goal.loop-b-preserved
loop-b-preserved c =
    (c.loop-b.invariant.0, ap (λ d. c.loop-b.n * 10 + d) c.from.ensures ∙ (more (goal.at.loop-b-preserved c).In-loop-b).value)

pub returns : goal.returns
returns c =
    let done = size-done c.args.digits.now _ _ c.loop-b.invariant.0 c.loop-b-test.false c.loop-b.invariant.1 in
    record { value = done.0; bound = done.1 }

use Rattle.std.proofs.Common.{sym, ◌∙◌, arith}
use Rattle.book.specs.Bytes.{allowed}
use Rattle.book.proofs.Outside.{outside-at, outside-none}
use Rattle.book.proofs.passage.Passage.first_outside.Goals as goal

pub returns-then-not-is_allowed : goal.returns-then-not-is_allowed
returns-then-not-is_allowed c =
    outside-at allowed c.args.self.text.now c.loop-at.at c.loop-at-test.true c.loop-at.invariant (sym c.is_allowed.ensures ∙ c.if-not-is_allowed.true)

pub returns : goal.returns
returns c =
    outside-none allowed c.args.self.text.now (λ k in'. c.loop-at.invariant k (omega (arith, c.loop-at-test.false)))

use Rattle.std.proofs.Common.{◌≡◌, ◌+◌, ◌-◌, ap, ◌∙◌, arith}
use Rattle.sets.specs.Numbers.{bits_of, with_number}
use Rattle.sets.proofs.Joined.{joined, joined_low, joined_high}
use Rattle.sets.proofs.number_set.NumberSet.with.Goals as goal

pub returns-then-number-lt-WORD-clause-value : goal.returns-then-number-lt-WORD-clause-value
returns-then-number-lt-WORD-clause-value c = λ h.
    let self = c.args.self in
    ap (λ s. joined s (bits_of self.high.bits)) c.put.ensures ∙ joined_low (bits_of self.low.bits) (bits_of self.high.bits) c.args.number c.args.on c.if-number-lt-WORD.true

pub returns-then-number-clause-value : goal.returns-then-number-clause-value
returns-then-number-clause-value c = λ h.
    let self = c.args.self in
    let low = bits_of self.low.bits in
    let high = bits_of self.high.bits in
    let back : 64 + (c.args.number - 64) ≡ c.args.number = omega (arith, c.if-number-lt-WORD.false) in
    ap (joined low) c.put-then-number.ensures ∙ joined_high low high (c.args.number - 64) c.args.on ∙ ap (λ k. with_number (joined low high) k c.args.on) back

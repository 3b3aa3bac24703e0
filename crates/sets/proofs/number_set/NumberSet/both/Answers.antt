use Rattle.std.proofs.Common.{◌∙◌}
use Rattle.sets.specs.Numbers.{bits_of}
use Rattle.sets.proofs.Joined.{joined, joined_both}
use Rattle.sets.proofs.number_set.NumberSet.both.Goals as goal

pub returns : goal.returns
returns c =
    let self = c.args.self in
    let other = c.args.other in
    (λ i. joined (c.both.ensures i) (c.both-2.ensures i)) ∙ joined_both (bits_of self.low.bits) (bits_of self.high.bits) (bits_of other.low.bits) (bits_of other.high.bits)

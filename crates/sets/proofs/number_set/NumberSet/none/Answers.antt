use Rattle.std.proofs.Common.{◌∙◌}
use Rattle.sets.proofs.Joined.{joined, joined_none}
use Rattle.sets.proofs.number_set.NumberSet.none.Goals as goal

pub returns : goal.returns
returns c = (λ i. joined (c.none.ensures i) (c.none-2.ensures i)) ∙ joined_none

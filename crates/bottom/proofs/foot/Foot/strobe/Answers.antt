use Rattle.chest.proofs.Counts.{changed-same}
use Rattle.bottom.proofs.foot.Foot.strobe.Goals as goal

pub invariant_of-self-clause-exact : goal.invariant_of-self-clause-exact
invariant_of-self-clause-exact c = changed-same _

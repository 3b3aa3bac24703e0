use Rattle.chest.proofs.Counts.{counting}
use Rattle.chest.proofs.laws.counting_law.Goals as goal

pub returns : goal.returns
returns c = counting

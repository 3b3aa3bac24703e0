-- The answer for `fitting-law`.
use Rattle.wires.proofs.FirstFault.{fitting-law}
use Rattle.wires.proofs.laws.fitting_law.Goals as goal

pub returns : goal.returns
returns c = record { law = fitting-law }

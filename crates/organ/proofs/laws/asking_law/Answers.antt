-- The answer for `asking_law`.
use Rattle.organ.proofs.Asked as asked
use Rattle.organ.proofs.laws.asking_law.Goals as goal

pub returns : goal.returns
returns c = asked.asking_law

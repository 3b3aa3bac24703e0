-- The answer for `worked_cases`.
use Rattle.cases.proofs.Worked.{worked_cases}
use Rattle.cases.proofs.worked_cases.Goals as goal

pub returns : goal.returns
returns c = worked_cases

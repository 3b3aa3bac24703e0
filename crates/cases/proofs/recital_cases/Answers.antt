-- The answers for `recital_cases`.
use Rattle.cases.proofs.Recitals.{recital_cases}
use Rattle.cases.proofs.Refusals.{refused_books}
use Rattle.cases.proofs.recital_cases.Goals as goal

pub returns : goal.returns
returns c = record { recitals = recital_cases; refusals = refused_books }

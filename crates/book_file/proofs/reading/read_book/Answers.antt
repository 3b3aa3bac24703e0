use Rattle.book_file.proofs.Reasons.{reasoned}
use Rattle.book_file.proofs.reading.read_book.Goals as goal

pub returns-clause-reason : goal.returns-clause-reason
returns-clause-reason c = reasoned _ _ c.text_of.ensures

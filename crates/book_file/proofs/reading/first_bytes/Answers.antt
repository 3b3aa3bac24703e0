use Rattle.book_file.proofs.FirstBytes.{first}
use Rattle.book_file.proofs.reading.first_bytes.Goals as goal

pub returns-clause-bytes : goal.returns-clause-bytes
returns-clause-bytes g c =
    first g.R.Read.remaining _ _ _ _ _ _ _ c.take.ensures.inner c.take.ensures.limit c.new-text.ensures.items c.in_ok-read_to_end.ensures.bytes c.truncate.ensures.items

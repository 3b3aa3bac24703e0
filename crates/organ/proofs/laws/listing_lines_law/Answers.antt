-- The answer for `listing_lines_law`.
use Rattle.organ.proofs.ListingLines.{listing_lines}
use Rattle.organ.proofs.laws.listing_lines_law.Goals as goal

pub returns-clause-lines : goal.returns-clause-lines
returns-clause-lines c = listing_lines

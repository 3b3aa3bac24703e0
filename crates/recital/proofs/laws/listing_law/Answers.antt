use Rattle.recital.proofs.Judgements.{listing_law}
use Rattle.recital.proofs.laws.listing_law.Goals as goal

pub returns : goal.returns
returns c = record { law = listing_law }

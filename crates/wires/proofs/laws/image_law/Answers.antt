-- The answer for `image-law`.
use Rattle.wires.proofs.Shown.{image-law}
use Rattle.wires.proofs.Offered.{offered-law}
use Rattle.wires.proofs.laws.image_law.Goals as goal

pub returns : goal.returns
returns c = record { law = image-law; offered = offered-law }

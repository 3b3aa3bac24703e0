use Rattle.std.proofs.Common.{ℕ, List, refl}
use Rattle.chest.proofs.CallLemmas.{table-law}
use Rattle.bottom.specs.NewBottom.{NewBottom}
use Rattle.bottom.proofs.laws.bottom_law.Goals as goal

new-bottom : (reaches : List ℕ) → NewBottom reaches
new-bottom reaches =
    let table = table-law reaches in
    record { register = λ r p. refl; speaking = λ r p. refl; panel = λ k. refl; strobes = refl; below = table.below; above = table.above; past = table.past }

pub returns : goal.returns
returns c = record { made = new-bottom; rule = record { magnets = λ c panel s. refl; midi = λ c panel s. refl } }

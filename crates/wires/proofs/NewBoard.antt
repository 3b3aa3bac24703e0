-- What a board of wires is when it is made. Assumes nothing.
use Rattle.std.proofs.Common.{◌≡◌, ℕ, [], List, refl, ap}
use Rattle.chest.specs.Places.{Places, none}
use Rattle.chest.specs.Meaning.{Meaning, Panel}
use Rattle.chest.proofs.CallLemmas.{table-law}
use Rattle.coupling.specs.Layout.{Reaches}
use Rattle.wires.specs.NewBoard.{NewBoard}
use Rattle.wires.specs.Wires.{image, some_wire}

-- without a wire there is no image
no_image : (reach : Reaches) (panel : Panel) (s : Places) → image reach [] panel s ≡ none
unfolding image some_wire
no_image reach panel s = refl

pub new_board : (reaches : List ℕ) (m : Meaning) → NewBoard reaches m
new_board reaches m =
    let table = table-law reaches in
    record {
      register = λ r p. refl;
      wires = refl;
      below = table.below;
      above = table.above;
      past = table.past;
      panel = refl;
      speaking = refl;
      strobes = refl;
      rule = λ panel s. ap (m.rule panel) (no_image m.reach panel s);
      cleared = λ r p. refl;
      reach_below = refl;
      panel_below = refl;
      speaking_below = refl;
      strobes_below = refl;
      rule_below = refl;
    }

-- What a key desk holds lies within bounds. Assumes nothing.
use Rattle.std.specs.Prelude.{◌≡◌, ℕ, ◌<◌, ◌≤◌, true, false}
use Rattle.std.proofs.Common.{⊎_elim, arith}
use Rattle.std.proofs.lemmas.Bool.{cases_Bool}
use Rattle.std.proofs.lemmas.Bool.Decides.{nat_tests}
use Rattle.coupling.specs.declared.key_desk.KeyDesk.{KeyDesk}
use Rattle.chest.specs.Places.{none}
use Rattle.chest.specs.Meaning.{Panel}
use Rattle.coupling.specs.Layout.{Reaches, Image, Sound}
use Rattle.coupling.specs.KeyDesk.{beneath, register, layout_of}

pub no_key_past : (d : KeyDesk) (r p : ℕ) → 128 ≤ p → register d r p ≡ false
no_key_past d r p past =
    ⊎_elim
    (λ (is : register d r p ≡ true). absurd (let there = d.held r p is in let low = d.reaches.low r in grind (arith, nat_tests)))
    (λ (no : register d r p ≡ false). no)
    (cases_Bool (register d r p))

pub beneath_most : (d : KeyDesk) (r : ℕ) → beneath d r ≤ 128
beneath_most d r = let low = d.below.low r in grind (arith, nat_tests)

pub beneath_row : (d : KeyDesk) (r p : ℕ) → p < beneath d r → r < 16
beneath_row d r p low = grind (arith, nat_tests)

-- a coupling that stands on one is sound where the image of no keys is empty
pub desk_sound : (d : KeyDesk) (image : Image) → ((reach : Reaches) (panel : Panel) → image reach panel none ≡ none) → Sound (layout_of d image)
desk_sound d image silent =
    record {
      reaches = λ r. let low = d.reaches.low r in grind (arith, nat_tests);
      rows = λ r h. grind (arith, nat_tests);
      register = d.held;
      silent = silent;
    }

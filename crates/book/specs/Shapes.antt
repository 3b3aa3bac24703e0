-- What is kept of a line's word and numbers. Assumes nothing.
use Rattle.std.specs.Prelude.{◌≡◌, ℕ, List, take, ℤ, Some, None, Option}
use Rattle.book.specs.declared.parts.Parts.{Parts}
use Rattle.arrayvec.specs.ArrayVec.{ArrayVec}
use Rattle.book.specs.Limits.{most_kept}
use Rattle.book.specs.Pieces.{Shape}

-- the first nine of the numbers
pub record Kept (n : ArrayVec ℤ) (zs : List ℤ) : Type 0 where
  pub items : n.items ≡ take most_kept zs

abbrev pub Keeps : Option (ArrayVec ℤ) → Option (List ℤ) → Type 0
Keeps None None = Unit {0}
Keeps None (Some zs) = ⊥
Keeps (Some n) None = ⊥
Keeps (Some n) (Some zs) = Kept n zs

abbrev pub Shapes : ℕ → Option Parts → Option Shape → Type 0
Shapes line None None = Unit {0}
Shapes line None (Some s) = ⊥
Shapes line (Some p) None = ⊥
Shapes line (Some p) (Some s) = (p.word.now ≡ s.head) × (p.line ≡ line) × Kept p.numbers s.numbers

-- What a table says at each place. Assumes nothing.
use Rattle.std.specs.Prelude.{◌≡◌, ℕ, List, Some, None, Option, slice_index_or}

-- what is said of a place
abbrev pub place_at : {X : Type 0} → List (Option X) → ℕ → Option X
place_at t k = slice_index_or t k None

-- whatever is said of a place is of this kind
abbrev pub AllGiven : {X : Type 0} → (X → Type 0) → List (Option X) → Type 0
AllGiven {X} P t = (k : ℕ) (x : X) → place_at t k ≡ Some x → P x

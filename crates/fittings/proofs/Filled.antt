-- Tables as they are made: every element the same. Assumes nothing.
use Rattle.std.proofs.Common.{◌≡◌, ℕ, zero, suc, get_or, replicate, refl}

-- what holds of the one element and past the end
pub replicated : {A : Type 0} (P : A → Type 0) (n i : ℕ) (x d : A) → P x → P d → P (get_or (replicate n x) i d)
replicated P zero i x d h e = e
replicated P (suc n) zero x d h e = h
replicated P (suc n) (suc i) x d h e = replicated P n i x d h e

-- a table of one value
pub filled : {A : Type 0} (n i : ℕ) (x : A) → get_or (replicate n x) i x ≡ x
filled n i x = replicated (λ y. y ≡ x) n i x x refl refl

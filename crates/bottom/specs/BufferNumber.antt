-- The buffer of a magnet chest as one number, in which each pipe that speaks has its power of two. Assumes nothing.
use Rattle.std.specs.Prelude.{◌≡◌, ◌≢◌, ℕ, ◌+◌, ◌*◌, ◌^◌, cond, List, [], ◌∷◌, length, Ok, Err, Result}
use Rattle.chest.specs.Places.{Places, total}
use Rattle.bottom.specs.declared.fault.BufferFault.{BufferFault}
use Rattle.bottom.specs.declared.fault.BufferFault.TheVariants.{Length}

-- bytes as one number, the least significant first
abbrev pub number_in : List ℕ → ℕ
number_in [] = 0
number_in (b ∷ bs) = b + 256 * number_in bs

-- 2 ^ (128 × row + place) for each place of a set, of 16 rows with 128 places
abbrev pub number_for : Places → ℕ
number_for s = total 16 (λ row. total 128 (λ place. cond (s row place) (2 ^ (128 * row + place)) 0))

-- a buffer before and after, and what was answered
pub record Numbered (speaking : Places) (before after : List ℕ) (result : Result Unit BufferFault) : Type 0 where
  -- 256 bytes are written, as the number of the pipes that speak
  pub written : length before ≡ 256 → (result ≡ Ok tt) × (length after ≡ 256) × (number_in after ≡ number_for speaking)
  -- a buffer of any other length is refused with that length, and is as it was
  pub refused : length before ≢ 256 → (result ≡ Err (Length (length before))) × (after ≡ before)

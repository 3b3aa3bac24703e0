-- Sets of numbers. Assumes nothing.
use Rattle.std.specs.Prelude.{◌≡◌, ℕ, ◌<◌, Bool, true, false, cond, ◌&&◌, Some, None, Option, ◌==◌}
use Rattle.std.specs.Int.{bit_at}

abbrev pub Numbers : Type 0
Numbers = ℕ → Bool

abbrev pub nothing : Numbers
nothing k = false

-- the set with one number in or out
abbrev pub with_number : Numbers → ℕ → Bool → Numbers
with_number s n on k = cond (k == n) on (s k)

-- the numbers of both sets
abbrev pub both : Numbers → Numbers → Numbers
both s t k = s k && t k

-- the bits of a word that are 1
abbrev pub bits_of : ℕ → Numbers
bits_of n k = bit_at n k == 1

-- the least number is taken out; where there is none, the set was empty
abbrev pub PopsFirst : Numbers → Numbers → Option ℕ → Type 0
PopsFirst before after None = (before ≡ nothing) × (after ≡ nothing)
PopsFirst before after (Some k) =
    (before k ≡ true) × ((j : ℕ) → j < k → before j ≡ false) × (after ≡ with_number before k false)

-- Sets of places, one place put on or off, and the number of places at which two sets differ. Assumes nothing.
use Rattle.std.specs.Prelude.{◌≡◌, ℕ, zero, suc, ◌+◌, ◌<◌, Bool, true, false, cond, not, ◌&&◌, ◌==◌}

-- a set of places, by row and place
abbrev pub Places : Type 0
Places = ℕ → ℕ → Bool

abbrev pub none : Places
none r p = false

-- the set with one place on or off
abbrev pub put : Places → ℕ → ℕ → Bool → Places
put s row place on r p = cond (r == row && p == place) on (s r p)

-- whether two states differ
abbrev pub differ : Bool → Bool → Bool
differ true b = not b
differ false b = b

-- f 0 + .. + f (n - 1)
unfoldable pub total : ℕ → (ℕ → ℕ) → ℕ
total zero f = 0
total (suc n) f = total n f + f n

-- how many of the places of a chest, 16 rows of 128, are in a set
abbrev pub size : Places → ℕ
size s = total 16 (λ r. total 128 (λ p. cond (s r p) 1 0))

-- at how many places two sets differ; how many of these are on only after; how many only before
abbrev pub changed : Places → Places → ℕ
changed before after = size (λ r p. differ (before r p) (after r p))

abbrev pub started : Places → Places → ℕ
started before after = size (λ r p. not (before r p) && after r p)

abbrev pub stopped : Places → Places → ℕ
stopped before after = size (λ r p. before r p && not (after r p))

-- the laws of these numbers
pub record Counting : Type 0 where
  -- a set differs from itself nowhere
  pub still : (s : Places) → changed s s ≡ 0
  -- either way round
  pub either : (s t : Places) → changed s t ≡ changed t s
  -- what changed has started or stopped
  pub split : (s t : Places) → changed s t ≡ started s t + stopped s t
  -- one place put changes one place at most, and none where it stands so already
  pub one : (s : Places) (r p : ℕ) (on : Bool) → r < 16 → p < 128 → changed s (put s r p on) ≡ cond (differ (s r p) on) 1 0

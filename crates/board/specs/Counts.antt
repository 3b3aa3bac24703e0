-- The table of the numbers of ways. Assumes nothing.
use Rattle.std.specs.Prelude.{◌≡◌, ℕ, ◌+◌, ◌*◌, ◌<◌, ◌≤◌, Bool, cond, ◌&&◌, List, ◌==◌, slice_index}
use Rattle.wires.specs.Wired.{Wired, ways_of}

-- the number that stands for place q of row b
abbrev pub at_place : List ℕ → ℕ → ℕ → ℕ
at_place table b q = slice_index table (128 * b + q)

-- each number is the number of ways that lead there
abbrev pub Exact : List ℕ → Wired → Type 0
Exact table w = (b q : ℕ) → (b < 16) × (q < 128) → at_place table b q ≡ ways_of w b q

-- from one table to the other each number has gone up, or down, by so much
abbrev pub Moves : Bool → List ℕ → List ℕ → (ℕ → ℕ → ℕ) → Type 0
Moves up before after by =
    (b q : ℕ) → b < 16 → q < 128 → at_place after b q + cond up 0 (by b q) ≡ at_place before b q + cond up (by b q) 0

-- there is room for that, for one number and for each
abbrev pub Fits : Bool → ℕ → ℕ → Type 0
Fits up n by = (n + cond up by 0 < 256) × (cond up 0 by ≤ n)

abbrev pub Room : Bool → List ℕ → (ℕ → ℕ → ℕ) → Type 0
Room up table by =
    (b q : ℕ) → b < 16 → q < 128 → Fits up (at_place table b q) (by b q)

-- one at one place
abbrev pub one_at : ℕ → ℕ → ℕ → ℕ → ℕ
one_at row place b q = cond (b == row && q == place) 1 0

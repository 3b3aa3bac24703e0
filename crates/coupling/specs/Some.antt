-- Whether some number below a bound passes, and whether no place is set. Assumes nothing.
use Rattle.std.specs.Prelude.{ℕ, zero, suc, Bool, false, not, ◌||◌}
use Rattle.chest.specs.Places.{Places}

unfoldable pub some : ℕ → (ℕ → Bool) → Bool
some zero f = false
some (suc n) f = some n f || f n

abbrev pub is_free : Places → Bool
is_free s = not (some 16 (λ r. some 128 (s r)))

-- What walks over a chest leave. Assumes nothing.
use Rattle.std.specs.Prelude.{ℕ, false, cond, ◌&&◌, ◌==◌, nat_lt}
use Rattle.chest.specs.Places.{Places}
use Rattle.chest.specs.Meaning.{Meaning, with_register}

-- the first n places of a row as in another set
abbrev pub row_shown : Meaning → Places → ℕ → ℕ → Meaning
row_shown m s row n = with_register m (λ r p. cond (r == row && nat_lt p n) (s r p) (m.register r p))

-- the places of the first n rows out
abbrev pub rows_out : Meaning → ℕ → Meaning
rows_out m n = with_register m (λ r p. cond (nat_lt r n && nat_lt p (m.reach r)) false (m.register r p))

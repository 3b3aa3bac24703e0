-- What giving a place of a table does. Assumes nothing.
use Rattle.std.specs.Prelude.{◌≡◌, ℕ, cond, not, ◌&&◌, List, is_some, is_ok, Some, Option, Result, ◌==◌}
use Rattle.fittings.specs.Tables.{place_at}
use Rattle.book.specs.declared.tables.Taken.{Taken}

-- place k of a table is given x: done unless it was given before, and no other place changes
pub record Gives {X : Type 0} (old new : List (Option X)) (k : ℕ) (x : X) (done : Result (Unit {0}) Taken) : Type 0 where
  pub answer : is_ok done ≡ not (is_some (place_at old k))
  pub places : (j : ℕ) → place_at new j ≡ cond (is_ok done && j == k) (Some x) (place_at old j)

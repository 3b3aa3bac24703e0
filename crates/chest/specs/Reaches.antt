-- How many places each row has. Assumes nothing.
use Rattle.std.specs.Prelude.{ℕ, min, cond, List, Ok, Err, Result, nat_lt, slice_index}
use Rattle.chest.specs.declared.fault.ChestFault.{ChestFault}
use Rattle.chest.specs.declared.fault.ChestFault.TheVariants.{Row, Place}
use Rattle.chest.specs.declared.reaches.Reaches.{Reaches}

-- those that a table of 16 rows asks for: a number above 128 counts as 128, and there is no row past the table
abbrev pub reach_of : List ℕ → ℕ → ℕ
reach_of table r = cond (nat_lt r 16) (min (slice_index table r) 128) 0

-- those that are kept
abbrev pub reaches_of : Reaches → ℕ → ℕ
reaches_of t r = cond (nat_lt r 16) (slice_index t.table r) 0

-- the reach of a row, or why there is none
abbrev pub reach_in : (ℕ → ℕ) → ℕ → Result ℕ ChestFault
reach_in reach row = cond (nat_lt row 16) (Ok (reach row)) (Err (Row row))

-- a place of a row: there is one, or why there is none
abbrev pub place_in : (ℕ → ℕ) → ℕ → ℕ → Result Unit ChestFault
place_in reach row place =
    cond (nat_lt row 16) (cond (nat_lt place (reach row)) (Ok tt) (Err (Place row place))) (Err (Row row))

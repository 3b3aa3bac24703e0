-- The positions of the knobs. Assumes nothing.
use Rattle.std.specs.Prelude.{ℕ, cond, List, Ok, Err, Result, nat_lt, slice_index}
use Rattle.chest.specs.declared.fault.ChestFault.{ChestFault}
use Rattle.chest.specs.declared.fault.ChestFault.TheVariants.{Knob}
use Rattle.chest.specs.declared.positions.Positions.{Positions}

-- those that a table of 64 knobs holds, and 0 past it
abbrev pub panel_of : List ℕ → ℕ → ℕ
panel_of table k = cond (nat_lt k 64) (slice_index table k) 0

abbrev pub positions_of : Positions → ℕ → ℕ
positions_of t = panel_of t.table

-- the position of a knob, or why there is none
abbrev pub position_in : (ℕ → ℕ) → ℕ → Result ℕ ChestFault
position_in panel knob = cond (nat_lt knob 64) (Ok (panel knob)) (Err (Knob knob))

-- What a knob table says of its knobs. Assumes nothing.
use Rattle.std.proofs.Common.{◌≡◌, ℕ, ◌<◌, Some, arith}
use Rattle.std.proofs.lemmas.Bool.Decides.{nat_tests}
use Rattle.console.specs.declared.knob_table.KnobTable.{KnobTable}
use Rattle.console.specs.KnobTable.{home_of, homes_of}

-- a home is a position
pub home_low : (t : KnobTable) (k n : ℕ) → homes_of t k ≡ Some n → n < 16
home_low t k n is = let each = t.each k in grind (arith, nat_tests)

pub home_at_all : (t : KnobTable) (k : ℕ) → home_of t k < 16
home_at_all t k = let each = t.each k in grind (arith, nat_tests)

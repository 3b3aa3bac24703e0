-- The number of each fault of a chest. Assumes nothing.
use Rattle.std.specs.Prelude.{ℕ}
use Rattle.chest.specs.declared.fault.ChestFault.{ChestFault}
use Rattle.chest.specs.declared.fault.ChestFault.TheVariants.{Row, Place, Knob, Position}

abbrev pub number_of : ChestFault → ℕ
number_of (Row r) = 11
number_of (Place r p) = 12
number_of (Knob k) = 13
number_of (Position k q) = 14

-- The number of each fault of a board. Assumes nothing.
use Rattle.std.specs.Prelude.{ℕ}
use Rattle.wires.specs.declared.fault.BoardFault.{BoardFault}
use Rattle.wires.specs.declared.fault.BoardFault.TheVariants.{Held, Full, Keys, ToRow, NoPlaces, Shift, Knob, Position}

abbrev pub number_of : BoardFault → ℕ
number_of Held = 15
number_of Full = 16
number_of (Keys f t) = 17
number_of (ToRow e) = 11
number_of (NoPlaces f t) = 18
number_of (Shift f t) = 19
number_of (Knob k) = 13
number_of (Position k) = 14

-- The number of each fault of the player. Assumes nothing.
use Rattle.std.specs.Prelude.{ℕ}
use Rattle.console.specs.declared.fault.PlayFault.{PlayFault}
use Rattle.console.specs.declared.fault.PlayFault.TheVariants.{Division, Key, KeyDown, KeyUp, Knob, Position, Piston, NeverCaptured}

abbrev pub number_of : PlayFault → ℕ
number_of (Division d) = 1
number_of (Key d k) = 2
number_of (KeyDown d k) = 3
number_of (KeyUp d k) = 4
number_of (Knob k) = 5
number_of (Position k q) = 6
number_of (Piston q) = 7
number_of (NeverCaptured q) = 8

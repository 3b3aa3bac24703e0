-- The number of the fault of a magnet buffer, and when it is given. Assumes nothing.
use Rattle.std.specs.Prelude.{ℕ, cond, Ok, Err, Result, ◌==◌}
use Rattle.bottom.specs.declared.fault.BufferFault.{BufferFault}
use Rattle.bottom.specs.declared.fault.BufferFault.TheVariants.{Length}

abbrev pub number_of : BufferFault → ℕ
number_of (Length n) = 21

-- whether a buffer of n bytes is written
abbrev pub write_answer : ℕ → Result Unit BufferFault
write_answer n = cond (n == 256) (Ok tt) (Err (Length n))

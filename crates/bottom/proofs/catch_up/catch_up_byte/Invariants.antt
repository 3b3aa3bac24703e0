-- So far the places of the bits before `bit` are drained.
use Rattle.std.proofs.Common.{◌+◌, ◌*◌, ◌≤◌, length}
use Rattle.bottom.specs.CatchUp.{GoesOn}
use Rattle.bottom.specs.PipeTable.{shown}
use Rattle.bottom.proofs.catch_up.catch_up_byte.Given as goal

abbrev pub invariant-loop-bit : goal.invariant-loop-bit
invariant-loop-bit l = record {
  bound : l.written ≤ length l.out;
  after : GoesOn (8 * l.byte) (8 * l.byte + l.bit) (shown l.speaking) (shown l.initial.sent) l.initial.out (shown l.sent) l.out l.written;
}

-- So far the places of the bytes before `byte` are drained.
use Rattle.std.proofs.Common.{◌*◌, ◌≤◌, length}
use Rattle.bottom.specs.CatchUp.{GoesOn}
use Rattle.bottom.specs.PipeTable.{shown}
use Rattle.bottom.proofs.catch_up.catch_up.Given as goal

abbrev pub invariant-loop-byte : goal.invariant-loop-byte
invariant-loop-byte l = record {
  bound : l.written ≤ length l.out;
  after : GoesOn 0 (8 * l.byte) (shown l.speaking) (shown l.initial.sent) l.initial.out (shown l.sent) l.out l.written;
}

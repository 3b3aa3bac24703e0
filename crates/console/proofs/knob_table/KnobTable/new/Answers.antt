use Rattle.std.proofs.Common.{ap}
use Rattle.std.specs.Prelude.{◌&&◌, ◌||◌, ◌==◌, nat_le, nat_lt}
use Rattle.fittings.proofs.Filled.{filled}
use Rattle.console.proofs.knob_table.KnobTable.new.Goals as goal

pub invariant_of-result : goal.invariant_of-result
invariant_of-result c =
    record { each = λ k. ap (λ n. (n == 0 && n == 0) || (nat_le 2 n && (nat_le n 16 && nat_lt n n))) (filled 64 k 0) }

use Rattle.std.proofs.Common.{false}
use Rattle.fittings.proofs.Filled.{filled}
use Rattle.console.proofs.key_table.Division.silent.Goals as goal

pub returns-clause-down : goal.returns-clause-down
returns-clause-down c = λ k. filled 128 k false

use Rattle.fittings.proofs.Filled.{filled}
use Rattle.board.proofs.ways.Ways.none.Goals as goal

pub returns : goal.returns
returns c = λ k. filled 2048 k 0

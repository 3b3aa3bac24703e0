use Rattle.wires.proofs.NewBoard.{new_board}
use Rattle.wires.proofs.laws.making_law.Goals as goal

pub returns : goal.returns
returns c = new_board

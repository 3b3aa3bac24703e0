-- Fitting something to a board. Assumes nothing.
use Rattle.std.specs.Prelude.{cond, is_ok, Result}
use Rattle.chest.specs.Meaning.{Meaning}
use Rattle.coupling.specs.Layout.{Image, Layout, with_image}
use Rattle.coupling.specs.Board.{board_meaning}

-- what the board means afterwards: with another image where the offer is taken, or as before
abbrev pub fit_after : {E : Type 0} → Result Unit E → Layout → Image → Meaning → Meaning
fit_after answer l image m = cond (is_ok answer) (board_meaning (with_image l image) m) (board_meaning l m)

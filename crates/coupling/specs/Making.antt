-- Making a board: the chest below is cleared, and the board starts with no key. Assumes nothing.
use Rattle.std.specs.Prelude.{◌≡◌, ℕ, List}
use Rattle.chest.specs.Meaning.{Meaning}
use Rattle.coupling.specs.Layout.{Image, Layout, new_layout}
use Rattle.coupling.specs.declared.board.Board.{Board}
use Rattle.coupling.specs.Board.{board_meaning, meaning_of, Settled}

-- what a new board is over a chest, and what it means: these reaches and nothing set, panel, pipes and strobes as below,
-- and the rule below after the image
abbrev pub new_over : Image → List ℕ → Meaning → Layout
new_over image reaches m = new_layout image reaches m.reach m.panel

abbrev pub new_meaning : Image → List ℕ → Meaning → Meaning
new_meaning image reaches m = board_meaning (new_over image reaches m) m

-- over a settled chest it is settled, and means that
module _ {K C : Type 0} (layout : K → Layout) (meaning : C → Meaning) (settled : C → Type 0) where
  abbrev pub Made : Image → List ℕ → C → Board K C → Type 0
  Made image reaches below s =
      settled below → Settled layout meaning settled s × (meaning_of layout meaning s ≡ new_meaning image reaches (meaning below))

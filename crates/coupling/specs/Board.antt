-- What a board means over what the chest below means, and when it is settled. Assumes nothing.
use Rattle.std.specs.Prelude.{◌≡◌}
use Rattle.std.proofs.Common.{ap, ◌∙◌}
use Rattle.chest.specs.Places.{none}
use Rattle.chest.specs.Meaning.{Meaning, Panel, Bounded, Becomes}
use Rattle.coupling.specs.declared.board.Board.{Board}
use Rattle.coupling.specs.Layout.{Layout, Sound, Stands}

-- a board over a chest: reaches and register are its own, its rule is the rule below after the image
abbrev pub board_meaning : Layout → Meaning → Meaning
board_meaning l m =
    record { reach = l.reach; register = l.register; panel = m.panel; speaking = m.speaking; strobes = m.strobes; rule = λ panel s. m.rule panel (l.image m.reach panel s) }

-- settled: so is the chest below, and it stands as the board wants
module _ {K C : Type 0} (layout : K → Layout) (meaning : C → Meaning) where
  abbrev pub meaning_of : Board K C → Meaning
  meaning_of s = board_meaning (layout s.coupling) (meaning s.below)

  abbrev pub Settled : (C → Type 0) → Board K C → Type 0
  Settled settled s = settled s.below × Stands (layout s.coupling) (meaning s.below)

  -- a board that is settled stays so, and means this then
  abbrev pub BoardBecomes : (C → Type 0) → Board K C → Board K C → Meaning → Type 0
  BoardBecomes settled = Becomes meaning_of (Settled settled)

-- an empty register has an empty image, so the rule is silent
pub board_quiet : (l : Layout) (m : Meaning) (panel : Panel) → Sound l → m.rule panel none ≡ none → (board_meaning l m).rule panel none ≡ none
board_quiet l m panel sound quiet = ap (m.rule panel) (sound.silent m.reach panel) ∙ quiet

-- rows and places of a board's own, and the rest as below
pub board_bounded : (l : Layout) (m : Meaning) → Sound l → Bounded m → Bounded (board_meaning l m)
board_bounded l m sound b =
    record { reaches = sound.reaches; rows = sound.rows; register = sound.register; positions = b.positions; knobs = b.knobs; pipes = b.pipes; strobes = b.strobes }

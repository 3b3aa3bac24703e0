-- What a board of wires is made of, and what it wants below. Assumes nothing.
use Rattle.std.specs.Prelude.{ℕ, Bool, List, [], ◌∷◌, ◌++◌}
use Rattle.chest.specs.Places.{Places, none, put}
use Rattle.chest.specs.Reaches.{reach_of}
use Rattle.chest.specs.Meaning.{Meaning, Panel, knob_to}
use Rattle.coupling.specs.Layout.{Reaches, Image, Layout}
use Rattle.coupling.specs.Board.{board_meaning}
use Rattle.wires.specs.declared.lead.Lead.{Lead}
use Rattle.wires.specs.Wires.{image, ways_to}

-- its own reaches and those of the chest below, its wires in the order of their fitting,
-- the knobs' positions as it knows them, and the places of its register that are set
pub record Wired : Type 0 where
  pub reach : Reaches
  pub below : Reaches
  pub wires : List Lead
  pub panel : Panel
  pub register : Places

-- what wires want below
abbrev pub image_with : List Lead → Image
image_with ws reach panel s = image reach ws panel s

-- its layout as a coupling
abbrev pub wired_layout : Wired → Layout
wired_layout w =
    record { reach = w.reach; below = w.below; panel = w.panel; register = w.register; image = image_with w.wires }

-- what the board means over what the chest below means
abbrev pub wired_meaning : Wired → Meaning → Meaning
wired_meaning w m = board_meaning (wired_layout w) m

-- a board as it is made over a chest, and what it means: these reaches, no wire and no key
abbrev pub bare_wired : List ℕ → Meaning → Wired
bare_wired reaches m =
    record { reach = reach_of reaches; below = m.reach; wires = []; panel = m.panel; register = none }

abbrev pub bare_meaning : List ℕ → Meaning → Meaning
bare_meaning reaches m = wired_meaning (bare_wired reaches m) m

-- one key put on or off, one knob turned, one wire more
abbrev pub with_key : Wired → ℕ → ℕ → Bool → Wired
with_key w row key on =
    record { reach = w.reach; below = w.below; wires = w.wires; panel = w.panel; register = put w.register row key on }

abbrev pub with_knob : Wired → ℕ → ℕ → Wired
with_knob w knob position =
    record { reach = w.reach; below = w.below; wires = w.wires; panel = knob_to w.panel knob position; register = w.register }

abbrev pub with_wire : Wired → Lead → Wired
with_wire w lead =
    record { reach = w.reach; below = w.below; wires = w.wires ++ lead ∷ []; panel = w.panel; register = w.register }

-- the register below that it wants
abbrev pub image_of : Wired → Places
image_of w = image w.below w.wires w.panel w.register

-- the number of ways to a place below
abbrev pub ways_of : Wired → ℕ → ℕ → ℕ
ways_of w = ways_to w.below w.wires w.panel w.register

-- What a board is besides the chest below, and when the chest below stands as it wants. Assumes nothing.
use Rattle.std.specs.Prelude.{◌≡◌, ℕ, ◌<◌, ◌≤◌, Bool, true, cond, ◌&&◌, nat_lt, List}
use Rattle.chest.specs.Places.{Places, none, put, differ}
use Rattle.chest.specs.Reaches.{reach_of}
use Rattle.chest.specs.Meaning.{Meaning, Panel, Becomes, with_register, knob_to}

-- how many places each row has
abbrev pub Reaches : Type 0
Reaches = ℕ → ℕ

-- the register below that is wanted, for the reaches below, a panel and a register
abbrev pub Image : Type 0
Image = Reaches → Panel → Places → Places

-- a board's own reaches and those of the chest below, the knobs' positions as it knows them,
-- the keys that are set, and what it wants below
pub record Layout : Type 0 where
  pub reach : Reaches
  pub below : Reaches
  pub panel : Panel
  pub register : Places
  pub image : Image

-- no key set, with these reaches
abbrev pub new_layout : Image → List ℕ → Reaches → Panel → Layout
new_layout image reaches below panel =
    record { reach = reach_of reaches; below = below; panel = panel; register = none; image = image }

-- one key put on or off, one knob turned, another image
abbrev pub with_key : Layout → ℕ → ℕ → Bool → Layout
with_key l row key on =
    record { reach = l.reach; below = l.below; panel = l.panel; register = put l.register row key on; image = l.image }

abbrev pub with_knob : Layout → ℕ → ℕ → Layout
with_knob l knob position =
    record { reach = l.reach; below = l.below; panel = knob_to l.panel knob position; register = l.register; image = l.image }

abbrev pub with_image : Layout → Image → Layout
with_image l image =
    record { reach = l.reach; below = l.below; panel = l.panel; register = l.register; image = image }

-- a key is put where there is one, and it moves where it stood the other way
abbrev pub key_put : Layout → ℕ → ℕ → Bool → Layout
key_put l row key on = cond (nat_lt key (l.reach row)) (with_key l row key on) l

abbrev pub key_moves : Layout → ℕ → ℕ → Bool → Bool
key_moves l row key on = nat_lt key (l.reach row) && differ (l.register row key) on

-- what a coupling owes: rows and keys within bounds, and an image of no keys that is empty
pub record Sound (l : Layout) : Type 0 where
  pub reaches : (r : ℕ) → l.reach r ≤ 128
  pub rows : (r : ℕ) → 16 ≤ r → l.reach r ≡ 0
  pub register : (r p : ℕ) → l.register r p ≡ true → p < l.reach r
  pub silent : (reach : Reaches) (panel : Panel) → l.image reach panel none ≡ none

-- the board knows the reaches and positions below, and below stands the image of its register
pub record Stands (l : Layout) (m : Meaning) : Type 0 where
  pub reach : m.reach ≡ l.below
  pub panel : m.panel ≡ l.panel
  pub register : m.register ≡ l.image m.reach m.panel l.register

-- a chest that stood as one layout wants stands as another one wants, under that one's panel, and nothing else of it changed
pub record Obeys {C : Type 0} (meaning : C → Meaning) (settled : C → Type 0) (l l' : Layout) (before after : C) : Type 0 where
  pub stands : Stands l (meaning before) → Becomes meaning settled before after (with_register (meaning before) (l'.image (meaning before).reach l'.panel l'.register))

-- The image over wires as they are offered, by their signed shift and the knob that a book writes. Assumes nothing.
use Rattle.std.specs.Prelude.{◌≡◌, ℕ, ◌<◌, ◌≤◌, true, ◌⊎◌, List, [], ◌∷◌, map, length, pos, neg_ℤ, ◌+ℤ◌, ◌≤ℤ◌, Decides, All, HoldsAt}
use Rattle.chest.specs.Places.{Places}
use Rattle.chest.specs.Meaning.{Panel}
use Rattle.fittings.specs.declared.Wire.{Wire}
use Rattle.coupling.specs.Layout.{Reaches}
use Rattle.wires.specs.declared.lead.Lead.{Lead}
use Rattle.wires.specs.Wires.{image}
use Rattle.wires.specs.Fitting.{lead_of}

-- a wire as it is offered leads to place q of row b: its knob is 64, or stands at its position; it goes to row b; and some
-- set key of its from-row, from the lowest to the highest, plus the shift is q, which is below the reach of row b below
pub record Leads (reach : Reaches) (panel : Panel) (s : Places) (b q : ℕ) (w : Wire) : Type 0 where
  pub key : ℕ
  pub live : (w.knob ≡ 64) ⊎ (panel w.knob ≡ w.position)
  pub row : w.to ≡ b
  pub held : s w.from key ≡ true
  pub low : w.lowest ≤ key
  pub high : key ≤ w.highest
  pub shifted : pos q ≡ pos key +ℤ w.shift
  pub below : q < reach b

-- a wire whose shift is from -96 to 96
pub record Shiftable (w : Wire) : Type 0 where
  pub least : neg_ℤ (pos 96) ≤ℤ w.shift
  pub most : w.shift ≤ℤ pos 96

-- a wire that is kept, by itself, has in its image just the places to which the offered one leads
abbrev pub LeadsAlike : Lead → Wire → Type 0
LeadsAlike lead w =
    (reach : Reaches) (panel : Panel) (s : Places) (b q : ℕ) → Decides (image reach (lead ∷ []) panel s b q) (Leads reach panel s b q w)

-- and so have wires together: a place is in their image exactly if one of the offered ones leads there
abbrev pub OfferedLaw : Type 0
OfferedLaw =
    (reach : Reaches) (ws : List Wire) (panel : Panel) (s : Places) (b q : ℕ) → All Shiftable ws → Decides (image reach (map lead_of ws) panel s b q) ((i : ℕ) × (i < length ws) × HoldsAt (Leads reach panel s b q) ws i)

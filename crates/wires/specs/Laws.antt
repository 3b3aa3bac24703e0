-- What the image is, in words: a place is in it where some wire leads there from a set key. Assumes nothing.
use Rattle.std.specs.Prelude.{◌≡◌, ℕ, ◌<◌, ◌≤◌, true, ◌||◌, List, ◌++◌, length, ℤ, pos, ◌+ℤ◌, ◌-ℤ◌, Decides, IfSome, nat_lt}
use Rattle.std.specs.List.{HoldsAt}
use Rattle.chest.specs.Places.{Places, none}
use Rattle.chest.specs.Meaning.{Panel}
use Rattle.fittings.specs.declared.Wire.{Wire}
use Rattle.wires.specs.declared.lead.Lead.{Lead}
use Rattle.coupling.specs.Layout.{Reaches}
use Rattle.wires.specs.Wires.{image, ways_to}
use Rattle.wires.specs.Fitting.{in_range, lead_of}

-- the signed shift of a wire
abbrev pub shift_of : Lead → ℤ
shift_of w = pos w.raise -ℤ pos 96

-- a wire leads to place q of row b: it is live and goes to row b, and some set key of its from-row,
-- from the lowest to the highest, is shifted to q, which is below the reach of row b below
pub record Reached (reach : Reaches) (panel : Panel) (s : Places) (b q : ℕ) (w : Lead) : Type 0 where
  pub key : ℕ
  pub live : IfSome w.setting (λ t. panel t.knob ≡ t.position)
  pub row : w.to ≡ b
  pub held : s w.from key ≡ true
  pub low : w.lowest ≤ key
  pub high : key ≤ w.highest
  pub shifted : pos q ≡ pos key +ℤ shift_of w
  pub below : q < reach b

-- places that are in the one set or the other
abbrev pub either : Places → Places → Places
either s t r p = s r p || t r p

pub record ImageLaw : Type 0 where
  -- place q of row b is in the image exactly if some wire of the list leads there
  pub exact : (reach : Reaches) (ws : List Lead) (panel : Panel) (s : Places) (b q : ℕ) → Decides (image reach ws panel s b q) ((i : ℕ) × (i < length ws) × HoldsAt (Reached reach panel s b q) ws i)
  -- a wire that is fitted keeps its shift
  pub shift : (w : Wire) → in_range w.shift ≡ true → shift_of (lead_of w) ≡ w.shift
  -- the image of no keys is empty
  pub silent : (reach : Reaches) (ws : List Lead) (panel : Panel) → image reach ws panel none ≡ none
  -- keys joined have their images joined
  pub keys : (reach : Reaches) (ws : List Lead) (panel : Panel) (s t : Places) → image reach ws panel (either s t) ≡ either (image reach ws panel s) (image reach ws panel t)
  -- so more keys never make the image smaller
  pub grows : (reach : Reaches) (ws : List Lead) (panel : Panel) (s t : Places) → ((r p : ℕ) → s r p ≡ true → t r p ≡ true) → (b q : ℕ) → image reach ws panel s b q ≡ true → image reach ws panel t b q ≡ true
  -- wires joined have their images joined: where several lead to one place, it is in the image until none does
  pub wires : (reach : Reaches) (vs ws : List Lead) (panel : Panel) (s : Places) → image reach (vs ++ ws) panel s ≡ either (image reach vs panel s) (image reach ws panel s)
  -- a place is in the image where the number of ways is above 0, and that number is at most the number of wires
  pub counted : (reach : Reaches) (ws : List Lead) (panel : Panel) (s : Places) (b q : ℕ) → image reach ws panel s b q ≡ nat_lt 0 (ways_to reach ws panel s b q)
  pub few : (reach : Reaches) (ws : List Lead) (panel : Panel) (s : Places) (b q : ℕ) → ways_to reach ws panel s b q ≤ length ws

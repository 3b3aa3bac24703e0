-- Why a wire is refused: the first thing that is wrong with it, by the numbers that a book may write. Assumes nothing.
use Rattle.std.specs.Prelude.{◌≡◌, ℕ, ◌<◌, ◌≤◌, true, false, ◌⊎◌, ◌↔◌, [], ◌∷◌, ◌++◌, length, pos, neg_ℤ, ◌≤ℤ◌, ◌<ℤ◌, Ok, Err, Result, IsOk}
use Rattle.chest.specs.declared.fault.ChestFault.TheVariants.{Row}
use Rattle.chest.specs.Meaning.{Meaning}
use Rattle.fittings.specs.declared.Wire.{Wire}
use Rattle.coupling.specs.Layout.{Reaches}
use Rattle.wires.specs.declared.lead.Lead.{Lead}
use Rattle.wires.specs.declared.fault.BoardFault.{BoardFault}
use Rattle.wires.specs.declared.fault.BoardFault.TheVariants.{Held, Full, Keys, ToRow, NoPlaces, Shift, Knob, Position}
use Rattle.wires.specs.Wired.{Wired, with_wire}
use Rattle.wires.specs.Fitting.{fit_answer}

-- of a wire by itself, for the board's own reaches and those below
module _ (reach below : Reaches) (w : Wire) where
  -- each of its keys is one of a row of 16
  abbrev pub HasKeys : Type 0
  HasKeys = (w.from < 16) × (w.lowest ≤ w.highest) × (w.highest < reach w.from)

  -- and there is the row to which it leads
  abbrev pub HasRow : Type 0
  HasRow = HasKeys × (w.to < 16)

  -- and that row has a place
  abbrev pub HasPlaces : Type 0
  HasPlaces = HasRow × (0 < below w.to)

  -- and it shifts by 96 at most, down or up
  abbrev pub HasShift : Type 0
  HasShift = HasPlaces × (neg_ℤ (pos 96) ≤ℤ w.shift) × (w.shift ≤ℤ pos 96)

  -- and it waits for one of 64 knobs, or is always live
  abbrev pub HasKnob : Type 0
  HasKnob = HasShift × (w.knob ≤ 64)

  -- and at one of 16 positions
  abbrev pub HasPosition : Type 0
  HasPosition = HasKnob × (w.position ≤ 15)

  -- what is wrong with it first
  abbrev pub WireFault : BoardFault → Type 0
  WireFault Held = ⊥
  WireFault Full = ⊥
  WireFault (Keys f t) =
      ((16 ≤ w.from) ⊎ (w.highest < w.lowest) ⊎ (reach w.from ≤ w.highest)) × (f ≡ w.from) × (t ≡ w.to)
  WireFault (ToRow e) = HasKeys × (16 ≤ w.to) × (e.from ≡ w.from) × (e.to ≡ w.to) × (e.fault ≡ Row w.to)
  WireFault (NoPlaces f t) = HasRow × (below w.to ≡ 0) × (f ≡ w.from) × (t ≡ w.to)
  WireFault (Shift f t) =
      HasPlaces × ((w.shift <ℤ neg_ℤ (pos 96)) ⊎ (pos 96 <ℤ w.shift)) × (f ≡ w.from) × (t ≡ w.to)
  WireFault (Knob k) = HasShift × (65 ≤ w.knob) × (k ≡ w.knob)
  WireFault (Position k) = HasKnob × (16 ≤ w.position) × (k ≡ w.knob)

-- a wire is answered by just what is wrong first, and is kept exactly if nothing is
pub record WireAnswered (reach below : Reaches) (w : Wire) (r : Result Lead BoardFault) : Type 0 where
  pub refused : (fault : BoardFault) → (r ≡ Err fault) ↔ WireFault reach below w fault
  pub kept : IsOk r ↔ HasPosition reach below w

-- of a board and a wire
module _ (l : Wired) (m : Meaning) (w : Wire) where
  -- some key is set
  abbrev pub KeySet : Type 0
  KeySet = (r : ℕ) × (p : ℕ) × (r < 16) × (p < 128) × (l.register r p ≡ true)

  -- or none is
  abbrev pub NoKeySet : Type 0
  NoKeySet = (r p : ℕ) → r < 16 → p < 128 → l.register r p ≡ false

  -- and it has room for one wire more
  abbrev pub HasRoom : Type 0
  HasRoom = NoKeySet × (length l.wires < 128)

  -- what is wrong first, of the board and then of the wire
  abbrev pub FirstFault : BoardFault → Type 0
  FirstFault Held = KeySet
  FirstFault Full = NoKeySet × (128 ≤ length l.wires)
  FirstFault fault = HasRoom × WireFault l.reach m.reach w fault

-- why an offered wire is refused, and what becomes of the board that takes one
pub record FittingLaw : Type 0 where
  -- an offered wire is refused by just what is wrong first, and is taken exactly if nothing is
  pub refused : (l : Wired) (m : Meaning) (w : Wire) (fault : BoardFault) → (fit_answer l m w ≡ Err fault) ↔ FirstFault l m w fault
  pub taken : (l : Wired) (m : Meaning) (w : Wire) → (fit_answer l m w ≡ Ok tt) ↔ (HasRoom l m w × HasPosition l.reach m.reach w)
  -- one that is taken stands after the old ones
  pub last : (l : Wired) (lead : Lead) → (with_wire l lead).wires ≡ l.wires ++ lead ∷ []
  -- and nothing else of the board has changed
  pub reaches : (l : Wired) (lead : Lead) → ((with_wire l lead).reach ≡ l.reach) × ((with_wire l lead).below ≡ l.below)
  pub stands : (l : Wired) (lead : Lead) → ((with_wire l lead).panel ≡ l.panel) × ((with_wire l lead).register ≡ l.register)

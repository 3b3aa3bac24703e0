-- Where knobs stand and what pistons store, by the calls of a record alone. Assumes nothing.
use Rattle.std.specs.Prelude.{◌≡◌, ℕ, true, false, ◌&&◌, List, ◌∷◌, ◌++◌, is_some, Some, None}
use Rattle.chest.specs.Meaning.{Meaning}
use Rattle.console.specs.declared.call.Call.TheVariants.{Turn, Recall, Cancel}
use Rattle.console.specs.Model.{Setup, Memory, first}
use Rattle.console.specs.Record.{Entry, RecordLaw}
use Rattle.console.specs.KeyLaw.{modelled}
use Rattle.console.specs.DoneCalls.{none, between, names, captures}

-- where a knob stands after a record, and what a piston stores
abbrev pub stands : Setup → List Entry → ℕ → ℕ
stands s es k = (modelled s es).panel k

-- the last done call of a record that names a knob
pub record LastToName (s : Setup) (k : ℕ) (es front : List Entry) (e : Entry) (rest : List Entry) : Type 0 where
  pub are : es ≡ front ++ e ∷ rest
  pub done : names s k e ≡ true
  pub last : none (names s k) rest ≡ true

-- the last done capture on a piston
pub record LastCapture (q : ℕ) (es front : List Entry) (e : Entry) (rest : List Entry) : Type 0 where
  pub are : es ≡ front ++ e ∷ rest
  pub done : captures q e ≡ true
  pub last : none (captures q) rest ≡ true

-- a knob stands where the last done call that names it put it
pub record KnobsByCalls (s : Setup) (es : List Entry) : Type 0 where
  -- none did: a defined knob is at home, an undefined one at 0
  pub home : (k n : ℕ) → none (names s k) es ≡ true → s.steps k ≡ Some n → stands s es k ≡ s.home k
  pub undefined : (k : ℕ) → none (names s k) es ≡ true → s.steps k ≡ None → stands s es k ≡ 0
  -- its turn
  pub turned : (k position : ℕ) (front : List Entry) (e : Entry) (rest : List Entry) → LastToName s k es front e rest → e.call ≡ Turn k position → stands s es k ≡ position
  -- a cancel: home
  pub cancelled : (k : ℕ) (front : List Entry) (e : Entry) (rest : List Entry) → LastToName s k es front e rest → e.call ≡ Cancel → stands s es k ≡ s.home k
  -- a recall of a piston: where it stood at the last capture on it
  pub recalled : (k q : ℕ) (front : List Entry) (e : Entry) (rest : List Entry) → LastToName s k es front e rest → e.call ≡ Recall q → (before : List Entry) (c : Entry) (after : List Entry) → LastCapture q front before c after → stands s es k ≡ stands s before k

-- a piston stores where the knobs that it takes stood at the last capture on it
pub record PistonsByCalls (s : Setup) (es : List Entry) : Type 0 where
  -- nothing before the first
  pub never : (q : ℕ) → none (captures q) es ≡ true → (modelled s es).stored q ≡ None
  pub captured : (q : ℕ) (front : List Entry) (e : Entry) (rest : List Entry) → LastCapture q es front e rest → (memory : Memory)
      × ((modelled s es).stored q ≡ Some memory)
      × ((k : ℕ) → (is_some (s.steps k) && between (s.scope q) k) ≡ true → memory k ≡ Some (stands s front k))
      × ((k : ℕ) → (is_some (s.steps k) && between (s.scope q) k) ≡ false → memory k ≡ None)

pub record KnobLaw : Type 0 where
  pub knobs : (s : Setup) (m : Meaning) (es : List Entry) → RecordLaw s m (first s) es → KnobsByCalls s es
  pub pistons : (s : Setup) (m : Meaning) (es : List Entry) → RecordLaw s m (first s) es → PistonsByCalls s es

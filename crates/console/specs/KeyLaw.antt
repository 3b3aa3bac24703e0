-- Which keys are down and which a sustain holds, by the calls of a record alone. Assumes nothing.
use Rattle.std.specs.Prelude.{◌≡◌, ℕ, ◌||◌, List, [], ◌∷◌, ◌++◌}
use Rattle.chest.specs.Meaning.{Meaning}
use Rattle.console.specs.Model.{Setup, Model, first}
use Rattle.console.specs.Record.{Entry, RecordLaw, last_model}
use Rattle.console.specs.DoneCalls.{is_down, is_on, is_held}

-- the model console after a record from its making on
abbrev pub modelled : Setup → List Entry → Model
modelled s es = last_model s (first s) es

pub record KeysByCalls (s : Setup) (es : List Entry) : Type 0 where
  -- a key is down exactly if its last done press came after its last done lift and after its division's last clear
  pub down : (d k : ℕ) → (modelled s es).keys.down d k ≡ is_down d k es
  -- a sustain is on exactly if the last done call of its division that is a sustain or a clear was a sustain on
  pub sustain : (d : ℕ) → (modelled s es).keys.sustain d ≡ is_on d es
  -- then it holds exactly the keys that were down when it went on or were pressed since
  pub sustained : (d k : ℕ) → (modelled s es).keys.sustained d k ≡ is_held d k es

pub record KeyLaw : Type 0 where
  -- over every record
  pub keys : (s : Setup) (m : Meaning) (es : List Entry) → RecordLaw s m (first s) es → KeysByCalls s es
  -- and after its last call the rule's pipes speak for the keys that are down or held in this sense
  pub speaks : (s : Setup) (m : Meaning) (es : List Entry) (e : Entry) → RecordLaw s m (first s) (es ++ e ∷ []) → e.chest.speaking ≡ m.rule (modelled s (es ++ e ∷ [])).panel (λ d k. is_down d k (es ++ e ∷ []) || is_held d k (es ++ e ∷ []))

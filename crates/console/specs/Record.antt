-- The law over whole records: what holds at every entry from a making on, in the words of the chest and of the model
-- console. Assumes nothing.
use Rattle.std.specs.Prelude.{◌≡◌, ℕ, Bool, true, false, cond, ◌&&◌, List, [], ◌∷◌, ◌++◌, is_ok, Ok, Err, Result}
use Rattle.chest.specs.Places.{Places, none, differ, changed}
use Rattle.chest.specs.Meaning.{Meaning, next_strobe}
use Rattle.console.specs.declared.call.Call.{Call}
use Rattle.console.specs.declared.call.Call.TheVariants.{Press, Lift, Sustain, Clear, Turn, Capture, Recall, Cancel}
use Rattle.console.specs.declared.fault.PlayFault.{PlayFault}
use Rattle.console.specs.Keys.{sounding}
use Rattle.console.specs.Model.{Setup, Model, first, check, after}

abbrev pub Answer : Type 0
Answer = Result ℕ PlayFault

-- an entry: the call, what the console answered, and what the chest meant after it
pub record Entry : Type 0 where
  pub call : Call
  pub answer : Answer
  pub chest : Meaning

-- the pipes that the rule of the stack gives for the model's sounding keys and panel
abbrev pub pipes_of : Meaning → Model → Places
pipes_of m p = m.rule p.panel (sounding p.keys)

-- every call strobes but a capture
abbrev pub strobing : Call → Bool
strobing (Press d k) = true
strobing (Lift d k) = true
strobing (Sustain d on) = true
strobing (Clear d) = true
strobing (Turn k q) = true
strobing (Capture q) = false
strobing (Recall q) = true
strobing Cancel = true

-- the model's fault, or a number
abbrev pub answer_of : Result Unit PlayFault → ℕ → Answer
answer_of (Ok x) n = Ok n
answer_of (Err e) n = Err e

-- no key is down and no sustain is on
pub record AtRest (p : Model) : Type 0 where
  pub down : (d k : ℕ) → p.keys.down d k ≡ false
  pub sustain : (d : ℕ) → p.keys.sustain d ≡ false

-- the law at one entry, after a chest's meaning and a model
pub record EntryLaw (s : Setup) (before : Meaning) (p : Model) (e : Entry) : Type 0 where
  -- speaking: the pipes that speak are the rule's, and those change at which the rule's answer changed
  pub speaks : e.chest.speaking ≡ pipes_of before (after s p e.call)
  pub changes : (r k : ℕ) → differ (before.speaking r k) (e.chest.speaking r k) ≡ differ (pipes_of before p r k) (pipes_of before (after s p e.call) r k)
  -- answering: the model's fault, or the number of pipes that changed; 0 at a capture
  pub answers : e.answer ≡ answer_of (check s p e.call) (cond (strobing e.call) (changed before.speaking e.chest.speaking) 0)
  -- one strobe where the call is done and no capture, else none
  pub strobes : e.chest.strobes ≡ cond (is_ok (check s p e.call) && strobing e.call) (next_strobe before.strobes) before.strobes
  -- silence: at rest no pipe speaks
  pub silence : AtRest (after s p e.call) → e.chest.speaking ≡ none
  -- the chest keeps its rule and its reaches
  pub rule : e.chest.rule ≡ before.rule
  pub reach : e.chest.reach ≡ before.reach

-- the law at every entry of a record, each after what the entry before it left
abbrev pub RecordLaw : Setup → Meaning → Model → List Entry → Type 0
RecordLaw s m p [] = Unit {0}
RecordLaw s m p (e ∷ es) = EntryLaw s m p e × RecordLaw s e.chest (after s p e.call) es

-- what a record leaves
abbrev pub last_meaning : Meaning → List Entry → Meaning
last_meaning m [] = m
last_meaning m (e ∷ es) = last_meaning e.chest es

abbrev pub last_model : Setup → Model → List Entry → Model
last_model s p [] = p
last_model s p (e ∷ es) = last_model s (after s p e.call) es

-- a making is an entry too: it strobes once, lets nothing speak, and keeps the chest's rule and reaches
pub record Making (s : Setup) (before made : Meaning) : Type 0 where
  pub speaks : made.speaking ≡ pipes_of before (first s)
  pub silence : made.speaking ≡ none
  pub strobes : made.strobes ≡ next_strobe before.strobes
  pub rule : made.rule ≡ before.rule
  pub reach : made.reach ≡ before.reach

-- the law at any one entry of a record, whatever stands before and after it
abbrev pub EveryEntry : Type 0
EveryEntry =
    (s : Setup) (m : Meaning) (p : Model) (front : List Entry) (e : Entry) (rest : List Entry)
    → RecordLaw s m p (front ++ e ∷ rest) → EntryLaw s (last_meaning m front) (last_model s p front) e

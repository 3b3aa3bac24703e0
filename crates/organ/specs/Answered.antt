-- A list of messages, answered: what each message came to, the record of the calls, and the listing. Assumes nothing.
use Rattle.std.specs.Prelude.{◌≡◌, ℕ, List, [], ◌∷◌, ◌++◌}
use Rattle.std.specs.List.{flat_map}
use Rattle.chest.specs.Meaning.{Meaning}
use Rattle.midi.specs.declared.message.Message.{Message}
use Rattle.console.specs.declared.call.Call.{Call}
use Rattle.console.specs.declared.console.Console.{Console}
use Rattle.console.specs.Model.{Setup, Model}
use Rattle.console.specs.Plays.{Recorded}
use Rattle.console.specs.Record.{Answer}
use Rattle.organ.specs.declared.action.Action.{Action}
use Rattle.organ.specs.declared.action.Action.TheVariants.{Nothing, Perform, LowNote}
use Rattle.organ.specs.Action.{action_of, low_note}
use Rattle.organ.specs.declared.line.Line.TheVariants.{Fault}
use Rattle.organ.specs.Line.{line_bytes}
use Rattle.organ.specs.Responses.{line_of}

-- what a message came to: nothing, a note of a division that was too low, or a call with its answer
pub data Outcome : Type 0 where
  silent : Outcome
  low : ℕ → ℕ → Outcome
  did : Call → Answer → Outcome

-- the outcome of what a message asks for
abbrev pub IsOf : Action → Outcome → Type 0
IsOf Nothing silent = Unit {0}
IsOf Nothing (low e k) = ⊥
IsOf Nothing (did call r) = ⊥
IsOf (Perform c) silent = ⊥
IsOf (Perform c) (low e k) = ⊥
IsOf (Perform c) (did call r) = call ≡ c
IsOf (LowNote d n) silent = ⊥
IsOf (LowNote d n) (low e k) = (e ≡ d) × (k ≡ n)
IsOf (LowNote d n) (did call r) = ⊥

-- each message has its outcome, in order
abbrev pub AreOf : List Message → List Outcome → Type 0
AreOf [] [] = Unit {0}
AreOf [] (o ∷ os) = ⊥
AreOf (m ∷ ms) [] = ⊥
AreOf (m ∷ ms) (o ∷ os) = IsOf (action_of m) o × AreOf ms os

-- the calls, their answers and the lines of outcomes
abbrev pub call_in : Outcome → List Call
call_in silent = []
call_in (low d n) = []
call_in (did call r) = call ∷ []

abbrev pub answer_in : Outcome → List Answer
answer_in silent = []
answer_in (low d n) = []
answer_in (did call r) = r ∷ []

abbrev pub line_in : Outcome → List ℕ
line_in silent = []
line_in (low d n) = line_bytes (Fault (low_note d n))
line_in (did call r) = line_bytes (line_of r)

-- these messages were answered, from one console that stands as a model to another, and the listing grew by their lines:
-- the calls that they ask for and their answers are a record, with the law at every entry
pub record Answered {C : Type 0} (meaning : C → Meaning) (settled : C → Type 0) (c d : Console C) (s : Setup) (p : Model) (ms : List Message) (before after : List ℕ) : Type 0 where
  pub outcomes : List Outcome
  pub are : AreOf ms outcomes
  pub recorded : Recorded meaning settled c s p (flat_map call_in outcomes) (flat_map answer_in outcomes) d
  pub lines : after ≡ before ++ flat_map line_in outcomes

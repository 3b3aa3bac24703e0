-- Runs of calls: the model console after them, and what any console answers to them. Assumes nothing.
use Rattle.std.specs.Prelude.{◌≡◌, List, [], ◌∷◌, map}
use Rattle.chest.specs.Meaning.{Meaning}
use Rattle.console.specs.declared.call.Call.{Call}
use Rattle.console.specs.Model.{Setup, Model, first, after}
use Rattle.console.specs.Record.{Answer, Entry, Making, RecordLaw}

-- the model after some calls
abbrev pub after_all : Setup → Model → List Call → Model
after_all s p [] = p
after_all s p (c ∷ cs) = after_all s (after s p c) cs

-- whatever console is made on a stack: a record of just these calls from its making on has just these answers
abbrev pub AnswersSo : Setup → Meaning → List Call → List Answer → Type 0
AnswersSo s stack calls answers =
    (made : Meaning) (es : List Entry) → Making s stack made → RecordLaw s made (first s) es → map (λ e. e.call) es ≡ calls → map (λ e. e.answer) es ≡ answers

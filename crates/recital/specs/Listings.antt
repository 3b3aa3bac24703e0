-- The listing of a performance, as a function of the book's text and the line's bytes alone. Assumes nothing.
use Rattle.std.specs.Prelude.{ℕ, cond, List, [], ◌∷◌, ◌++◌, Ok, Err, Result}
use Rattle.chest.specs.Places.{changed}
use Rattle.chest.specs.Meaning.{Meaning}
use Rattle.midi.specs.declared.message.Message.{Message}
use Rattle.midi.specs.Reading.{reading}
use Rattle.book.specs.declared.book_fault.BookFault.{BookFault}
use Rattle.book.specs.Entry.{Entry}
use Rattle.book.specs.Reading.{read_of}
use Rattle.console.specs.declared.call.Call.{Call}
use Rattle.console.specs.Model.{Setup, Model, first, check, after}
use Rattle.console.specs.Record.{Answer, pipes_of, strobing, answer_of}
use Rattle.organ.specs.declared.action.Action.{Action}
use Rattle.organ.specs.declared.action.Action.TheVariants.{Nothing, Perform, LowNote}
use Rattle.organ.specs.declared.refusal.Refusal.{Refusal}
use Rattle.organ.specs.Action.{action_of, low_note}
use Rattle.organ.specs.declared.line.Line.TheVariants.{Fault}
use Rattle.organ.specs.Assembly.{Hung}
use Rattle.organ.specs.Line.{line_bytes}
use Rattle.organ.specs.Responses.{line_of}
use Rattle.organ.specs.Refused.{fault_line, refusal_line}
use Rattle.recital.specs.Described.{setup_said, hung_said, stack_said}

module _ (s : Setup) where
  -- what is asked for makes of the model what its call does
  abbrev pub action_after : Model → Action → Model
  action_after p Nothing = p
  action_after p (Perform call) = after s p call
  action_after p (LowNote division note) = p

  -- the model after messages
  abbrev pub model_after : Model → List Message → Model
  model_after p [] = p
  model_after p (m ∷ ms) = model_after (action_after p (action_of m)) ms

module _ (s : Setup) (stack : Meaning) where
  -- what the model answers: its fault, or at how many pipes the rule's answer changes; 0 at a capture
  abbrev pub model_answer : Model → Call → Answer
  model_answer p call =
      answer_of (check s p call) (cond (strobing call) (changed (pipes_of stack p) (pipes_of stack (after s p call))) 0)

  -- the line of what is asked for
  abbrev pub action_line : Model → Action → List ℕ
  action_line p Nothing = []
  action_line p (Perform call) = line_bytes (line_of (model_answer p call))
  action_line p (LowNote division note) = line_bytes (Fault (low_note division note))

  -- the lines of messages, from a model on
  abbrev pub message_lines : Model → List Message → List ℕ
  message_lines p [] = []
  message_lines p (m ∷ ms) = action_line p (action_of m) ++ message_lines (action_after s p (action_of m)) ms

-- the lines of an organ's service, or the line of the first wire that its board refuses
abbrev pub organ_listing : Setup → (Hung → Meaning) → Result Hung Refusal → List ℕ → List ℕ
organ_listing s stack (Ok h) bytes = message_lines s (stack h) (first s) (reading bytes)
organ_listing s stack (Err r) bytes = line_bytes (refusal_line r)

-- the same for the forms of a book, or the line of the book's fault
abbrev pub book_listing : Result (List Entry) BookFault → List ℕ → List ℕ
book_listing (Ok es) bytes = organ_listing (setup_said es) (stack_said es) (hung_said es) bytes
book_listing (Err f) bytes = line_bytes (fault_line f)

-- the listing of a text and the bytes of a line
abbrev pub listing_of : List ℕ → List ℕ → List ℕ
listing_of text bytes = book_listing (read_of text) bytes

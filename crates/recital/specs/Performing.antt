-- What a performance lists, in the words of grammar, rule, reading and record. Assumes nothing.
use Rattle.std.specs.Prelude.{◌≡◌, ℕ, List, ◌++◌, map, Ok, Err, Result}
use Rattle.std.specs.List.{flat_map}
use Rattle.chest.specs.Meaning.{Meaning}
use Rattle.midi.specs.Reading.{reading}
use Rattle.book.specs.declared.book_fault.BookFault.{BookFault}
use Rattle.book.specs.Entry.{Entry as Written}
use Rattle.book.specs.Grammar.{Lines, text_of, entries_of, Good, Rejects}
use Rattle.book.specs.Reading.{read_of}
use Rattle.console.specs.Model.{Setup, first}
use Rattle.console.specs.Record.{Entry, RecordLaw, Making}
use Rattle.organ.specs.declared.refusal.Refusal.{Refusal}
use Rattle.organ.specs.declared.line.Line.{Line}
use Rattle.organ.specs.Assembly.{Hung}
use Rattle.organ.specs.Answered.{Outcome, AreOf, call_in, answer_in, line_in}
use Rattle.organ.specs.Line.{line_bytes}
use Rattle.organ.specs.Refused.{fault_line, refusal_line}
use Rattle.recital.specs.declared.recital.Recital.{Recital}
use Rattle.recital.specs.Recital.{GoesOn, MagnetStack, magnet_stack_meaning, MagnetStackSettled}
use Rattle.recital.specs.Described.{setup_said, hung_said, stack_said}
use Rattle.recital.specs.Listings.{listing_of}

-- a service: a making over the stack, and then a record of just the calls that the messages of the line ask for, in
-- their order, with the console's law whole at every entry; what is listed is just the lines of what they came to
pub record Service (s : Setup) (stack : Meaning) (bytes given : List ℕ) : Type 0 where
  pub made : Meaning
  pub making : Making s stack made
  pub outcomes : List Outcome
  pub are : AreOf (reading bytes) outcomes
  pub entries : List Entry
  pub calls : map (λ e. e.call) entries ≡ flat_map call_in outcomes
  pub answers : map (λ e. e.answer) entries ≡ flat_map answer_in outcomes
  pub law : RecordLaw s made (first s) entries
  pub lines : given ≡ flat_map line_in outcomes

-- a service on an organ of these wires, or the line of the first wire that its board refuses
abbrev pub Gives : Setup → (Hung → Meaning) → Result Hung Refusal → List ℕ → List ℕ → Type 0
Gives s stack (Ok h) bytes given = Service s (stack h) bytes given
Gives s stack (Err r) bytes given = given ≡ line_bytes (refusal_line r)

-- a text is a book with these forms, by its reading and by the grammar
pub record IsBook (text : List ℕ) (es : List Written) : Type 0 where
  pub reads : read_of text ≡ Ok es
  pub lines : Lines
  pub written : text ≡ text_of lines
  pub good : Good lines
  pub forms : es ≡ entries_of lines

-- a text is no book: this is its first fault, by its reading and by the grammar
pub record NoBook (text : List ℕ) (f : BookFault) : Type 0 where
  pub reads : read_of text ≡ Err f
  pub rejects : Rejects f text

-- what is listed for a text and the bytes of a line
pub data Performs (text bytes given : List ℕ) : Type 0 where
  -- the text is no book: the line of its first fault
  faulty : (f : BookFault) → NoBook text f → given ≡ line_bytes (fault_line f) → Performs text bytes given
  -- it is a book, and a board refuses a wire: the line of the first such wire
  unwired : (es : List Written) → IsBook text es → (r : Refusal) → hung_said es ≡ Err r → given ≡ line_bytes (refusal_line r) → Performs text bytes given
  -- it is a book, and its boards take all wires: the lines of a service on its organ
  played : (es : List Written) → IsBook text es → (h : Hung) → hung_said es ≡ Ok h → Service (setup_said es) (stack_said es h) bytes given → Performs text bytes given

-- what was added to a listing is what is listed for this text and these bytes
abbrev pub Performed : (text bytes before after : List ℕ) → Type 0
Performed text bytes before after = (given : List ℕ) × (after ≡ before ++ given) × Performs text bytes given

-- a recital on which each list of bytes that is played performs this text; or the line that is listed whatever the bytes
abbrev pub BeginsOn : List ℕ → Result (Recital MagnetStack) Line → Type 0
BeginsOn text (Ok r) =
    (q : Recital MagnetStack) (bytes before after : List ℕ)
    → GoesOn magnet_stack_meaning MagnetStackSettled r q bytes before after → Performed text bytes before after
BeginsOn text (Err l) = (bytes : List ℕ) → Performs text bytes (line_bytes l)

-- that leaves no choice: what is listed is the listing by its definition
abbrev pub ListingLaw : Type 0
ListingLaw = (text bytes given : List ℕ) → Performs text bytes given → given ≡ listing_of text bytes

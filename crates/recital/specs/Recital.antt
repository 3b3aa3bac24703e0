-- A recital that begins on the organ of a book, and the next bytes of its line, played. Assumes nothing.
use Rattle.std.specs.Prelude.{◌≡◌, ℕ, List, [], ◌∷◌, ◌++◌, Some, None, Ok, Err, Option, Result}
use Rattle.std.specs.Option.{option_to_list}
use Rattle.chest.specs.Meaning.{Meaning}
use Rattle.midi.specs.declared.message.Message.{Message}
use Rattle.midi.specs.Reading.{reading}
use Rattle.midi.specs.State.{HasRead, Feeds}
use Rattle.book.specs.declared.book.Book.{Book}
use Rattle.book.specs.Book.{pipes_in}
use Rattle.book.specs.Entry.{Entry}
use Rattle.book.specs.Reading.{read_of}
use Rattle.bottom.specs.declared.magnet_chest.MagnetChest.{MagnetChest}
use Rattle.bottom.specs.MagnetChest.{magnet_meaning, MagnetSettled}
use Rattle.console.specs.declared.console.Console.{Console}
use Rattle.console.specs.Model.{Setup, Model, first}
use Rattle.console.specs.Tracks.{Tracks}
use Rattle.organ.specs.declared.refusal.Refusal.{Refusal}
use Rattle.organ.specs.Action.{action_of}
use Rattle.organ.specs.Assembly.{Hung}
use Rattle.organ.specs.Responses.{Responds}
use Rattle.organ.specs.Answered.{Answered}
use Rattle.organ.specs.Opening.{Opens, new_ranks}
use Rattle.recital.specs.declared.recital.Recital.{Recital}
use Rattle.recital.specs.Described.{setup_said, hung_said, stack_said, book_hung}
use Rattle.recital.specs.Listings.{model_after, listing_of}
use Rattle.organ.specs.Stack.{Stack, stacked, StackSettled}

module _ {C : Type 0} (meaning : C → Meaning) (settled : C → Type 0) where
  -- the message that a byte ends, if it ends one, is answered
  abbrev pub Response : Option Message → Console C → Console C → List ℕ → List ℕ → Type 0
  Response None c d before after = (d ≡ c) × (after ≡ before)
  Response (Some m) c d before after = Responds meaning settled (action_of m) c d before after

  -- one byte is read, and its message answered
  pub record Hears (r q : Recital C) (byte : ℕ) (before after : List ℕ) : Type 0 where
    pub message : Option Message
    pub feeds : Feeds r.reader.state (byte ∷ []) (option_to_list message) q.reader.state
    pub response : Response message r.console q.console before after

  -- the next bytes are read, whatever line was read before them: the messages are what they add to its reading, and the
  -- line with them is read then. These messages are answered, whatever model the console stood as: the calls that they
  -- ask for are a record with the law at every entry, and the listing grew by just their lines
  pub record GoesOn (r q : Recital C) (bytes before after : List ℕ) : Type 0 where
    pub messages : List Message
    pub feeds : Feeds r.reader.state bytes messages q.reader.state
    pub answered : (s : Setup) (p : Model) → Tracks meaning settled r.console s p → Answered meaning settled r.console q.console s p messages before after

  -- a recital on the organ of this text has been played this line: console and reader stand as that leaves them
  pub record CaughtUp (r : Recital C) (text line : List ℕ) : Type 0 where
    pub forms : List Entry
    pub read : read_of text ≡ Ok forms
    pub hung : Hung
    pub wired : hung_said forms ≡ Ok hung
    pub heard : HasRead r.reader.state line
    pub tracks : Tracks meaning settled r.console (setup_said forms) (model_after (setup_said forms) (first (setup_said forms)) (reading line))
    pub rule : (meaning r.console.chest).rule ≡ (stack_said forms hung).rule

  -- it is played these bytes too, and lists what the whole listing of the longer line has more
  pub record ListsOn (q : Recital C) (bytes before after text line : List ℕ) : Type 0 where
    pub caught_up : CaughtUp q text (line ++ bytes)
    pub given : List ℕ
    pub grows : after ≡ before ++ given
    pub more : listing_of text (line ++ bytes) ≡ listing_of text line ++ given

-- coupler board and stop board over a magnet chest: what they mean, and when they are settled
abbrev pub MagnetStack : Type 0
MagnetStack = Stack MagnetChest

abbrev pub magnet_stack_meaning : MagnetStack → Meaning
magnet_stack_meaning = stacked magnet_meaning

abbrev pub MagnetStackSettled : MagnetStack → Type 0
MagnetStackSettled = StackSettled magnet_meaning MagnetSettled

-- a recital on the organ of a book's record over a new magnet chest, and no byte of its line is read; or the refusal
abbrev pub Begins : Book → Result (Recital MagnetStack) Refusal → Type 0
Begins b (Ok q) =
    Opens magnet_meaning MagnetSettled b (new_ranks (pipes_in b)) (book_hung b) (Ok q.console) × HasRead q.reader.state []
Begins b (Err e) = Opens magnet_meaning MagnetSettled b (new_ranks (pipes_in b)) (book_hung b) (Err e)

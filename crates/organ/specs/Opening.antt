-- A console over the stack of a book. Assumes nothing.
use Rattle.std.specs.Prelude.{◌≡◌, ℕ, Ok, Err, Result}
use Rattle.chest.specs.Places.{none}
use Rattle.chest.specs.Meaning.{Meaning}
use Rattle.book.specs.declared.book.Book.{Book}
use Rattle.book.specs.Book.{keys_in}
use Rattle.console.specs.declared.console.Console.{Console}
use Rattle.console.specs.Model.{Setup, Model, first}
use Rattle.console.specs.Record.{Making}
use Rattle.console.specs.Tracks.{Tracks}
use Rattle.organ.specs.declared.refusal.Refusal.{Refusal}
use Rattle.organ.specs.Assembly.{Hung, stack_meaning}
use Rattle.organ.specs.Tables.{book_steps, book_home, book_scope}
use Rattle.organ.specs.Stack.{Stack, stacked, StackSettled}

-- what the model console is given: the divisions, knobs and pistons of the book
abbrev pub book_setup : Book → Setup
book_setup b = record { reach = keys_in b; steps = book_steps b; home = book_home b; scope = book_scope b }

-- a new bottom chest with these ranks: empty, every knob at 0, not strobed, and its rule gives the register back
abbrev pub new_ranks : (ℕ → ℕ) → Meaning
new_ranks reach =
    record { reach = reach; register = none; panel = λ k. 0; speaking = none; strobes = 0; rule = λ panel register. register }

module _ {C : Type 0} (meaning : C → Meaning) (settled : C → Type 0) where
  abbrev pub Organ : Type 0
  Organ = Console (Stack C)

  -- what the stack of a console means
  abbrev pub organ_meaning : Organ → Meaning
  organ_meaning c = stacked meaning c.chest

  -- a console that stands as a model
  abbrev pub OrganTracks : Organ → Setup → Model → Type 0
  OrganTracks = Tracks (stacked meaning) (StackSettled meaning settled)

  -- a making over the stack of the book's wires, after which the console stands as the first model of the book;
  -- or the first wire that its board refuses
  abbrev pub Opens : Book → Meaning → Result Hung Refusal → Result Organ Refusal → Type 0
  Opens b m (Ok h) (Ok c) =
      Making (book_setup b) (stack_meaning (keys_in b) m h) (organ_meaning c) × OrganTracks c (book_setup b) (first (book_setup b))
  Opens b m (Ok h) (Err e) = ⊥
  Opens b m (Err e) (Ok c) = ⊥
  Opens b m (Err e) (Err f) = f ≡ e

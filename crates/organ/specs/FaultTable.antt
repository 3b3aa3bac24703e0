-- Every fault and its number, in one table. Assumes nothing.
use Rattle.std.specs.Prelude.{◌≡◌, ℕ}
use Rattle.chest.specs.declared.fault.ChestFault.TheVariants as chest
use Rattle.chest.specs.ChestFault as chest_fault
use Rattle.console.specs.declared.fault.PlayFault.TheVariants as play
use Rattle.console.specs.PlayFault as play_fault
use Rattle.wires.specs.declared.fault.BoardFault.TheVariants as board
use Rattle.wires.specs.declared.fault.RowRefused.{RowRefused}
use Rattle.wires.specs.BoardFault as board_fault
use Rattle.bottom.specs.declared.fault.BufferFault.TheVariants as buffer
use Rattle.bottom.specs.BufferFault as buffer_fault
use Rattle.book.specs.declared.book_fault.BookFault.TheVariants as book
use Rattle.book.specs.BookFault as book_fault
use Rattle.organ.specs.declared.refusal.Refusal.{Refusal}
use Rattle.organ.specs.Assembly.{refusal_number}

-- the player's: 1 to 8
pub record OfPlayers : Type 0 where
  pub division : (d : ℕ) → play_fault.number_of (play.Division d) ≡ 1
  pub key : (d k : ℕ) → play_fault.number_of (play.Key d k) ≡ 2
  pub key_down : (d k : ℕ) → play_fault.number_of (play.KeyDown d k) ≡ 3
  pub key_up : (d k : ℕ) → play_fault.number_of (play.KeyUp d k) ≡ 4
  pub knob : (k : ℕ) → play_fault.number_of (play.Knob k) ≡ 5
  pub position : (k q : ℕ) → play_fault.number_of (play.Position k q) ≡ 6
  pub piston : (q : ℕ) → play_fault.number_of (play.Piston q) ≡ 7
  pub never_captured : (q : ℕ) → play_fault.number_of (play.NeverCaptured q) ≡ 8

-- those of a chest and of a board: 11 to 19
pub record OfWiring : Type 0 where
  pub row : (r : ℕ) → chest_fault.number_of (chest.Row r) ≡ 11
  pub place : (r p : ℕ) → chest_fault.number_of (chest.Place r p) ≡ 12
  pub knob : (k : ℕ) → chest_fault.number_of (chest.Knob k) ≡ 13
  pub position : (k q : ℕ) → chest_fault.number_of (chest.Position k q) ≡ 14
  pub held : board_fault.number_of board.Held ≡ 15
  pub full : board_fault.number_of board.Full ≡ 16
  pub keys : (from to : ℕ) → board_fault.number_of (board.Keys from to) ≡ 17
  pub to_row : (e : RowRefused) → board_fault.number_of (board.ToRow e) ≡ 11
  pub no_places : (from to : ℕ) → board_fault.number_of (board.NoPlaces from to) ≡ 18
  pub shift : (from to : ℕ) → board_fault.number_of (board.Shift from to) ≡ 19
  pub wait_knob : (k : ℕ) → board_fault.number_of (board.Knob k) ≡ 13
  pub wait_position : (k : ℕ) → board_fault.number_of (board.Position k) ≡ 14

-- the host's, 21, and those of whoever writes a book, 31 to 37, with the line of the book
pub record OfBooks : Type 0 where
  pub buffer : (n : ℕ) → buffer_fault.number_of (buffer.Length n) ≡ 21
  pub too_long : (book_fault.number_of book.TooLong ≡ 31) × (book_fault.line_of book.TooLong ≡ 0)
  pub byte : (n at : ℕ) → (book_fault.number_of (book.Byte n at) ≡ 32) × (book_fault.line_of (book.Byte n at) ≡ n)
  pub shape : (n : ℕ) → (book_fault.number_of (book.Shape n) ≡ 33) × (book_fault.line_of (book.Shape n) ≡ n)
  pub form : (n : ℕ) → (book_fault.number_of (book.Form n) ≡ 34) × (book_fault.line_of (book.Form n) ≡ n)
  pub range : (n : ℕ) → (book_fault.number_of (book.Range n) ≡ 35) × (book_fault.line_of (book.Range n) ≡ n)
  pub repeat : (n : ℕ) → (book_fault.number_of (book.Repeat n) ≡ 36) × (book_fault.line_of (book.Repeat n) ≡ n)
  pub refused : (r : Refusal) → refusal_number r ≡ 37

pub record FaultTable : Type 0 where
  pub players : OfPlayers
  pub wiring : OfWiring
  pub books : OfBooks

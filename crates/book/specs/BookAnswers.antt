-- What the record of a book answers, entry by entry. Assumes nothing.
use Rattle.std.specs.Prelude.{◌≡◌, ℕ, List, ◌∷◌, ◌++◌, length, Some, None, Ok, Result}
use Rattle.std.specs.List.{count_by}
use Rattle.book.specs.declared.board.Board.{Board}
use Rattle.book.specs.declared.book.Book.{Book}
use Rattle.book.specs.declared.book.BookWire.{BookWire}
use Rattle.book.specs.declared.book_fault.BookFault.{BookFault}
use Rattle.book.specs.declared.form.Form.TheVariants.{Keys, Rank, Knob, Piston, Wire}
use Rattle.fittings.specs.declared.Wire as fittings
use Rattle.book.specs.Book.{keys_in, pipes_in, knob_in, scope_in, wires_in}
use Rattle.book.specs.Entry.{Entry}
use Rattle.book.specs.LineByLine.{Among, is_wire}
use Rattle.book.specs.Reading.{read_of}

-- a record of these entries
pub record Answered (b : Book) (es : List Entry) : Type 0 where
  -- a division that is given has its keys, and any other has none
  pub keys : (line r n : ℕ) → Among (record { line = line; form = Keys r n }) es → keys_in b r ≡ n
  pub no_keys : (r : ℕ) → ((line n : ℕ) → Among (record { line = line; form = Keys r n }) es → ⊥) → keys_in b r ≡ 0
  -- a rank that is given has its pipes, and any other has none
  pub pipes : (line r n : ℕ) → Among (record { line = line; form = Rank r n }) es → pipes_in b r ≡ n
  pub no_pipes : (r : ℕ) → ((line n : ℕ) → Among (record { line = line; form = Rank r n }) es → ⊥) → pipes_in b r ≡ 0
  -- a knob that is given has its steps and its home, and no other is defined
  pub knob : (line k s h : ℕ) → Among (record { line = line; form = Knob k s h }) es → knob_in b k ≡ Some (record { steps = s; home = h })
  pub no_knob : (k : ℕ) → ((line s h : ℕ) → Among (record { line = line; form = Knob k s h }) es → ⊥) → knob_in b k ≡ None
  -- a piston that is given has its knobs, and no other is defined
  pub scope : (line p l h : ℕ) → Among (record { line = line; form = Piston p l h }) es → scope_in b p ≡ Some (record { lowest = l; highest = h })
  pub no_scope : (p : ℕ) → ((line l h : ℕ) → Among (record { line = line; form = Piston p l h }) es → ⊥) → scope_in b p ≡ None
  -- a wire stands behind as many as are given before it, with its line and its board
  pub wire : (line : ℕ) (board : Board) (wire : fittings.Wire) (front back : List Entry) → es ≡ front ++ record { line = line; form = Wire board wire } ∷ back → (before : List BookWire) × (after : List BookWire) × (wires_in b ≡ before ++ record { line = line; board = board; wire = wire } ∷ after) × (length before ≡ count_by is_wire front)
  -- and there are no wires but these
  pub wires : length (wires_in b) ≡ count_by is_wire es

-- a good book has such a record
unfoldable pub Entered : Result Book BookFault → List ℕ → Type 0
Entered r text = (es : List Entry) → read_of text ≡ Ok es → (b : Book) × (r ≡ Ok b) × Answered b es

-- What the console of a book is given, form by form. Assumes nothing.
use Rattle.std.specs.Prelude.{◌≡◌, ℕ, Some, None}
use Rattle.book.specs.declared.book.Book.{Book}
use Rattle.book.specs.Book.{keys_in, knob_in, scope_in}
use Rattle.fittings.specs.declared.Knob.{Knob}
use Rattle.organ.specs.Opening.{book_setup}

pub record BookSetup (b : Book) : Type 0 where
  -- each division has the keys of the book
  pub keys : (division : ℕ) → (book_setup b).reach division ≡ keys_in b division
  -- each knob of the book has its steps and its home, and no other is defined
  pub knob : (k : ℕ) (knob : Knob) → knob_in b k ≡ Some knob → ((book_setup b).steps k ≡ Some knob.steps) × ((book_setup b).home k ≡ knob.home)
  pub no_knob : (k : ℕ) → knob_in b k ≡ None → ((book_setup b).steps k ≡ None) × ((book_setup b).home k ≡ 0)
  -- each piston of the book has its scope, and no other is defined
  pub piston : (q : ℕ) → (book_setup b).scope q ≡ scope_in b q

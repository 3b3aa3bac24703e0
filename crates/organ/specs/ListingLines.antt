-- Every line of a listing, byte for byte. Assumes nothing.
use Rattle.std.specs.Prelude.{◌≡◌, ℕ, [], ◌∷◌, ◌++◌, codes, decimal, Ok, Err}
use Rattle.wires.specs.declared.fault.BoardFault.{BoardFault}
use Rattle.console.specs.declared.fault.PlayFault.TheVariants as play
use Rattle.book.specs.declared.book_fault.BookFault.TheVariants as book
use Rattle.organ.specs.declared.line.Line.TheVariants.{Done, Book, Wire}
use Rattle.organ.specs.Line.{line_bytes}
use Rattle.organ.specs.Responses.{line_of}

-- of a call that was done: a bracket, the word, one space, the number, a bracket, and the byte 10
pub record OfDone : Type 0 where
  pub done : (n : ℕ) → line_bytes (line_of (Ok n)) ≡ 40 ∷ 100 ∷ 111 ∷ 110 ∷ 101 ∷ 32 ∷ (decimal n ++ 41 ∷ 10 ∷ [])
  pub none : line_bytes (Done 0) ≡ codes "(done 0)\n"
  pub most : line_bytes (Done 2048) ≡ codes "(done 2048)\n"

-- of a call that was refused
pub record OfFaults : Type 0 where
  pub division : (d : ℕ) → line_bytes (line_of (Err (play.Division d))) ≡ codes "(fault 1)\n"
  pub key : (d k : ℕ) → line_bytes (line_of (Err (play.Key d k))) ≡ codes "(fault 2)\n"
  pub key_down : (d k : ℕ) → line_bytes (line_of (Err (play.KeyDown d k))) ≡ codes "(fault 3)\n"
  pub key_up : (d k : ℕ) → line_bytes (line_of (Err (play.KeyUp d k))) ≡ codes "(fault 4)\n"
  pub knob : (k : ℕ) → line_bytes (line_of (Err (play.Knob k))) ≡ codes "(fault 5)\n"
  pub position : (k q : ℕ) → line_bytes (line_of (Err (play.Position k q))) ≡ codes "(fault 6)\n"
  pub piston : (q : ℕ) → line_bytes (line_of (Err (play.Piston q))) ≡ codes "(fault 7)\n"
  pub never_captured : (q : ℕ) → line_bytes (line_of (Err (play.NeverCaptured q))) ≡ codes "(fault 8)\n"

-- of a book that is refused: the number, one space, and the line of the book
pub record OfBooks : Type 0 where
  pub too_long : line_bytes (Book book.TooLong) ≡ codes "(fault 31 0)\n"
  pub byte : (n at : ℕ) → line_bytes (Book (book.Byte n at)) ≡ codes "(fault 32 " ++ (decimal n ++ codes ")\n")
  pub shape : (n : ℕ) → line_bytes (Book (book.Shape n)) ≡ codes "(fault 33 " ++ (decimal n ++ codes ")\n")
  pub form : (n : ℕ) → line_bytes (Book (book.Form n)) ≡ codes "(fault 34 " ++ (decimal n ++ codes ")\n")
  pub range : (n : ℕ) → line_bytes (Book (book.Range n)) ≡ codes "(fault 35 " ++ (decimal n ++ codes ")\n")
  pub repeat : (n : ℕ) → line_bytes (Book (book.Repeat n)) ≡ codes "(fault 36 " ++ (decimal n ++ codes ")\n")
  pub refused : (n : ℕ) (e : BoardFault) → line_bytes (Wire (record { line = n; fault = e })) ≡ codes "(fault 37 " ++ (decimal n ++ codes ")\n")

pub record ListingLines : Type 0 where
  pub done : OfDone
  pub faults : OfFaults
  pub books : OfBooks

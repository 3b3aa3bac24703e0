-- The one line that is listed for a book that is refused. Assumes nothing.
use Rattle.book.specs.declared.book_fault.BookFault.{BookFault}
use Rattle.organ.specs.declared.refusal.Refusal.{Refusal}
use Rattle.organ.specs.declared.line.Line.{Line}
use Rattle.organ.specs.declared.line.Line.TheVariants.{Book, Wire}

-- the text is no book
abbrev pub fault_line : BookFault → Line
fault_line = Book

-- a board refuses a wire
abbrev pub refusal_line : Refusal → Line
refusal_line = Wire

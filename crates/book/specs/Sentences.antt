-- What is wrong with a refused book, in one sentence. Assumes nothing.
use Rattle.std.specs.Prelude.{ℕ, List, codes}
use Rattle.book.specs.declared.book_fault.BookFault.{BookFault}
use Rattle.book.specs.declared.book_fault.BookFault.TheVariants.{TooLong, Byte, Shape, Form, Range, Repeat}

abbrev pub sentence_of : BookFault → List ℕ
sentence_of TooLong = codes "The book has more than 65536 bytes."
sentence_of (Byte n at) = codes "A byte is neither a space, a digit, a small letter, a minus nor a bracket."
sentence_of (Shape n) = codes "The line is not built as a form, or it has no end."
sentence_of (Form n) = codes "No form has this word with this many numbers."
sentence_of (Range n) = codes "A number is out of its range."
sentence_of (Repeat n) = codes "This was given before, or the book has too many wires."

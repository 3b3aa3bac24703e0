-- The number and the line of each fault of a book. Assumes nothing.
use Rattle.std.specs.Prelude.{ℕ}
use Rattle.book.specs.declared.book_fault.BookFault.{BookFault}
use Rattle.book.specs.declared.book_fault.BookFault.TheVariants.{TooLong, Byte, Shape, Form, Range, Repeat}

abbrev pub number_of : BookFault → ℕ
number_of TooLong = 31
number_of (Byte n at) = 32
number_of (Shape n) = 33
number_of (Form n) = 34
number_of (Range n) = 35
number_of (Repeat n) = 36

-- counted from 1; 0 where no line is at fault
abbrev pub line_of : BookFault → ℕ
line_of TooLong = 0
line_of (Byte n at) = n
line_of (Shape n) = n
line_of (Form n) = n
line_of (Range n) = n
line_of (Repeat n) = n

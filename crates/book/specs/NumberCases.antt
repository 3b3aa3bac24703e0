-- How a number is written, and how a line is built. Assumes nothing.
use Rattle.std.specs.Prelude.{◌≡◌, pos, neg_ℤ, Err, codes}
use Rattle.book.specs.declared.board.Board.TheVariants.{Coupler}
use Rattle.book.specs.declared.book_fault.BookFault.TheVariants.{Shape}
use Rattle.book.specs.declared.form.Form.TheVariants.{Wire}
use Rattle.book.specs.Reading.{read_of}
use Rattle.book.specs.Cases.{Says, Faults}

-- one to four digits, without a leading zero, and perhaps a minus
pub record NumberCases : Type 0 where
  -- four nines at every place, and at the shift with a minus
  pub four : Says (codes "(wire 1 9999 9999 9999 9999 -9999 9999 9999)") (Wire Coupler (record { from = 9999; lowest = 9999; highest = 9999; to = 9999; shift = neg_ℤ (pos 9999); knob = 9999; position = 9999 }))
  -- a shift may be as large without one
  pub four_up : Says (codes "(wire 1 1000 100 10 0 9999 1 9)") (Wire Coupler (record { from = 1000; lowest = 100; highest = 10; to = 0; shift = pos 9999; knob = 1; position = 9 }))
  -- five digits at no place
  pub five_board : Faults (codes "(wire 10000 0 0 0 0 0 0 0)") (Shape 1)
  pub five_from : Faults (codes "(wire 1 10000 0 0 0 0 0 0)") (Shape 1)
  pub five_lowest : Faults (codes "(wire 1 0 10000 0 0 0 0 0)") (Shape 1)
  pub five_highest : Faults (codes "(wire 1 0 0 10000 0 0 0 0)") (Shape 1)
  pub five_to : Faults (codes "(wire 1 0 0 0 10000 0 0 0)") (Shape 1)
  pub five_shift : Faults (codes "(wire 1 0 0 0 0 10000 0 0)") (Shape 1)
  pub five_knob : Faults (codes "(wire 1 0 0 0 0 0 10000 0)") (Shape 1)
  pub five_position : Faults (codes "(wire 1 0 0 0 0 0 0 10000)") (Shape 1)
  -- nor after a minus
  pub five_below : Faults (codes "(wire 1 0 0 0 0 -10000 0 0)") (Shape 1)
  -- no leading zero
  pub zero_first : Faults (codes "(keys 01 2)") (Shape 1)
  pub zero_twice : Faults (codes "(keys 1 00)") (Shape 1)
  pub zero_after_minus : Faults (codes "(wire 1 0 0 0 0 -01 0 0)") (Shape 1)
  -- 0 is written without a minus
  pub minus_zero : Faults (codes "(wire 1 0 0 0 0 -0 0 0)") (Shape 1)
  -- no minus alone, no two, and none behind the digits
  pub minus_alone : Faults (codes "(wire 1 0 0 0 0 - 0 0)") (Shape 1)
  pub minus_twice : Faults (codes "(wire 1 0 0 0 0 --1 0 0)") (Shape 1)
  pub minus_behind : Faults (codes "(wire 1 0 0 0 0 1- 0 0)") (Shape 1)

-- an opening bracket, a word, one space before each number, and a closing bracket
pub record ShapeCases : Type 0 where
  -- two spaces before the first number, or the second
  pub spaces_first : Faults (codes "(keys  1 2)") (Shape 1)
  pub spaces_second : Faults (codes "(keys 1  2)") (Shape 1)
  -- a space before a bracket or behind one
  pub space_before_close : Faults (codes "(keys 1 2 )") (Shape 1)
  pub space_after_close : Faults (codes "(keys 1 2) ") (Shape 1)
  pub space_before_open : Faults (codes " (keys 1 2)") (Shape 1)
  pub space_after_open : Faults (codes "( keys 1 2)") (Shape 1)
  -- no space, or a space alone
  pub no_space : Faults (codes "(keys1 2)") (Shape 1)
  pub space_alone : Faults (codes " ") (Shape 1)
  -- a bracket too few or too many, or the other one
  pub no_open : Faults (codes "keys 1 2)") (Shape 1)
  pub no_close : Faults (codes "(keys 1 2") (Shape 1)
  pub open_twice : Faults (codes "((keys 1 2)") (Shape 1)
  pub close_twice : Faults (codes "(keys 1 2))") (Shape 1)
  pub turned : Faults (codes ")keys 1 2(") (Shape 1)
  -- two forms on one line
  pub two_forms : Faults (codes "(keys 1 2)(rank 3 4)") (Shape 1)
  -- no word, a number for a word, or a word for a number
  pub no_word : Faults (codes "()") (Shape 1)
  pub number_first : Faults (codes "(1 2)") (Shape 1)
  pub word_again : Faults (codes "(keys 1 two)") (Shape 1)
  -- a line that has no end, on the line that it is
  pub no_end : read_of (codes "(keys 1 2)") ≡ Err (Shape 1)

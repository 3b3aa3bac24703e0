-- The last number that is good at each place of a form, and the first that is not. Assumes nothing.
use Rattle.std.specs.Prelude.{pos, codes}
use Rattle.book.specs.declared.board.Board.TheVariants.{Coupler, Stop}
use Rattle.book.specs.declared.book_fault.BookFault.TheVariants.{Range}
use Rattle.book.specs.declared.form.Form.TheVariants.{Keys, Rank, Knob, Piston, Wire}
use Rattle.book.specs.Cases.{Says, Faults}

-- divisions and ranks 0 to 15, of 0 to 128 keys or pipes
pub record RowCases : Type 0 where
  -- the smallest
  pub keys_lowest : Says (codes "(keys 0 0)") (Keys 0 0)
  pub rank_lowest : Says (codes "(rank 0 0)") (Rank 0 0)
  -- the largest
  pub keys_highest : Says (codes "(keys 15 128)") (Keys 15 128)
  pub rank_highest : Says (codes "(rank 15 128)") (Rank 15 128)
  -- no sixteenth row
  pub keys_row : Faults (codes "(keys 16 1)") (Range 1)
  pub rank_row : Faults (codes "(rank 16 1)") (Range 1)
  -- no reach of 129
  pub keys_reach : Faults (codes "(keys 1 129)") (Range 1)
  pub rank_reach : Faults (codes "(rank 1 129)") (Range 1)
  -- and no minus at either number
  pub keys_row_minus : Faults (codes "(keys -1 1)") (Range 1)
  pub keys_reach_minus : Faults (codes "(keys 1 -1)") (Range 1)
  pub rank_row_minus : Faults (codes "(rank -1 1)") (Range 1)
  pub rank_reach_minus : Faults (codes "(rank 1 -1)") (Range 1)

-- knobs 0 to 63, of 2 to 16 steps, with a home below them
pub record KnobCases : Type 0 where
  -- of two steps 1 may be home, and 2 may not
  pub home_1_of_2 : Says (codes "(knob 0 2 1)") (Knob 0 2 1)
  pub home_2_of_2 : Faults (codes "(knob 0 2 2)") (Range 1)
  -- of sixteen 15 may, and 16 may not
  pub home_15_of_16 : Says (codes "(knob 63 16 15)") (Knob 63 16 15)
  pub home_16_of_16 : Faults (codes "(knob 63 16 16)") (Range 1)
  -- home may be 0
  pub home_0 : Says (codes "(knob 0 2 0)") (Knob 0 2 0)
  -- no knob 64
  pub knob_64 : Faults (codes "(knob 64 2 0)") (Range 1)
  -- no knob of one step, and none of seventeen
  pub steps_1 : Faults (codes "(knob 0 1 0)") (Range 1)
  pub steps_17 : Faults (codes "(knob 0 17 0)") (Range 1)
  -- no minus at any number
  pub knob_minus : Faults (codes "(knob -1 2 0)") (Range 1)
  pub steps_minus : Faults (codes "(knob 0 -2 0)") (Range 1)
  pub home_minus : Faults (codes "(knob 0 2 -1)") (Range 1)

-- pistons 0 to 39, of the knobs from one to another, up to 63
pub record PistonCases : Type 0 where
  -- the widest scope of the last piston, and the narrowest ones
  pub widest : Says (codes "(piston 39 0 63)") (Piston 39 0 63)
  pub lowest : Says (codes "(piston 0 0 0)") (Piston 0 0 0)
  pub highest : Says (codes "(piston 0 63 63)") (Piston 0 63 63)
  -- no piston 40
  pub piston_40 : Faults (codes "(piston 40 0 0)") (Range 1)
  -- the lowest knob may be the highest, and not above it
  pub same : Says (codes "(piston 1 5 5)") (Piston 1 5 5)
  pub above : Faults (codes "(piston 1 6 5)") (Range 1)
  -- no knob 64
  pub knob_64 : Faults (codes "(piston 1 5 64)") (Range 1)
  -- no minus at any number
  pub piston_minus : Faults (codes "(piston -1 5 6)") (Range 1)
  pub lowest_minus : Faults (codes "(piston 1 -5 6)") (Range 1)
  pub highest_minus : Faults (codes "(piston 1 5 -6)") (Range 1)

-- boards 1 and 2; the other numbers of a wire are held to their digits alone, and only the shift may have a minus
pub record WireCases : Type 0 where
  pub board_0 : Faults (codes "(wire 0 0 0 0 0 0 0 0)") (Range 1)
  pub board_1 : Says (codes "(wire 1 0 0 0 0 0 0 0)") (Wire Coupler (record { from = 0; lowest = 0; highest = 0; to = 0; shift = pos 0; knob = 0; position = 0 }))
  pub board_2 : Says (codes "(wire 2 0 0 0 0 0 0 0)") (Wire Stop (record { from = 0; lowest = 0; highest = 0; to = 0; shift = pos 0; knob = 0; position = 0 }))
  pub board_3 : Faults (codes "(wire 3 0 0 0 0 0 0 0)") (Range 1)
  -- no minus at the board
  pub board_minus : Faults (codes "(wire -1 0 0 0 0 0 0 0)") (Range 1)
  -- nor at the from-row
  pub from_minus : Faults (codes "(wire 1 -1 0 0 0 0 0 0)") (Range 1)
  -- nor at the lowest key
  pub lowest_minus : Faults (codes "(wire 1 0 -1 0 0 0 0 0)") (Range 1)
  -- nor at the highest key
  pub highest_minus : Faults (codes "(wire 1 0 0 -1 0 0 0 0)") (Range 1)
  -- nor at the to-row
  pub to_minus : Faults (codes "(wire 1 0 0 0 -1 0 0 0)") (Range 1)
  -- nor at the knob
  pub knob_minus : Faults (codes "(wire 1 0 0 0 0 0 -1 0)") (Range 1)
  -- nor at its position
  pub position_minus : Faults (codes "(wire 1 0 0 0 0 0 0 -1)") (Range 1)

-- Books written out are read as they are said to be: each by computing. Assumes nothing.
use Rattle.std.proofs.Common.{refl}
use Rattle.book.specs.FormCases.{FormCases, CountCases}
use Rattle.book.specs.RangeCases.{RowCases, KnobCases, PistonCases, WireCases}
use Rattle.book.specs.NumberCases.{NumberCases, ShapeCases}
use Rattle.book.specs.RepeatCases.{RepeatCases}
use Rattle.book.specs.FaultCases.{FaultOrder}

pub form_cases : FormCases
form_cases =
    record {
      keys = refl;
      rank = refl;
      knob = refl;
      piston = refl;
      coupler = refl;
      stop = refl;
      lines = refl;
      nothing = refl;
    }

pub count_cases : CountCases
count_cases =
    record {
      keys_fewer = refl;
      keys_more = refl;
      rank_fewer = refl;
      rank_more = refl;
      knob_fewer = refl;
      knob_more = refl;
      piston_fewer = refl;
      piston_more = refl;
      wire_fewer = refl;
      wire_more = refl;
      wire_most = refl;
      alone = refl;
      unknown = refl;
      shorter = refl;
      longer = refl;
    }

pub row_cases : RowCases
row_cases =
    record {
      keys_lowest = refl;
      rank_lowest = refl;
      keys_highest = refl;
      rank_highest = refl;
      keys_row = refl;
      rank_row = refl;
      keys_reach = refl;
      rank_reach = refl;
      keys_row_minus = refl;
      keys_reach_minus = refl;
      rank_row_minus = refl;
      rank_reach_minus = refl;
    }

pub knob_cases : KnobCases
knob_cases =
    record {
      home_1_of_2 = refl;
      home_2_of_2 = refl;
      home_15_of_16 = refl;
      home_16_of_16 = refl;
      home_0 = refl;
      knob_64 = refl;
      steps_1 = refl;
      steps_17 = refl;
      knob_minus = refl;
      steps_minus = refl;
      home_minus = refl;
    }

pub piston_cases : PistonCases
piston_cases =
    record {
      widest = refl;
      lowest = refl;
      highest = refl;
      piston_40 = refl;
      same = refl;
      above = refl;
      knob_64 = refl;
      piston_minus = refl;
      lowest_minus = refl;
      highest_minus = refl;
    }

pub wire_cases : WireCases
wire_cases =
    record {
      board_0 = refl;
      board_1 = refl;
      board_2 = refl;
      board_3 = refl;
      board_minus = refl;
      from_minus = refl;
      lowest_minus = refl;
      highest_minus = refl;
      to_minus = refl;
      knob_minus = refl;
      position_minus = refl;
    }

pub number_cases : NumberCases
number_cases =
    record {
      four = refl;
      four_up = refl;
      five_board = refl;
      five_from = refl;
      five_lowest = refl;
      five_highest = refl;
      five_to = refl;
      five_shift = refl;
      five_knob = refl;
      five_position = refl;
      five_below = refl;
      zero_first = refl;
      zero_twice = refl;
      zero_after_minus = refl;
      minus_zero = refl;
      minus_alone = refl;
      minus_twice = refl;
      minus_behind = refl;
    }

pub shape_cases : ShapeCases
shape_cases =
    record {
      spaces_first = refl;
      spaces_second = refl;
      space_before_close = refl;
      space_after_close = refl;
      space_before_open = refl;
      space_after_open = refl;
      no_space = refl;
      space_alone = refl;
      no_open = refl;
      no_close = refl;
      open_twice = refl;
      close_twice = refl;
      turned = refl;
      two_forms = refl;
      no_word = refl;
      number_first = refl;
      word_again = refl;
      no_end = refl;
    }

pub repeat_cases : RepeatCases
repeat_cases =
    record {
      keys = refl;
      keys_0 = refl;
      rank = refl;
      rank_0 = refl;
      knob = refl;
      piston = refl;
      later = refl;
      four = refl;
      next = refl;
    }

pub fault_order : FaultOrder
fault_order =
    record {
      byte_before_shape = refl;
      shape_before_form = refl;
      form_before_range = refl;
      range_before_repeat = refl;
      range_then_byte = refl;
      repeat_then_shape = refl;
      form_then_end = refl;
      end = refl;
      end_byte = refl;
      capital = refl;
      plus = refl;
      tab = refl;
      byte_13 = refl;
    }

-- A book with forms of each kind, and what its record answers. Assumes nothing.
use Rattle.std.specs.Prelude.{◌≡◌, ℕ, List, [], ◌∷◌, pos, neg_ℤ, Some, None, Ok, Result, codes}
use Rattle.std.specs.List.{count_by}
use Rattle.book.specs.declared.board.Board.TheVariants.{Coupler, Stop}
use Rattle.book.specs.declared.book.Book.{Book}
use Rattle.book.specs.declared.book_fault.BookFault.{BookFault}
use Rattle.book.specs.Book.{keys_in, pipes_in, knob_in, scope_in, wires_in, on_board}
use Rattle.book.specs.Cases.{ended}

-- its text: forms of each kind, the last row, knob and piston among them
abbrev pub sample : List ℕ
sample =
    ended (codes "(keys 1 2)" ∷ codes "(rank 3 4)" ∷ codes "(knob 9 8 7)" ∷ codes "(piston 5 6 7)" ∷ [] ∷ codes "(keys 15 128)" ∷ codes "(rank 15 0)" ∷ codes "(knob 63 16 15)" ∷ codes "(piston 39 0 63)" ∷ codes "(wire 2 3 4 50 6 -7 8 9)" ∷ codes "(wire 1 9 8 70 6 5 4 3)" ∷ codes "(wire 1 0 0 0 0 0 64 1)" ∷ [])

-- what is asked of its record, each kind where the others are given too
pub record Sample (b : Book) : Type 0 where
  -- division 1 has 2 keys, and the rows that are given as another thing have none
  pub keys : keys_in b 1 ≡ 2
  pub keys_3 : keys_in b 3 ≡ 0
  pub keys_9 : keys_in b 9 ≡ 0
  -- rank 3 has 4 pipes
  pub pipes : pipes_in b 3 ≡ 4
  pub pipes_1 : pipes_in b 1 ≡ 0
  pub pipes_5 : pipes_in b 5 ≡ 0
  -- knob 9 has 8 steps, home is 7
  pub knob : knob_in b 9 ≡ Some (record { steps = 8; home = 7 })
  pub knob_5 : knob_in b 5 ≡ None
  pub knob_3 : knob_in b 3 ≡ None
  -- piston 5 stores the knobs 6 to 7
  pub scope : scope_in b 5 ≡ Some (record { lowest = 6; highest = 7 })
  pub scope_9 : scope_in b 9 ≡ None
  pub scope_1 : scope_in b 1 ≡ None
  -- the last row of each level, the last knob and the last piston
  pub keys_15 : keys_in b 15 ≡ 128
  pub pipes_15 : pipes_in b 15 ≡ 0
  pub knob_63 : knob_in b 63 ≡ Some (record { steps = 16; home = 15 })
  pub scope_39 : scope_in b 39 ≡ Some (record { lowest = 0; highest = 63 })
  -- there is none behind them
  pub keys_16 : keys_in b 16 ≡ 0
  pub pipes_16 : pipes_in b 16 ≡ 0
  pub knob_64 : knob_in b 64 ≡ None
  pub scope_40 : scope_in b 40 ≡ None
  -- the wires in their order, each with its line and its board
  pub wires : wires_in b ≡ record { line = 10; board = Stop; wire = record { from = 3; lowest = 4; highest = 50; to = 6; shift = neg_ℤ (pos 7); knob = 8; position = 9 } } ∷ record { line = 11; board = Coupler; wire = record { from = 9; lowest = 8; highest = 70; to = 6; shift = pos 5; knob = 4; position = 3 } } ∷ record { line = 12; board = Coupler; wire = record { from = 0; lowest = 0; highest = 0; to = 0; shift = pos 0; knob = 64; position = 1 } } ∷ []
  -- one of them is on the stop board, and two on the coupler board
  pub on_stop : count_by (on_board Stop) (wires_in b) ≡ 1
  pub on_coupler : count_by (on_board Coupler) (wires_in b) ≡ 2

-- it is a good book
unfoldable pub Sampled : Result Book BookFault → List ℕ → Type 0
Sampled r text = text ≡ sample → (b : Book) × (r ≡ Ok b) × Sample b

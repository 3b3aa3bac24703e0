-- What each form says, and how many numbers each word takes. Assumes nothing.
use Rattle.std.specs.Prelude.{◌≡◌, [], ◌∷◌, pos, neg_ℤ, Ok, codes}
use Rattle.book.specs.declared.board.Board.TheVariants.{Coupler, Stop}
use Rattle.book.specs.declared.book_fault.BookFault.TheVariants as fault
use Rattle.book.specs.declared.form.Form.TheVariants.{Keys, Rank, Knob, Piston, Wire}
use Rattle.book.specs.Reading.{read_of}
use Rattle.book.specs.Cases.{ended, Says, Faults}

-- each number of a form at its place
pub record FormCases : Type 0 where
  -- division 1 has 2 keys
  pub keys : Says (codes "(keys 1 2)") (Keys 1 2)
  -- rank 3 has 4 pipes
  pub rank : Says (codes "(rank 3 4)") (Rank 3 4)
  -- knob 9 has 8 steps, home is 7
  pub knob : Says (codes "(knob 9 8 7)") (Knob 9 8 7)
  -- piston 5 stores the knobs 6 to 7
  pub piston : Says (codes "(piston 5 6 7)") (Piston 5 6 7)
  -- 1 is the coupler board
  pub coupler : Says (codes "(wire 1 9 8 70 6 5 4 3)") (Wire Coupler (record { from = 9; lowest = 8; highest = 70; to = 6; shift = pos 5; knob = 4; position = 3 }))
  -- 2 is the stop board, and a shift may have a minus
  pub stop : Says (codes "(wire 2 3 4 50 6 -7 8 9)") (Wire Stop (record { from = 3; lowest = 4; highest = 50; to = 6; shift = neg_ℤ (pos 7); knob = 8; position = 9 }))
  -- lines are counted from 1, empty ones too, and the forms keep their order
  pub lines : read_of (ended ([] ∷ codes "(rank 3 4)" ∷ [] ∷ [] ∷ codes "(keys 1 2)" ∷ codes "(piston 5 6 7)" ∷ [] ∷ codes "(knob 9 8 7)" ∷ [])) ≡ Ok (record { line = 2; form = Rank 3 4 } ∷ record { line = 5; form = Keys 1 2 } ∷ record { line = 6; form = Piston 5 6 7 } ∷ record { line = 8; form = Knob 9 8 7 } ∷ [])
  -- a book of no bytes has no forms
  pub nothing : read_of [] ≡ Ok []

-- no word takes a number more or fewer, and no other word is known
pub record CountCases : Type 0 where
  -- keys take two numbers
  pub keys_fewer : Faults (codes "(keys 1)") (fault.Form 1)
  pub keys_more : Faults (codes "(keys 1 2 3)") (fault.Form 1)
  -- so does a rank
  pub rank_fewer : Faults (codes "(rank 1)") (fault.Form 1)
  pub rank_more : Faults (codes "(rank 1 2 3)") (fault.Form 1)
  -- a knob takes three
  pub knob_fewer : Faults (codes "(knob 1 2)") (fault.Form 1)
  pub knob_more : Faults (codes "(knob 1 2 1 1)") (fault.Form 1)
  -- so does a piston
  pub piston_fewer : Faults (codes "(piston 1 2)") (fault.Form 1)
  pub piston_more : Faults (codes "(piston 1 2 3 4)") (fault.Form 1)
  -- a wire takes eight
  pub wire_fewer : Faults (codes "(wire 1 0 0 0 0 0 0)") (fault.Form 1)
  pub wire_more : Faults (codes "(wire 1 0 0 0 0 0 0 0 0)") (fault.Form 1)
  -- and no ninth and tenth either
  pub wire_most : Faults (codes "(wire 1 0 0 0 0 0 0 0 0 0)") (fault.Form 1)
  -- a word without numbers is built as a form
  pub alone : Faults (codes "(keys)") (fault.Form 1)
  -- a word that no form has
  pub unknown : Faults (codes "(stop 1 2)") (fault.Form 1)
  -- nor the beginning of one, nor one with a letter more
  pub shorter : Faults (codes "(key 1 2)") (fault.Form 1)
  pub longer : Faults (codes "(ranks 1 2)") (fault.Form 1)

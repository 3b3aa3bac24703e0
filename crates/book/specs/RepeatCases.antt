-- What may be given once, and what again. Assumes nothing.
use Rattle.std.specs.Prelude.{◌≡◌, [], ◌∷◌, Ok, Err, codes}
use Rattle.book.specs.declared.book_fault.BookFault.TheVariants.{Repeat}
use Rattle.book.specs.declared.form.Form.TheVariants.{Keys, Rank, Knob, Piston}
use Rattle.book.specs.Reading.{read_of}
use Rattle.book.specs.Cases.{ended}

-- each thing twice, and what is not the same thing
pub record RepeatCases : Type 0 where
  -- a division once, whatever its keys
  pub keys : read_of (ended (codes "(keys 3 61)" ∷ codes "(keys 3 30)" ∷ [])) ≡ Err (Repeat 2)
  -- also one of no keys
  pub keys_0 : read_of (ended (codes "(keys 3 0)" ∷ codes "(keys 3 0)" ∷ [])) ≡ Err (Repeat 2)
  -- a rank once
  pub rank : read_of (ended (codes "(rank 3 61)" ∷ codes "(rank 3 30)" ∷ [])) ≡ Err (Repeat 2)
  pub rank_0 : read_of (ended (codes "(rank 3 0)" ∷ codes "(rank 3 0)" ∷ [])) ≡ Err (Repeat 2)
  -- a knob once
  pub knob : read_of (ended (codes "(knob 3 2 0)" ∷ codes "(knob 3 3 1)" ∷ [])) ≡ Err (Repeat 2)
  -- a piston once
  pub piston : read_of (ended (codes "(piston 3 0 1)" ∷ codes "(piston 3 2 2)" ∷ [])) ≡ Err (Repeat 2)
  -- the first repeat decides, on its own line, whatever stands between
  pub later : read_of (ended (codes "(knob 3 2 0)" ∷ [] ∷ codes "(knob 4 2 0)" ∷ codes "(knob 3 2 0)" ∷ codes "(knob 4 2 0)" ∷ [])) ≡ Err (Repeat 4)
  -- a division, a rank, a knob and a piston of one number are four things
  pub four : read_of (ended (codes "(keys 3 61)" ∷ codes "(rank 3 61)" ∷ codes "(knob 3 2 0)" ∷ codes "(piston 3 0 1)" ∷ [])) ≡ Ok (record { line = 1; form = Keys 3 61 } ∷ record { line = 2; form = Rank 3 61 } ∷ record { line = 3; form = Knob 3 2 0 } ∷ record { line = 4; form = Piston 3 0 1 } ∷ [])
  -- and so are two of one kind
  pub next : read_of (ended (codes "(keys 3 61)" ∷ codes "(keys 4 61)" ∷ codes "(piston 3 0 1)" ∷ codes "(piston 2 0 1)" ∷ [])) ≡ Ok (record { line = 1; form = Keys 3 61 } ∷ record { line = 2; form = Keys 4 61 } ∷ record { line = 3; form = Piston 3 0 1 } ∷ record { line = 4; form = Piston 2 0 1 } ∷ [])

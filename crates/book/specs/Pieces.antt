-- A line in pieces, and what the pieces of a form are. Assumes nothing.
use Rattle.std.specs.Prelude.{ℕ, Bool, cond, List, [], ◌∷◌, ℤ, Some, None, Option, ◌==◌}
use Rattle.book.specs.Bytes.{letter, numeric, space, opening, closing}
use Rattle.book.specs.Numerals.{numeral}

-- what a run is made of: letters, or digits and minus signs
pub data Kind : Type 0 where
  letters : Kind
  figures : Kind

-- a longest run of one kind, or one other byte
pub data Piece : Type 0 where
  run : Kind → List ℕ → Piece
  mark : ℕ → Piece

abbrev pub of_kind : Kind → ℕ → Bool
of_kind letters b = letter b
of_kind figures b = numeric b

-- a byte of the kind before the pieces of what follows it: it joins a run of its kind
abbrev pub run_before : Kind → ℕ → List Piece → List Piece
run_before k b [] = run k (b ∷ []) ∷ []
run_before letters b (run letters w ∷ ps) = run letters (b ∷ w) ∷ ps
run_before letters b (run figures w ∷ ps) = run letters (b ∷ []) ∷ (run figures w ∷ ps)
run_before figures b (run letters w ∷ ps) = run figures (b ∷ []) ∷ (run letters w ∷ ps)
run_before figures b (run figures w ∷ ps) = run figures (b ∷ w) ∷ ps
run_before k b (mark m ∷ ps) = run k (b ∷ []) ∷ (mark m ∷ ps)

abbrev pub before : ℕ → List Piece → List Piece
before b ps = cond (letter b) (run_before letters b ps) (cond (numeric b) (run_before figures b ps) (mark b ∷ ps))

abbrev pub pieces : List ℕ → List Piece
pieces [] = []
pieces (b ∷ bs) = before b (pieces bs)

-- a number before those that follow it
abbrev pub with_number : Option ℤ → Option (List ℤ) → Option (List ℤ)
with_number None zs = None
with_number (Some z) None = None
with_number (Some z) (Some zs) = Some (z ∷ zs)

-- after the word: for each number one space and the number, then the closing bracket, and nothing after it
abbrev pub numbers_of : List Piece → Option (List ℤ)
numbers_of [] = None
numbers_of (run k w ∷ ps) = None
numbers_of (mark m ∷ []) = cond (m == closing) (Some []) None
numbers_of (mark m ∷ (run letters w ∷ ps)) = None
numbers_of (mark m ∷ (run figures d ∷ ps)) = cond (m == space) (with_number (numeral d) (numbers_of ps)) None
numbers_of (mark m ∷ (mark n ∷ ps)) = None

-- a word and the numbers after it
pub record Shape : Type 0 where
  pub head : List ℕ
  pub numbers : List ℤ

abbrev pub with_head : List ℕ → Option (List ℤ) → Option Shape
with_head w None = None
with_head w (Some zs) = Some (record { head = w; numbers = zs })

-- the opening bracket, the word, and what stands after it
abbrev pub shape_from : List Piece → Option Shape
shape_from [] = None
shape_from (run k w ∷ ps) = None
shape_from (mark m ∷ []) = None
shape_from (mark m ∷ (run letters w ∷ ps)) = cond (m == opening) (with_head w (numbers_of ps)) None
shape_from (mark m ∷ (run figures d ∷ ps)) = None
shape_from (mark m ∷ (mark n ∷ ps)) = None

abbrev pub shape_of : List ℕ → Option Shape
shape_of bs = shape_from (pieces bs)

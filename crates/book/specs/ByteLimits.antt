-- How long a book may be, and which bytes may stand in its lines. Assumes nothing.
use Rattle.std.specs.Prelude.{◌≡◌, ℕ, ◌≤◌, ◌↔◌, ◌≢◌, ◌⊎◌, List, [], ◌∷◌, ◌++◌, length, replicate, Ok, Err}
use Rattle.std.specs.List.{AllByRecursion}
use Rattle.book.specs.declared.book_fault.BookFault.TheVariants.{TooLong, Byte}
use Rattle.book.specs.Reading.{read_of}

-- a book has 65,536 bytes at most
pub record LengthLaw : Type 0 where
  -- it is too long from 65,537 bytes on, whatever they are, and never before
  pub too_long : (text : List ℕ) → read_of text ≡ Err TooLong ↔ 65537 ≤ length text
  -- so many empty lines are a good book, and one more are not
  pub most : (n : ℕ) → n ≤ 65536 → read_of (replicate n 10) ≡ Ok []
  pub one_more : (n : ℕ) → 65537 ≤ n → read_of (replicate n 10) ≡ Err TooLong

-- a space, a bracket, a minus, 0 to 9, a to z
abbrev pub MayStand : ℕ → Type 0
MayStand b =
    (b ≡ 32) ⊎ ((b ≡ 40) ⊎ ((b ≡ 41) ⊎ ((b ≡ 45) ⊎ (((48 ≤ b) × (b ≤ 57)) ⊎ ((97 ≤ b) × (b ≤ 122))))))

-- these bytes may stand in a line, and no others
pub record ByteLaw : Type 0 where
  -- a byte alone on a line is at fault exactly if it is none of them
  pub alone : (b : ℕ) → b ≢ 10 → read_of (b ∷ 10 ∷ []) ≡ Err (Byte 1 0) ↔ (MayStand b → ⊥)
  -- after bytes that may stand there, the first that may not is at fault, at its place, whatever follows
  pub first : (front rest : List ℕ) (b : ℕ) → AllByRecursion MayStand front → b ≢ 10 → (MayStand b → ⊥) → length (front ++ b ∷ rest) ≤ 65536 → read_of (front ++ b ∷ rest) ≡ Err (Byte 1 (length front))
  -- and a line of bytes that may stand there has no byte at fault
  pub none : (line : List ℕ) (n at : ℕ) → AllByRecursion MayStand line → read_of (line ++ 10 ∷ []) ≢ Err (Byte n at)

-- How many wires a book may have. Assumes nothing.
use Rattle.std.specs.Prelude.{◌≡◌, ℕ, ◌≤◌, ◌⊎◌, List, length, Ok, Err, codes}
use Rattle.std.specs.List.{AllByRecursion}
use Rattle.book.specs.declared.book_fault.BookFault.TheVariants.{Repeat}
use Rattle.book.specs.Entry.{Entry}
use Rattle.book.specs.Reading.{read_of}
use Rattle.book.specs.Cases.{ended}

-- the line of a wire of either board
abbrev pub WireLine : List ℕ → Type 0
WireLine l = (l ≡ codes "(wire 1 0 0 0 0 0 0 0)") ⊎ (l ≡ codes "(wire 2 0 0 0 0 0 0 0)")

-- 256, on both boards together
pub record WireLaw : Type 0 where
  -- so many lines of wires are a good book, with a form from each
  pub most : (ls : List (List ℕ)) → AllByRecursion WireLine ls → length ls ≤ 256 → (es : List Entry) × (read_of (ended ls) ≡ Ok es) × (length es ≡ length ls)
  -- and where there are more, line 257 is at fault
  pub one_more : (ls : List (List ℕ)) → AllByRecursion WireLine ls → 257 ≤ length ls → length ls ≤ 2000 → read_of (ended ls) ≡ Err (Repeat 257)

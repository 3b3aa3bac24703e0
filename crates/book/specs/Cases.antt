-- Books written out, line by line, and what they are read as. Assumes nothing.
use Rattle.std.specs.Prelude.{◌≡◌, ℕ, List, [], ◌∷◌, ◌++◌, Ok, Err}
use Rattle.std.specs.List.{flat_map}
use Rattle.book.specs.declared.book_fault.BookFault.{BookFault}
use Rattle.book.specs.declared.form.Form.{Form}
use Rattle.book.specs.Reading.{read_of}

-- the text of some lines, each ended by byte 10
abbrev pub ended : List (List ℕ) → List ℕ
ended ls = flat_map (λ l. l ++ 10 ∷ []) ls

-- a line alone is a good book, of one form
abbrev pub Says : List ℕ → Form → Type 0
Says l f = read_of (l ++ 10 ∷ []) ≡ Ok (record { line = 1; form = f } ∷ [])

-- a line alone is refused
abbrev pub Faults : List ℕ → BookFault → Type 0
Faults l f = read_of (l ++ 10 ∷ []) ≡ Err f

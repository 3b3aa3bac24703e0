-- What reading a book answers, for every list of bytes. Assumes nothing.
use Rattle.std.specs.Prelude.{◌≡◌, ℕ, ◌+◌, cond, List, [], ◌∷◌, ◌++◌, length, ℤ, Some, None, Ok, Err, Option, Result, ◌==◌, nat_lt}
use Rattle.book.specs.declared.book_fault.BookFault.{BookFault}
use Rattle.book.specs.declared.book_fault.BookFault.TheVariants as fault
use Rattle.book.specs.declared.form.Form.{Form}
use Rattle.book.specs.declared.head.Head.{Head}
use Rattle.book.specs.declared.book.Book.{Book}
use Rattle.book.specs.Bytes.{allowed, first_outside, line_end}
use Rattle.book.specs.Entry.{Entry, Holds, taken}
use Rattle.book.specs.Form.{form_from}
use Rattle.book.specs.Head.{head_of, takes}
use Rattle.book.specs.Limits.{most_bytes}
use Rattle.book.specs.Pieces.{Shape, shape_of}

-- line n comes to r, unless a byte stands in it that no line may hold
abbrev pub unless_byte : {X : Type 0} → ℕ → Option ℕ → Result X BookFault → Result X BookFault
unless_byte n None r = r
unless_byte n (Some at) r = Err (fault.Byte n at)

-- the form of a word and its numbers, on line n
abbrev pub in_range : ℕ → Option Form → Result Form BookFault
in_range n None = Err (fault.Range n)
in_range n (Some f) = Ok f

abbrev pub formed : ℕ → Head → List ℤ → Result Form BookFault
formed n h zs = cond (length zs == takes h) (in_range n (form_from h zs)) (Err (fault.Form n))

abbrev pub counted : ℕ → Shape → Option Head → Result Form BookFault
counted n s None = Err (fault.Form n)
counted n s (Some h) = formed n h s.numbers

abbrev pub form_of : ℕ → Shape → Result Form BookFault
form_of n s = counted n s (head_of s.head)

abbrev pub some_form : Result Form BookFault → Result (Option Form) BookFault
some_form (Ok f) = Ok (Some f)
some_form (Err e) = Err e

abbrev pub shaped : ℕ → Option Shape → Result (Option Form) BookFault
shaped n None = Err (fault.Shape n)
shaped n (Some s) = some_form (form_of n s)

-- line n: empty, one form, or the first of its faults
abbrev pub line_form : ℕ → List ℕ → Result (Option Form) BookFault
line_form n l = unless_byte n (first_outside allowed l) (cond (length l == 0) (Ok None) (shaped n (shape_of l)))

-- the entries with what line n adds
abbrev pub placed : List Entry → ℕ → Result (Option Form) BookFault → Result (List Entry) BookFault
placed es n (Err e) = Err e
placed es n (Ok None) = Ok es
placed es n (Ok (Some f)) = cond (taken es f) (Err (fault.Repeat n)) (Ok (es ++ record { line = n; form = f } ∷ []))

abbrev pub with_line : List Entry → ℕ → List ℕ → Result (List Entry) BookFault
with_line es n l = placed es n (line_form n l)

-- what follows the last line end: nothing, or a line that is not ended
abbrev pub at_end : List Entry → ℕ → List ℕ → Result (List Entry) BookFault
at_end es n l = unless_byte n (first_outside allowed l) (cond (length l == 0) (Ok es) (Err (fault.Shape n)))

-- a text cut at its line ends: the lines, and last what follows the last line end
abbrev pub onto_first : ℕ → List (List ℕ) → List (List ℕ)
onto_first b [] = (b ∷ []) ∷ []
onto_first b (l ∷ ls) = (b ∷ l) ∷ ls

abbrev pub cut : List ℕ → List (List ℕ)
cut [] = [] ∷ []
cut (b ∷ bs) = cond (b == line_end) ([] ∷ cut bs) (onto_first b (cut bs))

abbrev pub and_then : {X Y E : Type 0} → Result X E → (X → Result Y E) → Result Y E
and_then (Ok x) f = f x
and_then (Err e) f = Err e

-- the lines from line n on, after the entries before them: the first faulty line decides
abbrev pub lines_from : List Entry → ℕ → List (List ℕ) → Result (List Entry) BookFault
lines_from es n [] = Ok es
lines_from es n (l ∷ []) = at_end es n l
lines_from es n (l ∷ (m ∷ ls)) = and_then (with_line es n l) (λ fs. lines_from fs (n + 1) (m ∷ ls))

-- a whole book: its forms with their lines, or its fault
abbrev pub read_of : List ℕ → Result (List Entry) BookFault
read_of bs = cond (nat_lt most_bytes (length bs)) (Err fault.TooLong) (lines_from [] 1 (cut bs))

-- the answer is the definition's: the record that holds these entries, or this fault
abbrev pub Answers : Result Book BookFault → Result (List Entry) BookFault → Type 0
Answers (Ok b) (Ok es) = Holds b es
Answers (Ok b) (Err e) = ⊥
Answers (Err f) (Ok es) = ⊥
Answers (Err f) (Err e) = f ≡ e

-- the same of a record that is filled by one line more
abbrev pub Fills : Result (Unit {0}) BookFault → Book → Result (List Entry) BookFault → Type 0
Fills (Ok x) b (Ok es) = Holds b es
Fills (Ok x) b (Err e) = ⊥
Fills (Err f) b (Ok es) = ⊥
Fills (Err f) b (Err e) = f ≡ e

-- A book as a text: what a form looks like, what a text of forms is, and when it is a good book. Assumes nothing.
use Rattle.std.specs.Prelude.{◌≡◌, ℕ, ◌+◌, ◌<◌, ◌≤◌, Bool, true, false, List, [], ◌∷◌, ◌++◌, length, ℤ, pos, negsuc, Some, None, Ok, Err, Option, Result, ◌≢◌, slice_index, take}
use Rattle.std.specs.List.{flat_map, AllByRecursion}
use Rattle.std.specs.Fmt.{signed_decimal}
use Rattle.book.specs.declared.book_fault.BookFault.{BookFault}
use Rattle.book.specs.declared.book_fault.BookFault.TheVariants as fault
use Rattle.book.specs.declared.book.Book.{Book}
use Rattle.book.specs.declared.board.Board.{Board}
use Rattle.book.specs.declared.board.Board.TheVariants.{Coupler, Stop}
use Rattle.book.specs.declared.form.Form.{Form}
use Rattle.book.specs.declared.form.Form.TheVariants as form
use Rattle.book.specs.declared.head.Head.{Head}
use Rattle.book.specs.declared.head.Head.TheVariants as head
use Rattle.book.specs.Bytes.{allowed, letter, space, opening, closing, line_end}
use Rattle.book.specs.Entry.{Entry, Holds, InRange, taken}
use Rattle.book.specs.Head.{spelling, takes}
use Rattle.book.specs.BookFault.{line_of}
use Rattle.book.specs.Limits.{most_bytes}

-- the word of a form, and its numbers in their order
abbrev pub head_in : Form → Head
head_in (form.Keys row reach) = head.Keys
head_in (form.Rank row reach) = head.Rank
head_in (form.Knob knob steps home) = head.Knob
head_in (form.Piston piston lowest highest) = head.Piston
head_in (form.Wire board wire) = head.Wire

abbrev pub board_number : Board → ℕ
board_number Coupler = 1
board_number Stop = 2

abbrev pub numbers_in : Form → List ℤ
numbers_in (form.Keys row reach) = pos row ∷ (pos reach ∷ [])
numbers_in (form.Rank row reach) = pos row ∷ (pos reach ∷ [])
numbers_in (form.Knob knob steps home) = pos knob ∷ (pos steps ∷ (pos home ∷ []))
numbers_in (form.Piston piston lowest highest) = pos piston ∷ (pos lowest ∷ (pos highest ∷ []))
numbers_in (form.Wire board wire) =
    pos (board_number board) ∷ (pos wire.from ∷ (pos wire.lowest ∷ (pos wire.highest ∷ (pos wire.to ∷ (wire.shift ∷ (pos wire.knob ∷ (pos wire.position ∷ [])))))))

-- a word and its numbers as they are written: a bracket, the word, for each number one space and the number, a bracket
abbrev pub number_text : ℤ → List ℕ
number_text z = space ∷ signed_decimal z

abbrev pub written : List ℕ → List ℤ → List ℕ
written w zs = opening ∷ (w ++ (flat_map number_text zs ++ closing ∷ []))

abbrev pub form_text : Form → List ℕ
form_text f = written (spelling (head_in f)) (numbers_in f)

-- a word is one or more letters from a to z
abbrev pub Word : List ℕ → Type 0
Word w = (0 < length w) × AllByRecursion (λ b. letter b ≡ true) w

-- a number has at most four digits
abbrev pub Short : ℤ → Type 0
Short (pos n) = n ≤ 9999
Short (negsuc n) = n + 1 ≤ 9999

-- a line is empty or one form
abbrev pub line_text : Option Form → List ℕ
line_text None = []
line_text (Some f) = form_text f

-- the lines of a text
abbrev pub Lines : Type 0
Lines = List (Option Form)

-- a text of lines, each ended
abbrev pub text_of : Lines → List ℕ
text_of [] = []
text_of (l ∷ ls) = line_text l ++ line_end ∷ text_of ls

-- the forms of the lines from line n on, each with its line
abbrev pub entries_from : ℕ → Lines → List Entry
entries_from n [] = []
entries_from n (None ∷ ls) = entries_from (n + 1) ls
entries_from n (Some f ∷ ls) = record { line = n; form = f } ∷ entries_from (n + 1) ls

abbrev pub entries_of : Lines → List Entry
entries_of ls = entries_from 1 ls

-- a form that may stand after these entries: its numbers are in range, and nothing is given twice or too often
pub record Fits (es : List Entry) (f : Form) : Type 0 where
  pub ranges : InRange f
  pub digits : AllByRecursion Short (numbers_in f)
  pub once : taken es f ≡ false

-- each form of the lines fits after the entries before it
abbrev pub FitAfter : List Entry → ℕ → Lines → Type 0
FitAfter es n [] = Unit {0}
FitAfter es n (None ∷ ls) = FitAfter es (n + 1) ls
FitAfter es n (Some f ∷ ls) = Fits es f × FitAfter (es ++ record { line = n; form = f } ∷ []) (n + 1) ls

-- the lines of a good book
pub record Good (ls : Lines) : Type 0 where
  pub size : length (text_of ls) ≤ most_bytes
  pub forms : FitAfter [] 1 ls

-- line l follows the front of the text, with its end or as the last bytes without one
abbrev pub Stands : List ℕ → List ℕ → List ℕ → Bool → Type 0
Stands bs front l true = (rest : List ℕ) × (bs ≡ front ++ (l ++ line_end ∷ rest))
Stands bs front l false = bs ≡ front ++ l

-- what is wrong with a line after the entries es: a byte is the first that no line may hold; a line without its end is at most of the wrong shape
abbrev pub Faulty : List Entry → List ℕ → Bool → BookFault → Type 0
Faulty es l ended fault.TooLong = ⊥
Faulty es l ended (fault.Byte n at) = (at < length l) × (allowed (slice_index l at) ≡ false) × AllByRecursion (λ b. allowed b ≡ true) (take at l)
Faulty es l ended (fault.Shape n) =
    AllByRecursion (λ b. allowed b ≡ true) l × (l ≢ []) × (ended ≡ true → (w : List ℕ) (zs : List ℤ) → Word w → AllByRecursion Short zs → l ≢ written w zs)
Faulty es l ended (fault.Form n) =
    (ended ≡ true) × (w : List ℕ) × (zs : List ℤ) × Word w × AllByRecursion Short zs × (l ≡ written w zs) × ((h : Head) → w ≡ spelling h → length zs ≢ takes h)
Faulty es l ended (fault.Range n) =
    (ended ≡ true) × (h : Head) × (zs : List ℤ) × AllByRecursion Short zs × (length zs ≡ takes h) × (l ≡ written (spelling h) zs) × ((f : Form) → InRange f → head_in f ≡ h → numbers_in f ≢ zs)
Faulty es l ended (fault.Repeat n) = (ended ≡ true) × (f : Form) × InRange f × AllByRecursion Short (numbers_in f) × (l ≡ form_text f) × (taken es f ≡ true)

-- a text from line n on, after the entries es of the lines before, is refused for f:
-- the lines before the faulty one are good, its number is f's, and f is the first fault that it has
pub record Refused (es : List Entry) (n : ℕ) (bs : List ℕ) (f : BookFault) : Type 0 where
  pub before : Lines
  pub fit : FitAfter es n before
  pub line : List ℕ
  pub ended : Bool
  pub whole : AllByRecursion (λ b. b ≢ line_end) line
  pub stands : Stands bs (text_of before) line ended
  pub number : line_of f ≡ n + length before
  pub fault : Faulty (es ++ entries_from n before) line ended f

-- a book is refused as too long, or for its first faulty line
abbrev pub Rejects : BookFault → List ℕ → Type 0
Rejects fault.TooLong bs = most_bytes < length bs
Rejects (fault.Byte n at) bs = (length bs ≤ most_bytes) × Refused [] 1 bs (fault.Byte n at)
Rejects (fault.Shape n) bs = (length bs ≤ most_bytes) × Refused [] 1 bs (fault.Shape n)
Rejects (fault.Form n) bs = (length bs ≤ most_bytes) × Refused [] 1 bs (fault.Form n)
Rejects (fault.Range n) bs = (length bs ≤ most_bytes) × Refused [] 1 bs (fault.Range n)
Rejects (fault.Repeat n) bs = (length bs ≤ most_bytes) × Refused [] 1 bs (fault.Repeat n)

-- an accepted book is the text of good lines, and its record says what their forms say; a refused one has the fault
abbrev pub Judged : Result Book BookFault → List ℕ → Type 0
Judged (Ok b) bs = (ls : Lines) × (bs ≡ text_of ls) × Good ls × Holds b (entries_of ls)
Judged (Err f) bs = Rejects f bs

-- every text of good lines is accepted, with what their forms say
abbrev pub SaidBy : Result Book BookFault → List Entry → Type 0
SaidBy (Ok b) es = Holds b es
SaidBy (Err f) es = ⊥

abbrev pub Accepts : Result Book BookFault → List ℕ → Type 0
Accepts r bs = (ls : Lines) → Good ls → bs ≡ text_of ls → SaidBy r (entries_of ls)

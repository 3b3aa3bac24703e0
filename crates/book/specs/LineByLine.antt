-- A book line by line: what the next line does to the entries of the lines before it. Assumes nothing.
use Rattle.std.specs.Prelude.{◌≡◌, ℕ, ◌+◌, ◌≤◌, ◌≢◌, Bool, true, false, List, [], ◌∷◌, ◌++◌, length, Ok, Err}
use Rattle.std.specs.List.{count_by, AllByRecursion}
use Rattle.book.specs.declared.book_fault.BookFault.{BookFault}
use Rattle.book.specs.declared.book_fault.BookFault.TheVariants as fault
use Rattle.book.specs.declared.form.Form.{Form}
use Rattle.book.specs.declared.form.Form.TheVariants.{Keys, Rank, Knob, Piston, Wire}
use Rattle.book.specs.Entry.{Entry}
use Rattle.book.specs.Reading.{read_of}
use Rattle.book.specs.ByteLimits.{MayStand}
use Rattle.book.specs.Cases.{ended, Says, Faults}

-- a line has no byte 10 in it
abbrev pub Unbroken : List ℕ → Type 0
Unbroken l = AllByRecursion (λ b. b ≢ 10) l

-- an entry somewhere among others
abbrev pub Among : Entry → List Entry → Type 0
Among e es = (front : List Entry) × (back : List Entry) × (es ≡ front ++ e ∷ back)

-- an entry of a wire
abbrev pub is_wire : Entry → Bool
is_wire e = elim e.form [ Keys row reach ↦ false | Rank row reach ↦ false | Knob knob steps home ↦ false | Piston piston lowest highest ↦ false | Wire board wire ↦ true ]

-- there is no room for a form: its division, rank, knob or piston is given, or there are 256 wires
abbrev pub NoRoom : Form → List Entry → Type 0
NoRoom (Keys r n) es = (line : ℕ) × (m : ℕ) × Among (record { line = line; form = Keys r m }) es
NoRoom (Rank r n) es = (line : ℕ) × (m : ℕ) × Among (record { line = line; form = Rank r m }) es
NoRoom (Knob k s h) es = (line : ℕ) × (t : ℕ) × (g : ℕ) × Among (record { line = line; form = Knob k t g }) es
NoRoom (Piston p a b) es = (line : ℕ) × (c : ℕ) × (d : ℕ) × Among (record { line = line; form = Piston p c d }) es
NoRoom (Wire b w) es = 256 ≤ count_by is_wire es

-- the same fault on line n
abbrev pub on_line : ℕ → BookFault → BookFault
on_line n fault.TooLong = fault.TooLong
on_line n (fault.Byte m at) = fault.Byte n at
on_line n (fault.Shape m) = fault.Shape n
on_line n (fault.Form m) = fault.Form n
on_line n (fault.Range m) = fault.Range n
on_line n (fault.Repeat m) = fault.Repeat n

-- lines that are a good book, in one that is not too long with what follows them
pub record GoodBefore (ls : List (List ℕ)) (rest : List ℕ) (es : List Entry) : Type 0 where
  -- each is one line
  pub whole : AllByRecursion Unbroken ls
  -- there are no more bytes than a book may have
  pub fits : length (ended ls ++ rest) ≤ 65536
  -- alone they are a good book, of these entries
  pub good : read_of (ended ls) ≡ Ok es

-- each thing that may follow lines of a book
pub record LinesLaw : Type 0 where
  -- where lines are at fault, what follows them changes nothing
  pub decided : (ls : List (List ℕ)) (rest : List ℕ) (f : BookFault) → AllByRecursion Unbroken ls → length (ended ls ++ rest) ≤ 65536 → read_of (ended ls) ≡ Err f → read_of (ended ls ++ rest) ≡ Err f
  -- after good lines a line that is faulty alone is at fault, as the next line
  pub faulty : (ls : List (List ℕ)) (l : List ℕ) (es : List Entry) (f : BookFault) → GoodBefore ls (l ++ 10 ∷ []) es → Unbroken l → Faults l f → read_of (ended ls ++ (l ++ 10 ∷ [])) ≡ Err (on_line (length ls + 1) f)
  -- an empty line says nothing
  pub empty : (ls : List (List ℕ)) (es : List Entry) → GoodBefore ls (10 ∷ []) es → read_of (ended ls ++ 10 ∷ []) ≡ Ok es
  -- a form is added last, as the next line, where there is room
  pub added : (ls : List (List ℕ)) (l : List ℕ) (es : List Entry) (f : Form) → GoodBefore ls (l ++ 10 ∷ []) es → Unbroken l → Says l f → (NoRoom f es → ⊥) → read_of (ended ls ++ (l ++ 10 ∷ [])) ≡ Ok (es ++ record { line = length ls + 1; form = f } ∷ [])
  -- and is at fault where there is none
  pub again : (ls : List (List ℕ)) (l : List ℕ) (es : List Entry) (f : Form) → GoodBefore ls (l ++ 10 ∷ []) es → Unbroken l → Says l f → NoRoom f es → read_of (ended ls ++ (l ++ 10 ∷ [])) ≡ Err (fault.Repeat (length ls + 1))
  -- bytes without an end are at fault, as the next line
  pub no_end : (ls : List (List ℕ)) (l : List ℕ) (es : List Entry) → GoodBefore ls l es → l ≢ [] → AllByRecursion MayStand l → read_of (ended ls ++ l) ≡ Err (fault.Shape (length ls + 1))
  -- and first for one that may not stand there
  pub no_end_byte : (ls : List (List ℕ)) (front back : List ℕ) (b : ℕ) (es : List Entry) → GoodBefore ls (front ++ b ∷ back) es → AllByRecursion MayStand front → (MayStand b → ⊥) → b ≢ 10 → Unbroken back → read_of (ended ls ++ (front ++ b ∷ back)) ≡ Err (fault.Byte (length ls + 1) (length front))

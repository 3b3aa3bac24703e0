-- The bytes of a listing's lines. Assumes nothing.
use Rattle.std.specs.Prelude.{ℕ, ◌+◌, ◌*◌, ◌<◌, ◌≤◌, List, ◌++◌, codes, decimal, Vec, vec_len, vec_capacity}
use Rattle.book.specs.BookFault as book
use Rattle.console.specs.PlayFault as console
use Rattle.organ.specs.declared.line.Line.{Line}
use Rattle.organ.specs.declared.line.Line.TheVariants.{Done, Fault, Book, Wire}
use Rattle.organ.specs.Assembly.{refusal_number}

-- the closing bracket, and the byte that ends a line
abbrev pub line_end : List ℕ
line_end = codes ")\n"

-- the line of a fault by its number, and of one with the line of the book where it is
abbrev pub fault_bytes : ℕ → List ℕ
fault_bytes n = codes "(fault " ++ (decimal n ++ line_end)

abbrev pub place_bytes : ℕ → ℕ → List ℕ
place_bytes n l = codes "(fault " ++ (decimal n ++ (codes " " ++ (decimal l ++ line_end)))

abbrev pub line_bytes : Line → List ℕ
line_bytes (Done n) = codes "(done " ++ (decimal n ++ line_end)
line_bytes (Fault f) = fault_bytes (console.number_of f)
line_bytes (Book f) = place_bytes (book.number_of f) (book.line_of f)
line_bytes (Wire r) = place_bytes (refusal_number r) r.line

-- space for so many bytes
abbrev pub HasSpace : {X Z : Type 0} → Vec X Z → ℕ → Type 0
HasSpace listing bytes = vec_len listing + bytes ≤ vec_capacity listing

-- longer by so many bytes at most, and with no less memory
abbrev pub Grown : {X Z : Type 0} → Vec X Z → Vec X Z → ℕ → Type 0
Grown before after bytes = (vec_len after ≤ vec_len before + bytes) × (vec_capacity before ≤ vec_capacity after)

-- room for so many lines, of which none is longer than 64 bytes
abbrev pub HasRoom : {X Z : Type 0} → Vec X Z → ℕ → Type 0
HasRoom listing lines = HasSpace listing (64 * lines)

-- no room for one line more
abbrev pub LacksRoom : {X Z : Type 0} → Vec X Z → Type 0
LacksRoom listing = vec_capacity listing < vec_len listing + 64

-- longer by one line at most, and with no less memory
abbrev pub OneLineMore : {X Z : Type 0} → Vec X Z → Vec X Z → Type 0
OneLineMore before after = Grown before after 64

-- What a line says, whatever its word and its numbers. Assumes nothing.
use Rattle.std.specs.Prelude.{◌≡◌, ℕ, ◌<◌, ◌≤◌, ◌↔◌, ◌≢◌, ◌⊎◌, List, [], ◌∷◌, ◌++◌, length, ℤ, pos, nat_abs, codes}
use Rattle.std.specs.List.{flat_map, AllByRecursion}
use Rattle.std.specs.Fmt.{signed_decimal}
use Rattle.book.specs.declared.board.Board.TheVariants.{Coupler, Stop}
use Rattle.book.specs.declared.book_fault.BookFault.TheVariants as fault
use Rattle.book.specs.declared.form.Form.{Form}
use Rattle.book.specs.declared.form.Form.TheVariants.{Keys, Rank, Knob, Piston, Wire}
use Rattle.fittings.specs.declared.Wire as fittings
use Rattle.book.specs.ByteLimits.{MayStand}
use Rattle.book.specs.Cases.{Says, Faults}

-- a word and its numbers as a line: for each number one space and the number
abbrev pub form_line : List ℕ → List ℤ → List ℕ
form_line word zs = codes "(" ++ (word ++ (flat_map (λ z. codes " " ++ signed_decimal z) zs ++ codes ")"))

-- one or more small letters
abbrev pub SmallLetters : List ℕ → Type 0
SmallLetters w = (w ≢ []) × AllByRecursion (λ b. (97 ≤ b) × (b ≤ 122)) w

-- numbers from -9999 to 9999
abbrev pub FourDigits : List ℤ → Type 0
FourDigits zs = AllByRecursion (λ z. nat_abs z ≤ 9999) zs

-- a word that takes so many numbers: which numbers are good, and the form that they mean
pub record WordLaw (word : List ℕ) (takes : ℕ) (Means : List ℤ → Form → Type 0) : Type 0 where
  -- a line of it is a good book exactly where its numbers mean a form, and says that form
  pub says : (zs : List ℤ) (f : Form) → FourDigits zs → length (form_line word zs) ≤ 65535 → Says (form_line word zs) f ↔ Means zs f
  -- it is no form exactly where the numbers are more or fewer
  pub count : (zs : List ℤ) → FourDigits zs → length (form_line word zs) ≤ 65535 → Faults (form_line word zs) (fault.Form 1) ↔ length zs ≢ takes
  -- and where they are so many and mean nothing, one is out of its range
  pub range : (zs : List ℤ) → FourDigits zs → length (form_line word zs) ≤ 65535 → length zs ≡ takes → ((f : Form) → Means zs f → ⊥) → Faults (form_line word zs) (fault.Range 1)

-- the numbers of a wire after its board
abbrev pub wire_numbers : fittings.Wire → List ℤ
wire_numbers w =
    pos w.from ∷ pos w.lowest ∷ pos w.highest ∷ pos w.to ∷ w.shift ∷ pos w.knob ∷ pos w.position ∷ []

-- the five words, any other word, and what is no word with its numbers
pub record FormsLaw : Type 0 where
  -- divisions 0 to 15, of 0 to 128 keys
  pub keys : WordLaw (codes "keys") 2 (λ zs f. (r : ℕ) × (n : ℕ) × (r < 16) × (n ≤ 128) × (zs ≡ pos r ∷ pos n ∷ []) × (f ≡ Keys r n))
  -- ranks 0 to 15, of 0 to 128 pipes
  pub rank : WordLaw (codes "rank") 2 (λ zs f. (r : ℕ) × (n : ℕ) × (r < 16) × (n ≤ 128) × (zs ≡ pos r ∷ pos n ∷ []) × (f ≡ Rank r n))
  -- knobs 0 to 63, of 2 to 16 steps, with a home below them
  pub knob : WordLaw (codes "knob") 3 (λ zs f. (k : ℕ) × (s : ℕ) × (h : ℕ) × (k < 64) × (2 ≤ s) × (s ≤ 16) × (h < s) × (zs ≡ pos k ∷ pos s ∷ pos h ∷ []) × (f ≡ Knob k s h))
  -- pistons 0 to 39, from a knob to one that is not below it, up to 63
  pub piston : WordLaw (codes "piston") 3 (λ zs f. (p : ℕ) × (a : ℕ) × (b : ℕ) × (p < 40) × (a ≤ b) × (b < 64) × (zs ≡ pos p ∷ pos a ∷ pos b ∷ []) × (f ≡ Piston p a b))
  -- boards 1 and 2, and only the shift may be below 0
  pub wire : WordLaw (codes "wire") 8 (λ zs f. (w : fittings.Wire) × (((zs ≡ pos 1 ∷ wire_numbers w) × (f ≡ Wire Coupler w)) ⊎ ((zs ≡ pos 2 ∷ wire_numbers w) × (f ≡ Wire Stop w))))
  -- any other word is no form's
  pub other : (w : List ℕ) (zs : List ℤ) → SmallLetters w → w ≢ codes "keys" → w ≢ codes "rank" → w ≢ codes "knob" → w ≢ codes "piston" → w ≢ codes "wire" → FourDigits zs → length (form_line w zs) ≤ 65535 → Faults (form_line w zs) (fault.Form 1)
  -- and a line that is no word with its numbers is not built as a form
  pub shape : (l : List ℕ) → AllByRecursion MayStand l → l ≢ [] → length l ≤ 65535 → Faults l (fault.Shape 1) ↔ ((w : List ℕ) (zs : List ℤ) → SmallLetters w → FourDigits zs → l ≢ form_line w zs)

-- A line alone: what it says, from its word and its numbers. Assumes nothing.
use Rattle.std.proofs.Common.{◌≡◌, ℕ, ◌<◌, ◌≤◌, ◌≢◌, ◌↔◌, ◌⊎◌, true, cond, eqb, List, [], ◌∷◌, ◌++◌, length, ℤ, pos, negsuc, nat_abs, Some, None, Ok, Err, codes, Option, Result, sym, refl, ap, ◌∙◌, subst, inl, inr, ⊎_elim, arith}
use Rattle.std.specs.List.{AllByRecursion}
use Rattle.std.proofs.ByRecursion.{All-weaker}
use Rattle.std.proofs.lemmas.List.{length_push, nil_from_length}
use Rattle.std.proofs.lemmas.Bool.{cond-true, cond-false, cases_Bool, eq-eqb, ne_eqb, eqb-true, eqb-false, le-leb, leb-true, and_from, and_parts}
use Rattle.book.specs.declared.board.Board.TheVariants.{Coupler, Stop}
use Rattle.book.specs.declared.book_fault.BookFault.{BookFault}
use Rattle.book.specs.declared.book_fault.BookFault.TheVariants as fault
use Rattle.book.specs.declared.form.Form.{Form}
use Rattle.book.specs.declared.form.Form.TheVariants as form
use Rattle.book.specs.declared.head.Head.{Head}
use Rattle.book.specs.declared.head.Head.TheVariants as head
use Rattle.fittings.specs.declared.Wire as fittings
use Rattle.book.specs.Bytes.{letter}
use Rattle.book.specs.Entry.{Entry, InRange}
use Rattle.book.specs.Form.{form_from}
use Rattle.book.specs.Grammar.{head_in, numbers_in, written, Word, Short}
use Rattle.book.specs.Head.{head_of, spelling, takes}
use Rattle.book.specs.Pieces.{Shape, shape_of}
use Rattle.book.specs.Reading.{unless_byte, in_range, formed, counted, form_of, some_form, shaped, line_form, placed, and_then, read_of}
use Rattle.book.specs.ByteLimits.{MayStand}
use Rattle.book.specs.Cases.{Says, Faults}
use Rattle.book.specs.FormLaws.{form_line, SmallLetters, FourDigits, WordLaw, wire_numbers, FormsLaw}
use Rattle.book.proofs.ByteLimits.{clean, none-taken, one_line, fault_of_line}
use Rattle.book.proofs.Clash.{ok_err, ok_same, err_same}
use Rattle.book.proofs.Course.{whole}
use Rattle.book.proofs.Faulting.{Wrong, wrong_line}
use Rattle.book.proofs.Forming.{Read, form_sound, form_complete}
use Rattle.book.proofs.Gluing.{Inner, allowed-inner}
use Rattle.book.proofs.Heading.{Clean, clean-complete, head_sound, head_complete, spelling-word, written-clean, numbers_count}
use Rattle.book.proofs.Spelling.{shape_sound, shape_complete}

-- what a line that gives one form, or none, comes to
abbrev alone : Result Form BookFault → Result (List Entry) BookFault
alone (Ok f) = Ok (record { line = 1; form = f } ∷ [])
alone (Err e) = Err e

placed_alone : (r : Result Form BookFault) → and_then (placed [] 1 (some_form r)) (λ fs. Ok fs) ≡ alone r
placed_alone (Ok f) = ap (λ r. and_then r (λ fs. Ok fs)) (cond-false _ _ _ (none-taken f))
placed_alone (Err e) = refl

first_form : Form → List Entry → Form
first_form f [] = f
first_form f (e ∷ es) = e.form

alone-ok : (r : Result Form BookFault) (f : Form) → alone r ≡ Ok (record { line = 1; form = f } ∷ []) → r ≡ Ok f
unfolding first_form
alone-ok (Ok g) f e = ap (λ es. Ok (first_form f es)) (ok_same _ _ e)
alone-ok (Err x) f e = absurd (ok_err _ _ (sym e))

alone-err : (r : Result Form BookFault) (x : BookFault) → alone r ≡ Err x → r ≡ Err x
alone-err (Ok g) x e = absurd (ok_err _ _ e)
alone-err (Err y) x e = ap Err (err_same _ _ e)

-- a line with its end, that fits in a book
line_alone : (l : List ℕ) → Clean l → length l ≤ 65535 → read_of (l ++ 10 ∷ []) ≡ and_then (placed [] 1 (line_form 1 l)) (λ fs. Ok fs)
line_alone l ok few =
    sym (whole (l ++ 10 ∷ []) (omega (arith, length_push l 10))) ∙ one_line l (All-weaker _ Inner allowed-inner l ok)

-- a line that is not empty comes to its shape
shaped_line : (l : List ℕ) → Clean l → l ≢ [] → line_form 1 l ≡ shaped 1 (shape_of l)
shaped_line l ok some =
    ap (λ o. unless_byte 1 o (cond (eqb (length l) 0) (Ok None) (shaped 1 (shape_of l)))) (clean-complete l ok) ∙
    cond-false _ _ _ (ne_eqb (length l) 0 (λ none. some (nil_from_length l none)))

-- numbers of four digits, and words of small letters
four_short : (z : ℤ) → nat_abs z ≤ 9999 → Short z
four_short (pos n) h = h
four_short (negsuc n) h = omega arith

short : (zs : List ℤ) → FourDigits zs → AllByRecursion Short zs
short zs h = All-weaker _ Short four_short zs h

lettered : (w : List ℕ) → SmallLetters w → Word w
lettered [] h = absurd (h.0 refl)
lettered (b ∷ w) h = (omega arith, All-weaker _ (λ c. letter c ≡ true) (λ c k. and_from _ _ (le-leb 97 c k.0) (le-leb c 122 k.1)) (b ∷ w) h.1)

written-some : (w : List ℕ) (zs : List ℤ) → written w zs ≢ []
written-some w zs e = grind arith

-- a word and its numbers alone
module _ (w : List ℕ) (zs : List ℤ) (word : Word w) (digits : AllByRecursion Short zs) (few : length (written w zs) ≤ 65535) where
  written_alone : read_of (written w zs ++ 10 ∷ []) ≡ alone (form_of 1 (record { head = w; numbers = zs }))
  written_alone =
      let ok = written-clean w zs word digits in
      line_alone (written w zs) ok few ∙
      ap (λ q. and_then (placed [] 1 q) (λ fs. Ok fs)) (shaped_line (written w zs) ok (written-some w zs) ∙ ap (shaped 1) (shape_complete w zs word digits)) ∙
      placed_alone (form_of 1 (record { head = w; numbers = zs }))

-- a known word
module _ (h : Head) (zs : List ℤ) (digits : FourDigits zs) (few : length (form_line (spelling h) zs) ≤ 65535) where
  known_alone : read_of (form_line (spelling h) zs ++ 10 ∷ []) ≡ alone (formed 1 h zs)
  known_alone =
      written_alone (spelling h) zs (spelling-word h) (short zs digits) few ∙
      ap (λ o. alone (counted 1 (record { head = spelling h; numbers = zs }) o)) (head_complete h)

  counted_in : length zs ≡ takes h → formed 1 h zs ≡ in_range 1 (form_from h zs)
  counted_in e = cond-true _ _ _ (eq-eqb _ _ e)

  counted_out : length zs ≢ takes h → formed 1 h zs ≡ Err (fault.Form 1)
  counted_out d = cond-false _ _ _ (ne_eqb _ _ d)

  in_range-ok : (o : Option Form) (f : Form) → in_range 1 o ≡ Ok f → Some f ≡ o
  in_range-ok None f e = absurd (ok_err _ _ (sym e))
  in_range-ok (Some g) f e = ap Some (sym (ok_same _ _ e))

  formed-ok : (f : Form) → formed 1 h zs ≡ Ok f → Read h zs f
  formed-ok f e =
      ⊎_elim
      (λ d. let n = eqb-true _ _ d in form_sound h zs f n (in_range-ok (form_from h zs) f (sym (counted_in n) ∙ e)))
      (λ d. absurd (ok_err _ _ (sym e ∙ counted_out (eqb-false _ _ d))))
      (cases_Bool (eqb (length zs) (takes h)))

  read-formed : (f : Form) → Read h zs f → formed 1 h zs ≡ Ok f
  read-formed f r =
      let n : length zs ≡ takes h = ap length (sym r.numbers) ∙ numbers_count f ∙ ap takes r.head in
      counted_in n ∙ ap (in_range 1) ((λ i. form_from (sym r.head i) (sym r.numbers i)) ∙ form_complete f r.ranges)

  read_says : (f : Form) → Says (form_line (spelling h) zs) f ↔ Read h zs f
  read_says f = (λ e. formed-ok f (alone-ok (formed 1 h zs) f (sym known_alone ∙ e)), λ r. known_alone ∙ ap alone (read-formed f r))

  no_form : (o : Option Form) → in_range 1 o ≡ Err (fault.Form 1) → ⊥
  no_form None e = let clash = err_same _ _ e in grind arith
  no_form (Some f) e = ok_err _ _ e

  read-count : Faults (form_line (spelling h) zs) (fault.Form 1) ↔ length zs ≢ takes h
  read-count = (
    λ e n. no_form (form_from h zs) (sym (counted_in n) ∙ alone-err (formed 1 h zs) (fault.Form 1) (sym known_alone ∙ e)),
    λ d. known_alone ∙ ap alone (counted_out d),
  )

  out_of_range : (o : Option Form) → ((f : Form) → Some f ≡ o → ⊥) → in_range 1 o ≡ Err (fault.Range 1)
  out_of_range None none = refl
  out_of_range (Some f) none = absurd (none f refl)

  read-range : length zs ≡ takes h → ((f : Form) → Read h zs f → ⊥) → Faults (form_line (spelling h) zs) (fault.Range 1)
  read-range n none =
      known_alone ∙ ap alone (counted_in n ∙ out_of_range (form_from h zs) (λ f e. none f (form_sound h zs f n e)))

-- the law of a known word, from what its numbers mean
word_law : (h : Head) (Means : List ℤ → Form → Type 0) → ((zs : List ℤ) (f : Form) → Read h zs f ↔ Means zs f) → WordLaw (spelling h) (takes h) Means
word_law h Means same =
    record {
      says =
          λ zs f digits few.
          let r = read_says h zs digits few f in
          (λ e. (same zs f).0 (r.0 e), λ m. r.1 ((same zs f).1 m));
      count = read-count h;
      range = λ zs digits few n none. read-range h zs digits few n (λ f r. none f ((same zs f).0 r));
    }

abbrev Row : (ℕ → ℕ → Form) → List ℤ → Form → Type 0
Row says zs f =
    (r : ℕ) × (n : ℕ) × (r < 16) × (n ≤ 128) × (zs ≡ pos r ∷ pos n ∷ []) × (f ≡ says r n)

keys_mean : (zs : List ℤ) (f : Form) → Read head.Keys zs f → Row form.Keys zs f
keys_mean zs (form.Keys row reach) r = (row, reach, r.ranges.0, r.ranges.1, sym r.numbers, refl)
keys_mean zs (form.Rank row reach) r = let e = r.head in cc
keys_mean zs (form.Knob knob steps home) r = let e = r.head in cc
keys_mean zs (form.Piston piston lowest highest) r = let e = r.head in cc
keys_mean zs (form.Wire board wire) r = let e = r.head in cc

rank_mean : (zs : List ℤ) (f : Form) → Read head.Rank zs f → Row form.Rank zs f
rank_mean zs (form.Keys row reach) r = let e = r.head in cc
rank_mean zs (form.Rank row reach) r = (row, reach, r.ranges.0, r.ranges.1, sym r.numbers, refl)
rank_mean zs (form.Knob knob steps home) r = let e = r.head in cc
rank_mean zs (form.Piston piston lowest highest) r = let e = r.head in cc
rank_mean zs (form.Wire board wire) r = let e = r.head in cc

abbrev KnobNumbers : List ℤ → Form → Type 0
KnobNumbers zs f =
    (k : ℕ) × (s : ℕ) × (h : ℕ) × (k < 64) × (2 ≤ s) × (s ≤ 16) × (h < s) × (zs ≡ pos k ∷ pos s ∷ pos h ∷ []) × (f ≡ form.Knob k s h)

knob_mean : (zs : List ℤ) (f : Form) → Read head.Knob zs f → KnobNumbers zs f
knob_mean zs (form.Keys row reach) r = let e = r.head in cc
knob_mean zs (form.Rank row reach) r = let e = r.head in cc
knob_mean zs (form.Knob knob steps home) r = (knob, steps, home, r.ranges.0, r.ranges.1.0, r.ranges.1.1, r.ranges.1.2, sym r.numbers, refl)
knob_mean zs (form.Piston piston lowest highest) r = let e = r.head in cc
knob_mean zs (form.Wire board wire) r = let e = r.head in cc

abbrev PistonNumbers : List ℤ → Form → Type 0
PistonNumbers zs f =
    (p : ℕ) × (a : ℕ) × (b : ℕ) × (p < 40) × (a ≤ b) × (b < 64) × (zs ≡ pos p ∷ pos a ∷ pos b ∷ []) × (f ≡ form.Piston p a b)

piston_means : (zs : List ℤ) (f : Form) → Read head.Piston zs f → PistonNumbers zs f
piston_means zs (form.Keys row reach) r = let e = r.head in cc
piston_means zs (form.Rank row reach) r = let e = r.head in cc
piston_means zs (form.Knob knob steps home) r = let e = r.head in cc
piston_means zs (form.Piston piston lowest highest) r = (piston, lowest, highest, r.ranges.0, r.ranges.1.0, r.ranges.1.1, sym r.numbers, refl)
piston_means zs (form.Wire board wire) r = let e = r.head in cc

abbrev WireNumbers : List ℤ → Form → Type 0
WireNumbers zs f =
    (w : fittings.Wire) × (((zs ≡ pos 1 ∷ wire_numbers w) × (f ≡ form.Wire Coupler w)) ⊎ ((zs ≡ pos 2 ∷ wire_numbers w) × (f ≡ form.Wire Stop w)))

wire_means : (zs : List ℤ) (f : Form) → Read head.Wire zs f → WireNumbers zs f
wire_means zs (form.Keys row reach) r = let e = r.head in cc
wire_means zs (form.Rank row reach) r = let e = r.head in cc
wire_means zs (form.Knob knob steps home) r = let e = r.head in cc
wire_means zs (form.Piston piston lowest highest) r = let e = r.head in cc
wire_means zs (form.Wire Coupler wire) r = (wire, inl (sym r.numbers, refl))
wire_means zs (form.Wire Stop wire) r = (wire, inr (sym r.numbers, refl))

-- and back: such numbers are read as the form
back : (h : Head) (zs : List ℤ) (f g : Form) → f ≡ g → head_in g ≡ h → zs ≡ numbers_in g → InRange g → Read h zs f
back h zs f g e hd nums ranges =
    record { head = ap head_in e ∙ hd; numbers = ap numbers_in e ∙ sym nums; ranges = subst InRange (sym e) ranges }

wire_back : (zs : List ℤ) (f : Form) → WireNumbers zs f → Read head.Wire zs f
wire_back zs f m =
    ⊎_elim
    (λ c. back head.Wire zs f (form.Wire Coupler m.0) c.1 refl c.0 tt)
    (λ s. back head.Wire zs f (form.Wire Stop m.0) s.1 refl s.0 tt)
    m.1

-- a word that no form has
other_word : (w : List ℕ) (zs : List ℤ) → SmallLetters w → w ≢ codes "keys" → w ≢ codes "rank" → w ≢ codes "knob" → w ≢ codes "piston" → w ≢ codes "wire" → FourDigits zs → length (form_line w zs) ≤ 65535 → Faults (form_line w zs) (fault.Form 1)
other_word w zs word keys rank knob piston wire digits few =
    written_alone w zs (lettered w word) (short zs digits) few ∙ unknown (head_of w) refl
  where
    no_head : (h : Head) → w ≡ spelling h → ⊥
    no_head head.Keys e = keys e
    no_head head.Rank e = rank e
    no_head head.Knob e = knob e
    no_head head.Piston e = piston e
    no_head head.Wire e = wire e

    unknown : (o : Option Head) → head_of w ≡ o → alone (counted 1 (record { head = w; numbers = zs }) o) ≡ Err (fault.Form 1)
    unknown None e = refl
    unknown (Some h) e = absurd (no_head h (head_sound w h e))

small : (w : List ℕ) → Word w → SmallLetters w
small w h = (
  λ none. omega (arith, h.0, ap length none),
  All-weaker _ (λ b. (97 ≤ b) × (b ≤ 122)) (λ b k. let p = and_parts _ _ k in (leb-true _ _ p.0, leb-true _ _ p.1)) w h.1,
)

short_four : (z : ℤ) → Short z → nat_abs z ≤ 9999
short_four (pos n) h = h
short_four (negsuc n) h = omega arith

four : (zs : List ℤ) → AllByRecursion Short zs → FourDigits zs
four zs h = All-weaker Short (λ z. nat_abs z ≤ 9999) short_four zs h

-- a line that is not built as a form
module _ (l : List ℕ) (all : AllByRecursion MayStand l) (some : l ≢ []) (few : length l ≤ 65535) where
  shape-fault : Faults l (fault.Shape 1) → (w : List ℕ) (zs : List ℤ) → SmallLetters w → FourDigits zs → l ≢ form_line w zs
  unfolding Wrong
  shape-fault e w zs word digits =
      let wrong = (wrong_line 1 l (fault.Shape 1) (fault_of_line (line_form 1 l) (fault.Shape 1) (sym (line_alone l (clean l all) few) ∙ e))).1 [] in
      wrong.2 refl w zs (lettered w word) (short zs digits)

  shape-none : (o : Option Shape) → shape_of l ≡ o → ((w : List ℕ) (zs : List ℤ) → SmallLetters w → FourDigits zs → l ≢ form_line w zs) → shaped 1 o ≡ Err (fault.Shape 1)
  shape-none None is none = refl
  shape-none (Some s) is none =
      let t = shape_sound l s is in
      absurd (none s.head s.numbers (small s.head t.word) (four s.numbers t.short) t.text)

  shape-faulty : ((w : List ℕ) (zs : List ℤ) → SmallLetters w → FourDigits zs → l ≢ form_line w zs) → Faults l (fault.Shape 1)
  shape-faulty none =
      line_alone l (clean l all) few ∙
      ap (λ q. and_then (placed [] 1 q) (λ fs. Ok fs)) (shaped_line l (clean l all) some ∙ shape-none (shape_of l) refl none)

pub forms_law : FormsLaw
forms_law =
    record {
      keys = word_law head.Keys (Row form.Keys) (λ zs f. (keys_mean zs f, λ m. back head.Keys zs f (form.Keys m.0 m.1) m.5 refl m.4 (m.2, m.3)));
      rank = word_law head.Rank (Row form.Rank) (λ zs f. (rank_mean zs f, λ m. back head.Rank zs f (form.Rank m.0 m.1) m.5 refl m.4 (m.2, m.3)));
      knob =
          word_law head.Knob KnobNumbers (λ zs f. (knob_mean zs f, λ m. back head.Knob zs f (form.Knob m.0 m.1 m.2) m.8 refl m.7 (m.3, (m.4, m.5, m.6))));
      piston =
          word_law head.Piston PistonNumbers (λ zs f. (piston_means zs f, λ m. back head.Piston zs f (form.Piston m.0 m.1 m.2) m.7 refl m.6 (m.3, (m.4, m.5))));
      wire = word_law head.Wire WireNumbers (λ zs f. (wire_means zs f, wire_back zs f));
      other = other_word;
      shape = λ l all some few. (shape-fault l all some few, shape-faulty l all some few);
    }

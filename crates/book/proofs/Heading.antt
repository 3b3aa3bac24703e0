-- The words of the forms, and a line that is a form's text. Assumes nothing.
use Rattle.std.proofs.Common.{◌≡◌, ℕ, ◌<◌, true, false, cond, eqb, ◌⊎◌, List, [], ◌∷◌, length, get_or, take, ℤ, Some, None, Ok, Option, sym, refl, ap, ◌∙◌, subst, inl, inr, ⊎_elim, arith}
use Rattle.std.specs.List.{flat_map, AllByRecursion}
use Rattle.std.specs.Fmt.{signed_decimal}
use Rattle.std.specs.Str.{bytes_eq}
use Rattle.std.proofs.ByRecursion.{All-append, All-weaker, All-get_or}
use Rattle.std.proofs.lemmas.List.{take_all}
use Rattle.std.proofs.lemmas.List.Sums.{prefix_len_stops}
use Rattle.std.proofs.lemmas.Slice.Eq.{bytes_eq-Decides}
use Rattle.std.proofs.lemmas.Bool.{cond-true, cond-false, cases_Bool, eq-eqb, ne_eqb}
use Rattle.std.proofs.lemmas.Bool.Decides.{nat_tests}
use Rattle.std.proofs.lemmas.Option.{none-some, same_Some}
use Rattle.book.specs.declared.form.Form.{Form}
use Rattle.book.specs.declared.form.Form.TheVariants as form
use Rattle.book.specs.declared.head.Head.{Head}
use Rattle.book.specs.declared.head.Head.TheVariants as head
use Rattle.book.specs.Bytes.{allowed, first_outside, letter, numeric, closing}
use Rattle.book.specs.Entry.{InRange}
use Rattle.book.specs.Grammar.{head_in, numbers_in, number_text, written, form_text, Word, Short}
use Rattle.book.specs.Head.{head_of, spelling, takes}
use Rattle.book.specs.Pieces.{Shape, shape_of}
use Rattle.book.specs.Reading.{unless_byte, in_range, counted, some_form, shaped, line_form}
use Rattle.book.proofs.Forming.{form_sound, form_complete}
use Rattle.book.proofs.Lining.{line_formed}
use Rattle.book.proofs.Outside.{some-outside, none-outside, outside-none, passed}
use Rattle.book.proofs.Spelling.{shape_sound, shape_complete}
use Rattle.book.proofs.Writing.{signed_numeric}

head_step : (w : List ℕ) (k h : Head) (rest : Option Head) → cond (bytes_eq w (spelling k)) (Some k) rest ≡ Some h → (w ≡ spelling h) ⊎ (rest ≡ Some h)
head_step w k h rest e =
    ⊎_elim
    (λ d. inl ((bytes_eq-Decides w (spelling k)).0 d ∙ ap spelling (same_Some k h (sym (cond-true _ _ _ d) ∙ e))))
    (λ d. inr (sym (cond-false _ _ _ d) ∙ e))
    (cases_Bool (bytes_eq w (spelling k)))

-- a known word is the word's spelling
pub head_sound : (w : List ℕ) (h : Head) → head_of w ≡ Some h → w ≡ spelling h
head_sound w h e =
    ⊎_elim (λ is. is) (λ e1.
    ⊎_elim (λ is. is) (λ e2.
    ⊎_elim (λ is. is) (λ e3.
    ⊎_elim (λ is. is) (λ e4.
    ⊎_elim (λ is. is) (λ e5. absurd (none-some h e5))
    (head_step w head.Wire h _ e4))
    (head_step w head.Piston h _ e3))
    (head_step w head.Knob h _ e2))
    (head_step w head.Rank h _ e1))
    (head_step w head.Keys h _ e)

pub head_complete : (h : Head) → head_of (spelling h) ≡ Some h
head_complete head.Keys = refl
head_complete head.Rank = refl
head_complete head.Knob = refl
head_complete head.Piston = refl
head_complete head.Wire = refl

pub spelling-word : (h : Head) → Word (spelling h)
spelling-word head.Keys = (omega arith, (refl, (refl, (refl, (refl, tt)))))
spelling-word head.Rank = (omega arith, (refl, (refl, (refl, (refl, tt)))))
spelling-word head.Knob = (omega arith, (refl, (refl, (refl, (refl, tt)))))
spelling-word head.Piston = (omega arith, (refl, (refl, (refl, (refl, (refl, (refl, tt)))))))
spelling-word head.Wire = (omega arith, (refl, (refl, (refl, (refl, tt)))))

pub numbers_count : (f : Form) → length (numbers_in f) ≡ takes (head_in f)
numbers_count (form.Keys row reach) = refl
numbers_count (form.Rank row reach) = refl
numbers_count (form.Knob knob steps home) = refl
numbers_count (form.Piston piston lowest highest) = refl
numbers_count (form.Wire board wire) = refl

abbrev pub Clean : List ℕ → Type 0
Clean l = AllByRecursion (λ b. allowed b ≡ true) l

letter-allowed : (b : ℕ) → letter b ≡ true → allowed b ≡ true
letter-allowed b h = grind (arith, nat_tests)

numeric-allowed : (b : ℕ) → numeric b ≡ true → allowed b ≡ true
numeric-allowed b h = grind (arith, nat_tests)

numbers_clean : (zs : List ℤ) → AllByRecursion Short zs → Clean (flat_map number_text zs)
numbers_clean [] short = tt
numbers_clean (z ∷ zs) short =
    (refl, All-append _ (signed_decimal z) (flat_map number_text zs) (All-weaker _ _ numeric-allowed (signed_decimal z) (signed_numeric z short.0).0) (numbers_clean zs short.1))

pub written-clean : (w : List ℕ) (zs : List ℤ) → Word w → AllByRecursion Short zs → Clean (written w zs)
written-clean w zs word short =
    (refl, All-append _ w _ (All-weaker _ _ letter-allowed w word.1) (All-append _ (flat_map number_text zs) (closing ∷ []) (numbers_clean zs short) (refl, tt)))

pub clean-complete : (l : List ℕ) → Clean l → first_outside allowed l ≡ None
clean-complete l all = sym (outside-none allowed l (λ k in'. All-get_or _ l k 0 in' all))

pub clean-sound : (l : List ℕ) → first_outside allowed l ≡ None → Clean l
clean-sound l none = subst Clean (take_all (length l) l (omega arith)) (passed allowed l (length l) (none-outside allowed l (sym none)))

-- a byte that may not stand in a line, and before it none
pub first-bad : (l : List ℕ) (k : ℕ) → first_outside allowed l ≡ Some k → (k < length l) × (allowed (get_or l k 0) ≡ false) × Clean (take k l)
first-bad l k is =
    let at = some-outside allowed l k (sym is) in
    (at.1, ap (λ n. allowed (get_or l n 0)) at.0 ∙ prefix_len_stops allowed l 0 (omega (arith, at.0, at.1)), passed allowed l k (omega (arith, at.0)))

-- a form that a line gives is the form that it spells
pub record FormLine (l : List ℕ) (f : Form) : Type 0 where
  pub text : l ≡ form_text f
  pub ranges : InRange f
  pub short : AllByRecursion Short (numbers_in f)

pub line_sound : (n : ℕ) (l : List ℕ) (f : Form) → Ok (Some f) ≡ line_form n l → FormLine l f
line_sound n l f e =
    let g = line_formed n l f e in
    let s = shape_sound l g.shape g.shaped in
    let r = form_sound g.head g.shape.numbers f g.count g.form in
    let word : g.shape.head ≡ spelling (head_in f) = head_sound g.shape.head g.head g.known ∙ ap spelling (sym r.head) in
    record {
      text = s.text ∙ (λ i. written (word i) (sym r.numbers i));
      ranges = r.ranges;
      short = subst (AllByRecursion Short) (sym r.numbers) s.short;
    }

pub line_complete : (n : ℕ) (f : Form) → InRange f → AllByRecursion Short (numbers_in f) → line_form n (form_text f) ≡ Ok (Some f)
line_complete n f ranges short =
    let w = spelling (head_in f) in
    let zs = numbers_in f in
    let s : Shape = record { head = w; numbers = zs } in
    ap (λ o. unless_byte n o (cond (eqb (length (form_text f)) 0) (Ok None) (shaped n (shape_of (form_text f))))) (clean-complete (form_text f) (written-clean w zs (spelling-word (head_in f)) short)) ∙
    cond-false _ _ _ (ne_eqb (length (form_text f)) 0 (λ (none : length (form_text f) ≡ 0). omega arith)) ∙
    ap (shaped n) (shape_complete w zs (spelling-word (head_in f)) short) ∙
    ap (λ o. some_form (counted n s o)) (head_complete (head_in f)) ∙
    ap some_form (cond-true _ _ _ (eq-eqb _ _ (numbers_count f))) ∙
    ap (λ o. some_form (in_range n o)) (form_complete f ranges)

-- A line of the right shape, up to its form. Assumes nothing.
use Rattle.std.proofs.Common.{◌≡◌, ℕ, cond, eqb, List, length, Some, None, Ok, Err, Option, Result, sym, refl, ap, ◌∙◌, ⊎_elim, arith}
use Rattle.std.proofs.lemmas.Bool.{cond-true, cond-false, ne_eqb, cases_Bool, eqb-true}
use Rattle.book.specs.Bytes.{allowed, first_outside}
use Rattle.book.specs.Entry.{InRange}
use Rattle.book.specs.declared.book_fault.BookFault.{BookFault}
use Rattle.book.specs.declared.form.Form.{Form}
use Rattle.book.specs.declared.parts.Parts.{Parts}
use Rattle.book.specs.Pieces.{Shape, shape_of}
use Rattle.book.specs.declared.book_fault.BookFault.TheVariants as fault
use Rattle.book.specs.declared.head.Head.{Head}
use Rattle.book.specs.Head.{head_of, takes}
use Rattle.book.specs.Form.{form_from}
use Rattle.book.proofs.Forming.{form_sound}
use Rattle.book.specs.Reading.{unless_byte, form_of, in_range, counted, shaped, some_form, line_form}
use Rattle.book.specs.Shapes.{Kept, Shapes}

-- r is what the parts of the line come to
abbrev pub Comes : Parts → Result Form BookFault → Type 0
Comes p r = (s : Shape) → p.word.now ≡ s.head → Kept p.numbers s.numbers → r ≡ form_of p.line s

by_shape : (n : ℕ) (o : Option Shape) (p : Parts) (r : Result Form BookFault) → Shapes n (Some p) o → Comes p r → some_form r ≡ shaped n o
by_shape n None p r h f = absurd h
by_shape n (Some s) p r h f = ap some_form (f s h.0 h.2 ∙ ap (λ m. form_of m s) h.1)

pub line_shaped : (n : ℕ) (l : List ℕ) (p : Parts) (r : Result Form BookFault) → None ≡ first_outside allowed l → (length l ≡ 0 → ⊥) → Shapes n (Some p) (shape_of l) → Comes p r → some_form r ≡ line_form n l
line_shaped n l p r ok some h f =
    by_shape n (shape_of l) p r h f ∙ sym (cond-false _ _ _ (ne_eqb (length l) 0 some)) ∙ ap (λ o. unless_byte n o (cond (eqb (length l) 0) (Ok None) (shaped n (shape_of l)))) ok

-- what a line with a form is: its shape, and the form of that
pub record Formed (n : ℕ) (l : List ℕ) (f : Form) : Type 0 where
  pub shape : Shape
  pub head : Head
  pub shaped : shape_of l ≡ Some shape
  pub known : head_of shape.head ≡ Some head
  pub count : length shape.numbers ≡ takes head
  pub form : Some f ≡ form_from head shape.numbers

by_range : (n : ℕ) (o : Option Form) (f : Form) → Ok f ≡ in_range n o → Some f ≡ o
by_range n None f e = absurd (grind arith)
by_range n (Some g) f e = cc

by_head : (n : ℕ) (s : Shape) (o : Option Head) (f : Form) → Ok f ≡ counted n s o → (h : Head) × (o ≡ Some h) × (length s.numbers ≡ takes h) × (Some f ≡ form_from h s.numbers)
by_head n s None f e = absurd (grind arith)
by_head n s (Some h) f e =
    ⊎_elim
    (λ d. (h, refl, eqb-true _ _ d, by_range n _ f (e ∙ cond-true _ _ _ d)))
    (λ d. absurd (let g = e ∙ cond-false _ (in_range n (form_from h s.numbers)) (Err (fault.Form n)) d in grind arith))
    (cases_Bool (eqb (length s.numbers) (takes h)))

by_some : (r : Result Form BookFault) (f : Form) → Ok (Some f) ≡ some_form r → Ok f ≡ r
by_some (Ok g) f e = cc
by_some (Err x) f e = absurd (grind arith)

by_shaped : (n : ℕ) (l : List ℕ) (o : Option Shape) (f : Form) → shape_of l ≡ o → Ok (Some f) ≡ shaped n o → Formed n l f
by_shaped n l None f is e = absurd (grind arith)
by_shaped n l (Some s) f is e =
    let g = by_head n s (head_of s.head) f (by_some _ f e) in
    record { shape = s; head = g.0; shaped = is; known = g.1; count = g.2; form = g.3 }

by_byte : (n : ℕ) (l : List ℕ) (o : Option ℕ) (f : Form) → Ok (Some f) ≡ unless_byte n o (cond (eqb (length l) 0) (Ok None) (shaped n (shape_of l))) → Formed n l f
by_byte n l (Some at) f e = absurd (grind arith)
by_byte n l None f e =
    ⊎_elim
    (λ none. absurd (let g = e ∙ cond-true _ _ _ none in grind arith))
    (λ some. by_shaped n l (shape_of l) f refl (e ∙ cond-false _ _ _ some))
    (cases_Bool (eqb (length l) 0))

pub line_formed : (n : ℕ) (l : List ℕ) (f : Form) → Ok (Some f) ≡ line_form n l → Formed n l f
line_formed n l f e = by_byte n l (first_outside allowed l) f e

-- a form that a line gives is in range
pub line_in-range : (n : ℕ) (l : List ℕ) (f : Form) → Ok (Some f) ≡ line_form n l → InRange f
line_in-range n l f e = let g = line_formed n l f e in (form_sound g.head g.shape.numbers f g.count g.form).ranges

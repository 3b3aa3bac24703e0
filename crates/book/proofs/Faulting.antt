-- What is wrong with a line that gives no form. Assumes nothing.
use Rattle.std.proofs.Common.{◌≡◌, ℕ, true, cond, eqb, List, [], length, Some, None, Ok, Err, Option, Result, sym, refl, ap, ◌∙◌, subst, ⊎_elim}
use Rattle.std.proofs.lemmas.List.{nil_from_length}
use Rattle.std.proofs.lemmas.Bool.{cond-true, cond-false, cases_Bool, eqb-true, eqb-false}
use Rattle.std.proofs.lemmas.Option.{none-some, same_Some}
use Rattle.book.specs.declared.book_fault.BookFault.{BookFault}
use Rattle.book.specs.declared.book_fault.BookFault.TheVariants as fault
use Rattle.book.specs.declared.form.Form.{Form}
use Rattle.book.specs.declared.head.Head.{Head}
use Rattle.book.specs.Bytes.{allowed, first_outside}
use Rattle.book.specs.Entry.{Entry}
use Rattle.book.specs.BookFault.{line_of}
use Rattle.book.specs.Form.{form_from}
use Rattle.book.specs.Grammar.{written, Faulty}
use Rattle.book.specs.Head.{head_of, spelling, takes}
use Rattle.book.specs.Pieces.{Shape, shape_of}
use Rattle.book.specs.Reading.{unless_byte, in_range, counted, form_of, some_form, shaped, line_form}
use Rattle.book.proofs.Clash.{ok_err, ok_same, err_same}
use Rattle.book.proofs.Forming.{form_complete}
use Rattle.book.proofs.Heading.{Clean, head_sound, head_complete, clean-sound, first-bad}
use Rattle.book.proofs.Spelling.{shape_sound, shape_complete}

-- what is wrong with line n, where its own form is not given twice
unfoldable pub Wrong : ℕ → List ℕ → BookFault → Type 0
Wrong n l e = (line_of e ≡ n) × ((es : List Entry) → Faulty es l true e)

module _ (n : ℕ) (l : List ℕ) (s : Shape) (is : shape_of l ≡ Some s) where
  wrong_form : ((h : Head) → s.head ≡ spelling h → length s.numbers ≡ takes h → ⊥) → Wrong n l (fault.Form n)
  unfolding Wrong
  wrong_form none = let t = shape_sound l s is in (refl, λ es. (refl, s.head, s.numbers, t.word, t.short, t.text, none))

  wrong_range : (e : BookFault) (h : Head) (o : Option Form) → head_of s.head ≡ Some h → length s.numbers ≡ takes h → form_from h s.numbers ≡ o → Err e ≡ some_form (in_range n o) → Wrong n l e
  unfolding Wrong
  wrong_range e h None known count none is_err =
      let t = shape_sound l s is in
      subst (Wrong n l) (sym (err_same _ _ is_err)) (
        refl,
        λ es. (
          refl,
          h,
          s.numbers,
          t.short,
          count,
          t.text ∙ ap (λ w. written w s.numbers) (head_sound s.head h known),
          λ f ranges hd nums. none-some f (sym none ∙ (λ i. form_from (sym hd i) (sym nums i)) ∙ form_complete f ranges),
        ),
      )
  wrong_range e h (Some f) known count form is_err = absurd (ok_err _ _ (sym is_err))

  wrong_head : (e : BookFault) (o : Option Head) → head_of s.head ≡ o → Err e ≡ some_form (counted n s o) → Wrong n l e
  unfolding Wrong
  wrong_head e None known is_err =
      subst (Wrong n l) (sym (err_same _ _ is_err)) (wrong_form (λ h word count. none-some h (sym known ∙ ap head_of word ∙ head_complete h)))
  wrong_head e (Some h) known is_err =
      ⊎_elim
      (λ d. wrong_range e h (form_from h s.numbers) known (eqb-true _ _ d) refl (is_err ∙ ap some_form (cond-true _ _ _ d)))
      (λ d.
      subst (Wrong n l) (sym (err_same _ _ (is_err ∙ ap some_form (cond-false _ _ _ d))))
      (wrong_form (λ k word count.
      let same : k ≡ h = same_Some k h (sym (head_complete k) ∙ ap head_of (sym word) ∙ known) in
      eqb-false _ _ d (count ∙ ap takes same))))
      (cases_Bool (eqb (length s.numbers) (takes h)))

wrong_shape : (n : ℕ) (l : List ℕ) (e : BookFault) (o : Option Shape) → Clean l → (l ≡ [] → ⊥) → shape_of l ≡ o → Err e ≡ shaped n o → Wrong n l e
unfolding Wrong
wrong_shape n l e None ok some none is_err =
    subst (Wrong n l) (sym (err_same _ _ is_err))
    (refl, λ es. (ok, some, λ _ w zs word short text. none-some _ (sym none ∙ ap shape_of text ∙ shape_complete w zs word short)))
wrong_shape n l e (Some s) ok some is is_err = wrong_head n l s is e (head_of s.head) refl is_err

wrong_byte : (n : ℕ) (l : List ℕ) (e : BookFault) (o : Option ℕ) → first_outside allowed l ≡ o → Err e ≡ unless_byte n o (cond (eqb (length l) 0) (Ok None) (shaped n (shape_of l))) → Wrong n l e
unfolding Wrong
wrong_byte n l e (Some at) bad is_err = subst (Wrong n l) (sym (err_same _ _ is_err)) (refl, λ es. first-bad l at bad)
wrong_byte n l e None ok is_err =
    ⊎_elim
    (λ none. absurd (ok_err _ _ (sym (is_err ∙ cond-true _ _ _ none))))
    (λ some. wrong_shape n l e (shape_of l) (clean-sound l ok) (λ empty. eqb-false _ _ some (ap length empty)) refl (is_err ∙ cond-false _ _ _ some))
    (cases_Bool (eqb (length l) 0))

pub wrong_line : (n : ℕ) (l : List ℕ) (e : BookFault) → Err e ≡ line_form n l → Wrong n l e
wrong_line n l e is_err = wrong_byte n l e (first_outside allowed l) refl is_err

-- a line that gives nothing is empty
some-never : (r : Result Form BookFault) → Ok None ≡ some_form r → ⊥
some-never (Ok f) e = none-some f (ok_same _ _ e)
some-never (Err x) e = ok_err _ _ e

shaped-never : (n : ℕ) (o : Option Shape) → Ok None ≡ shaped n o → ⊥
shaped-never n None e = ok_err _ _ e
shaped-never n (Some s) e = some-never (form_of n s) e

empty_byte : (n : ℕ) (l : List ℕ) (o : Option ℕ) → Ok None ≡ unless_byte n o (cond (eqb (length l) 0) (Ok None) (shaped n (shape_of l))) → l ≡ []
empty_byte n l (Some at) e = absurd (ok_err _ _ e)
empty_byte n l None e =
    ⊎_elim
    (λ none. nil_from_length l (eqb-true _ _ none))
    (λ some. absurd (shaped-never n (shape_of l) (e ∙ cond-false _ _ _ some)))
    (cases_Bool (eqb (length l) 0))

pub empty_line : (n : ℕ) (l : List ℕ) → Ok None ≡ line_form n l → l ≡ []
empty_line n l e = empty_byte n l (first_outside allowed l) e

-- What reading the lines of a text comes to, in the words of the grammar. Assumes nothing.
use Rattle.std.proofs.Common.{◌≡◌, ℕ, ◌+◌, Bool, true, false, cond, eqb, List, [], ◌∷◌, ◌++◌, length, Some, None, Ok, Err, Option, Result, sym, refl, ap, ◌∙◌, subst, ⊎_elim, arith}
use Rattle.std.specs.List.{AllByRecursion}
use Rattle.std.proofs.lemmas.List.{append-nil, append_assoc, nil_from_length}
use Rattle.std.proofs.lemmas.Bool.{cond-true, cond-false, cases_Bool, eqb-true, eqb-false, true≢false}
use Rattle.book.specs.declared.book_fault.BookFault.{BookFault}
use Rattle.book.specs.declared.book_fault.BookFault.TheVariants as fault
use Rattle.book.specs.declared.form.Form.{Form}
use Rattle.book.specs.Bytes.{allowed, first_outside, line_end}
use Rattle.book.specs.Entry.{Entry, taken}
use Rattle.book.specs.BookFault.{line_of}
use Rattle.book.specs.Grammar.{form_text, text_of, entries_from, Fits, FitAfter, Stands, Faulty, Refused}
use Rattle.book.specs.Reading.{unless_byte, line_form, placed, at_end, cut, and_then, lines_from}
use Rattle.book.proofs.Heading.{clean-sound, first-bad, line_sound}
use Rattle.book.proofs.Gluing.{Inner, glue, glue-cut, cut-inner, cut-some}
use Rattle.book.proofs.Faulting.{Wrong, wrong_line, empty_line}

-- what reading the lines of a text from line n on comes to, in the grammar's words
unfoldable pub Outcome : List Entry → ℕ → List ℕ → Result (List Entry) BookFault → Type 0
Outcome es n bs (Ok fs) = (ls : List (Option Form)) × (bs ≡ text_of ls) × FitAfter es n ls × (fs ≡ es ++ entries_from n ls)
Outcome es n bs (Err f) = Refused es n bs f

-- one good line before the rest
stands_before : (bs front l : List ℕ) (ended : Bool) (line : List ℕ) → Stands bs front l ended → Stands (line ++ line_end ∷ bs) (line ++ line_end ∷ front) l ended
stands_before bs front l true line h = (h.0, ap (λ x. line ++ line_end ∷ x) h.1 ∙ sym (append_assoc line (line_end ∷ front) (l ++ line_end ∷ h.0)))
stands_before bs front l false line h = ap (λ x. line ++ line_end ∷ x) h ∙ sym (append_assoc line (line_end ∷ front) l)

before_none : (es : List Entry) (n : ℕ) (bs : List ℕ) (r : Result (List Entry) BookFault) → Outcome es (n + 1) bs r → Outcome es n (line_end ∷ bs) r
unfolding Outcome
before_none es n bs (Ok fs) o = (None ∷ o.0, ap (λ x. line_end ∷ x) o.1, o.2, o.3)
before_none es n bs (Err f) o =
    record {
      before = None ∷ o.before;
      fit = o.fit;
      line = o.line;
      ended = o.ended;
      whole = o.whole;
      stands = stands_before bs (text_of o.before) o.line o.ended [] o.stands;
      number = o.number ∙ omega arith;
      fault = o.fault;
    }

before_form : (es : List Entry) (n : ℕ) (f : Form) (bs : List ℕ) (r : Result (List Entry) BookFault) → Fits es f → Outcome (es ++ record { line = n; form = f } ∷ []) (n + 1) bs r → Outcome es n (form_text f ++ line_end ∷ bs) r
unfolding Outcome
before_form es n f bs (Ok fs) fits o =
    (Some f ∷ o.0, ap (λ x. form_text f ++ line_end ∷ x) o.1, (fits, o.2), o.3 ∙ append_assoc es (record { line = n; form = f } ∷ []) (entries_from (n + 1) o.0))
before_form es n f bs (Err g) fits o =
    record {
      before = Some f ∷ o.before;
      fit = (fits, o.fit);
      line = o.line;
      ended = o.ended;
      whole = o.whole;
      stands = stands_before bs (text_of o.before) o.line o.ended (form_text f) o.stands;
      number = o.number ∙ omega arith;
      fault = subst (λ x. Faulty x o.line o.ended g) (append_assoc es (record { line = n; form = f } ∷ []) (entries_from (n + 1) o.before)) o.fault;
    }

-- the first line is the faulty one
refused_here : (es : List Entry) (n : ℕ) (l rest : List ℕ) (e : BookFault) → AllByRecursion Inner l → line_of e ≡ n → Faulty es l true e → Refused es n (l ++ line_end ∷ rest) e
refused_here es n l rest e inner at wrong =
    record {
      before = [];
      fit = tt;
      line = l;
      ended = true;
      whole = inner;
      stands = (rest, refl);
      number = at ∙ omega arith;
      fault = subst (λ x. Faulty x l true e) (sym (append-nil es)) wrong;
    }

-- the bytes without an end are the faulty line
refused_last : (es : List Entry) (n : ℕ) (l : List ℕ) (e : BookFault) → AllByRecursion Inner l → line_of e ≡ n → Faulty es l false e → Refused es n l e
refused_last es n l e inner at wrong =
    record {
      before = [];
      fit = tt;
      line = l;
      ended = false;
      whole = inner;
      stands = refl;
      number = at ∙ omega arith;
      fault = subst (λ x. Faulty x l false e) (sym (append-nil es)) wrong;
    }

last_byte : (es : List Entry) (n : ℕ) (l : List ℕ) (o : Option ℕ) → AllByRecursion Inner l → first_outside allowed l ≡ o → Outcome es n l (unless_byte n o (cond (eqb (length l) 0) (Ok es) (Err (fault.Shape n))))
unfolding Outcome
last_byte es n l (Some at) inner bad = refused_last es n l (fault.Byte n at) inner refl (first-bad l at bad)
last_byte es n l None inner ok =
    ⊎_elim
    (λ none. subst (Outcome es n l) (sym (cond-true _ _ _ none)) ([], nil_from_length l (eqb-true _ _ none), tt, sym (append-nil es)))
    (λ some.
    subst (Outcome es n l) (sym (cond-false _ _ _ some))
    (refused_last es n l (fault.Shape n) inner refl (clean-sound l ok, (λ empty. eqb-false _ _ some (ap length empty)), λ ended. absurd (true≢false (sym ended)))))
    (cases_Bool (eqb (length l) 0))

last_outcome : (es : List Entry) (n : ℕ) (l : List ℕ) → AllByRecursion Inner l → Outcome es n l (at_end es n l)
last_outcome es n l inner = last_byte es n l (first_outside allowed l) inner refl

-- a line with its end, before lines that come to something
line_outcome : (es : List Entry) (n : ℕ) (l bs : List ℕ) (more : List Entry → Result (List Entry) BookFault) (q : Result (Option Form) BookFault) → AllByRecursion Inner l → ((fs : List Entry) → Outcome fs (n + 1) bs (more fs)) → q ≡ line_form n l → Outcome es n (l ++ line_end ∷ bs) (and_then (placed es n q) more)
unfolding Outcome Wrong
line_outcome es n l bs more (Err e) inner rest is = let w = wrong_line n l e is in refused_here es n l bs e inner w.0 (w.1 es)
line_outcome es n l bs more (Ok None) inner rest is =
    subst (λ x. Outcome es n (x ++ line_end ∷ bs) (more es)) (sym (empty_line n l is)) (before_none es n bs (more es) (rest es))
line_outcome es n l bs more (Ok (Some f)) inner rest is =
    let g = line_sound n l f is in
    let after = es ++ record { line = n; form = f } ∷ [] in
    ⊎_elim
    (λ full.
    subst (Outcome es n (l ++ line_end ∷ bs)) (sym (ap (λ r. and_then r more) (cond-true _ _ _ full)))
    (refused_here es n l bs (fault.Repeat n) inner refl (refl, f, g.ranges, g.short, g.text, full)))
    (λ free.
    subst (Outcome es n (l ++ line_end ∷ bs)) (sym (ap (λ r. and_then r more) (cond-false _ _ _ free)))
    (subst (λ x. Outcome es n (x ++ line_end ∷ bs) (more after)) (sym g.text)
    (before_form es n f bs (more after) (record { ranges = g.ranges; digits = g.short; once = free }) (rest after))))
    (cases_Bool (taken es f))

cons_some : (l : List ℕ) (ls : List (List ℕ)) → l ∷ ls ≡ [] → ⊥
cons_some l ls e = grind arith

outcome : (es : List Entry) (n : ℕ) (ps : List (List ℕ)) → AllByRecursion (AllByRecursion Inner) ps → (ps ≡ [] → ⊥) → Outcome es n (glue ps) (lines_from es n ps)
unfolding glue
outcome es n [] inner some = absurd (some refl)
outcome es n (l ∷ []) inner some = last_outcome es n l inner.0
outcome es n (l ∷ (m ∷ ls)) inner some =
    line_outcome es n l (glue (m ∷ ls)) (λ fs. lines_from fs (n + 1) (m ∷ ls)) (line_form n l) inner.0 (λ fs. outcome fs (n + 1) (m ∷ ls) inner.1 (λ none. cons_some m ls none)) refl

pub whole_outcome : (bs : List ℕ) → Outcome [] 1 bs (lines_from [] 1 (cut bs))
whole_outcome bs = subst (λ x. Outcome [] 1 x (lines_from [] 1 (cut bs))) (glue-cut bs) (outcome [] 1 (cut bs) (cut-inner bs) (cut-some bs))

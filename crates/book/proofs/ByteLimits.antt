-- How long a book may be, and which bytes its lines may hold. Assumes nothing.
use Rattle.std.proofs.Common.{◌≡◌, ℕ, zero, suc, ◌+◌, ◌<◌, ◌≤◌, ◌≢◌, true, false, cond, eqb, List, [], ◌∷◌, ◌++◌, length, replicate, Some, None, Ok, Err, Option, Result, sym, refl, ap, ◌∙◌, subst, inl, inr, ⊎_elim, length-append, arith}
use Rattle.std.specs.List.{prefix_len, AllByRecursion}
use Rattle.std.proofs.ByRecursion.{All-weaker, All-get_or}
use Rattle.std.proofs.lemmas.List.{length-replicate}
use Rattle.std.proofs.lemmas.Bool.{cond-true, cond-false, cases_Bool, cases_lt, lt-ltb, ne_eqb, eqb-true, or_cases, and_parts, leb-true, true≢false}
use Rattle.std.proofs.lemmas.Bool.Decides.{nat_tests}
use Rattle.book.specs.declared.book_fault.BookFault.{BookFault}
use Rattle.book.specs.declared.book_fault.BookFault.TheVariants.{TooLong, Byte, Shape}
use Rattle.book.specs.declared.form.Form.{Form}
use Rattle.book.specs.declared.form.Form.TheVariants as form
use Rattle.book.specs.Bytes.{allowed, letter, numeric, line_end, first_outside}
use Rattle.book.specs.Entry.{taken}
use Rattle.book.specs.Pieces.{shape_of}
use Rattle.book.specs.Reading.{unless_byte, shaped, line_form, placed, onto_first, cut, and_then, lines_from, read_of}
use Rattle.book.specs.ByteLimits.{LengthLaw, MayStand, ByteLaw}
use Rattle.book.proofs.Clash.{ok_err, err_same}
use Rattle.book.proofs.Course.{more_lines, whole}
use Rattle.book.proofs.Faulting.{Wrong, wrong_line}
use Rattle.book.proofs.Gluing.{Inner, allowed-inner, cut-some, cut_line}
use Rattle.book.proofs.Heading.{Clean}
use Rattle.book.proofs.Outcomes.{Outcome, whole_outcome}
use Rattle.book.proofs.Spelling.{leading_all}

-- no line makes a book too long
never_too_long : (bs : List ℕ) → lines_from [] 1 (cut bs) ≡ Err TooLong → ⊥
unfolding Outcome
never_too_long bs e = (subst (Outcome [] 1 bs) e (whole_outcome bs)).fault

-- empty lines say nothing, however many
empty_lines : (k n : ℕ) → lines_from [] n (cut (replicate k 10)) ≡ Ok []
empty_lines zero n = refl
empty_lines (suc k) n = more_lines [] n [] (cut (replicate k 10)) (cut-some (replicate k 10)) ∙ empty_lines k (n + 1)

pub over : (text : List ℕ) → 65537 ≤ length text → read_of text ≡ Err TooLong
over text long = cond-true _ _ _ (lt-ltb 65536 (length text) (omega arith))

not_over : (text : List ℕ) → read_of text ≡ Err TooLong → 65537 ≤ length text
not_over text e =
    ⊎_elim
    (λ (long : 65536 < length text). omega arith)
    (λ (few : length text ≤ 65536). absurd (never_too_long text (whole text few ∙ e)))
    (cases_lt 65536 (length text))

pub length_law : LengthLaw
length_law =
    record {
      too_long = λ text. (not_over text, over text);
      most = λ n few. sym (whole (replicate n 10) (omega (arith, length-replicate {A = ℕ} n 10))) ∙ empty_lines n 1;
      one_more = λ n many. over (replicate n 10) (omega (arith, length-replicate {A = ℕ} n 10));
    }

-- the bytes that may stand in a line, by number and by class
may_allowed : (b : ℕ) → MayStand b → allowed b ≡ true
may_allowed b (inl e) = ap allowed e
may_allowed b (inr (inl e)) = ap allowed e
may_allowed b (inr (inr (inl e))) = ap allowed e
may_allowed b (inr (inr (inr (inl e)))) = ap allowed e
may_allowed b (inr (inr (inr (inr (inl h))))) = grind (arith, nat_tests)
may_allowed b (inr (inr (inr (inr (inr h))))) = grind (arith, nat_tests)

letter_may : (b : ℕ) → letter b ≡ true → MayStand b
letter_may b h = let p = and_parts _ _ h in inr (inr (inr (inr (inr (leb-true _ _ p.0, leb-true _ _ p.1)))))

numeric_may : (b : ℕ) → numeric b ≡ true → MayStand b
numeric_may b h =
    ⊎_elim
    (λ m. inr (inr (inr (inl (eqb-true b 45 m)))))
    (λ d. let p = and_parts _ _ d in inr (inr (inr (inr (inl (leb-true _ _ p.0, leb-true _ _ p.1))))))
    (or_cases _ _ h)

allowed_may : (b : ℕ) → allowed b ≡ true → MayStand b
allowed_may b h =
    ⊎_elim (λ l. letter_may b l) (λ h1.
    ⊎_elim (λ n. numeric_may b n) (λ h2.
    ⊎_elim (λ s. inl (eqb-true b 32 s)) (λ h3.
    ⊎_elim (λ o. inr (inl (eqb-true b 40 o))) (λ c. inr (inr (inl (eqb-true b 41 c))))
    (or_cases _ _ h3))
    (or_cases _ _ h2))
    (or_cases _ _ h1))
    (or_cases _ _ h)

not_allowed : (b : ℕ) → (MayStand b → ⊥) → allowed b ≡ false
not_allowed b bad = ⊎_elim (λ d. absurd (bad (allowed_may b d))) (λ d. d) (cases_Bool (allowed b))

pub clean : (l : List ℕ) → AllByRecursion MayStand l → Clean l
clean l all = All-weaker MayStand _ may_allowed l all

-- bytes before a text stand before its first line
cut_front : (front rest l : List ℕ) (ls : List (List ℕ)) → AllByRecursion Inner front → cut rest ≡ l ∷ ls → cut (front ++ rest) ≡ (front ++ l) ∷ ls
cut_front [] rest l ls all e = e
cut_front (b ∷ front) rest l ls all e = cond-false _ _ _ (ne_eqb b line_end all.0) ∙ ap (onto_first b) (cut_front front rest l ls all.1 e)

starts : (ls : List (List ℕ)) → (ls ≡ [] → ⊥) → (l : List ℕ) × (more : List (List ℕ)) × (ls ≡ l ∷ more)
starts [] some = absurd (some refl)
starts (l ∷ ls) some = (l, ls, refl)

-- a first line with such a byte decides, with its end or without
byte_line : (l : List ℕ) (ls : List (List ℕ)) (at : ℕ) → Some at ≡ first_outside allowed l → lines_from [] 1 (l ∷ ls) ≡ Err (Byte 1 at)
byte_line l [] at bad = ap (λ o. unless_byte 1 o (cond (eqb (length l) 0) (Ok []) (Err (Shape 1)))) (sym bad)
byte_line l (m ∷ ls) at bad =
    ap (λ o. and_then (placed [] 1 (unless_byte 1 o (cond (eqb (length l) 0) (Ok None) (shaped 1 (shape_of l))))) (λ fs. lines_from fs 2 (m ∷ ls))) (sym bad)

pub outside : (front l : List ℕ) (b : ℕ) → AllByRecursion MayStand front → (MayStand b → ⊥) → Some (length front) ≡ first_outside allowed (front ++ b ∷ l)
outside front l b all bad =
    let is : prefix_len allowed (front ++ b ∷ l) ≡ length front = leading_all allowed front (b ∷ l) (clean front all) (cond-false _ _ _ (not_allowed b bad)) in
    ap Some (sym is) ∙ sym (cond-true _ _ _ (lt-ltb (prefix_len allowed (front ++ b ∷ l)) (length (front ++ b ∷ l)) (omega (arith, is, length-append front (b ∷ l)))))

first_byte : (front rest : List ℕ) (b : ℕ) → AllByRecursion MayStand front → b ≢ 10 → (MayStand b → ⊥) → length (front ++ b ∷ rest) ≤ 65536 → read_of (front ++ b ∷ rest) ≡ Err (Byte 1 (length front))
first_byte front rest b all inner bad few =
    let s = starts (cut rest) (cut-some rest) in
    let from_b = cut_front (b ∷ []) rest s.0 s.1 (inner, tt) s.2 in
    let line = cut_front front (b ∷ rest) (b ∷ s.0) s.1 (All-weaker _ Inner allowed-inner front (clean front all)) from_b in
    sym (whole (front ++ b ∷ rest) few) ∙ ap (lines_from [] 1) line ∙ byte_line (front ++ b ∷ s.0) s.1 (length front) (outside front s.0 b all bad)

-- before any entry there is room for every form
pub none-taken : (f : Form) → taken [] f ≡ false
none-taken (form.Keys row reach) = refl
none-taken (form.Rank row reach) = refl
none-taken (form.Knob knob steps home) = refl
none-taken (form.Piston piston lowest highest) = refl
none-taken (form.Wire board wire) = refl

-- a text of one line that is ended
pub one_line : (l : List ℕ) → AllByRecursion Inner l → lines_from [] 1 (cut (l ++ 10 ∷ [])) ≡ and_then (placed [] 1 (line_form 1 l)) (λ fs. Ok fs)
one_line l inner = ap (lines_from [] 1) (cut_line l [] inner)

-- the fault of such a text is the line's
pub fault_of_line : (q : Result (Option Form) BookFault) (x : BookFault) → and_then (placed [] 1 q) (λ fs. Ok fs) ≡ Err x → Err x ≡ q
fault_of_line (Err e) x is = ap Err (sym (err_same e x is))
fault_of_line (Ok None) x is = absurd (ok_err _ _ is)
fault_of_line (Ok (Some f)) x is = absurd (ok_err _ _ (sym (ap (λ r. and_then r (λ fs. Ok fs)) (cond-false _ _ _ (none-taken f))) ∙ is))

no_byte : (l : List ℕ) (n at : ℕ) → AllByRecursion MayStand l → Err (Byte n at) ≡ line_form 1 l → ⊥
unfolding Wrong
no_byte l n at all is =
    let wrong = (wrong_line 1 l (Byte n at) is).1 [] in
    true≢false (sym (All-get_or _ l at 0 wrong.0 (clean l all)) ∙ wrong.1)

none_byte : (l : List ℕ) (n at : ℕ) → AllByRecursion MayStand l → read_of (l ++ 10 ∷ []) ≢ Err (Byte n at)
none_byte l n at all e =
    ⊎_elim
    (λ (long : 65536 < length (l ++ 10 ∷ [])). let clash = err_same _ _ (sym (over (l ++ 10 ∷ []) (omega arith)) ∙ e) in grind arith)
    (λ (few : length (l ++ 10 ∷ []) ≤ 65536).
    no_byte l n at all (fault_of_line (line_form 1 l) (Byte n at) (sym (one_line l (All-weaker _ Inner allowed-inner l (clean l all))) ∙ whole (l ++ 10 ∷ []) few ∙ e)))
    (cases_lt 65536 (length (l ++ 10 ∷ [])))

pub byte_law : ByteLaw
byte_law =
    record {
      alone = λ b inner. (λ e may. none_byte (b ∷ []) 1 0 (may, tt) e, λ bad. first_byte [] (10 ∷ []) b tt inner bad (omega arith));
      first = first_byte;
      none = none_byte;
    }

-- The entries of a good book are in range and given once, so its record answers what each says. Assumes nothing.
use Rattle.std.proofs.Common.{◌≡◌, ℕ, ◌+◌, ◌<◌, ◌≤◌, true, false, cond, ltb, List, [], ◌∷◌, ◌++◌, length, is_some, Some, None, Ok, Err, Option, Result, sym, refl, ap, ◌∙◌, subst, ⊎_elim, append_assoc, append-nil, arith}
use Rattle.std.specs.List.{AllByRecursion}
use Rattle.std.specs.Option.{unwrap_or}
use Rattle.std.proofs.ByRecursion.{All-weaker, All-append}
use Rattle.std.proofs.lemmas.Bool.{cond-true, cond-false, cases_Bool, cases_lt, lt-ltb, le-ltb, true≢false}
use Rattle.book.specs.declared.book.Book.{Book}
use Rattle.book.specs.declared.book_fault.BookFault.{BookFault}
use Rattle.book.specs.declared.form.Form.{Form}
use Rattle.book.specs.declared.form.Form.TheVariants as form
use Rattle.fittings.specs.declared.Knob.{Knob}
use Rattle.fittings.specs.declared.Scope.{Scope}
use Rattle.fittings.specs.Tables.{place_at}
use Rattle.book.specs.Book.{reach_in}
use Rattle.book.specs.Entry.{Entry, first_said, said, keys_of, pipes_of, knob_of, scope_of, wire_of, wires_of, taken, InRange, Holds}
use Rattle.book.specs.Grammar.{Lines, entries_from, FitAfter}
use Rattle.book.specs.Reading.{Answers, lines_from, cut, read_of}
use Rattle.book.specs.LineByLine.{Among}
use Rattle.book.specs.BookAnswers.{Answered, Entered}
use Rattle.book.proofs.ByteLimits.{over}
use Rattle.book.proofs.Clash.{ok_err}
use Rattle.book.proofs.Course.{whole}
use Rattle.book.proofs.LineByLine.{here, taken-full, wire_count}
use Rattle.book.proofs.Outcomes.{Outcome, whole_outcome}
use Rattle.book.proofs.Said.{said-push}

-- what entries say of the thing that a form gives is what the form says
abbrev Own : Form → List Entry → Type 0
Own (form.Keys r n) es = said (keys_of r) es ≡ Some n
Own (form.Rank r n) es = said (pipes_of r) es ≡ Some n
Own (form.Knob k s h) es = said (knob_of k) es ≡ Some (record { steps = s; home = h })
Own (form.Piston p a b) es = said (scope_of p) es ≡ Some (record { lowest = a; highest = b })
Own (form.Wire b w) es = Unit {0}

-- each of some entries is in range and the only one of its thing, among all of them
abbrev Told : List Entry → List Entry → Type 0
Told all es = AllByRecursion (λ e. InRange e.form × Own e.form all) es

-- one entry more says nothing new of what was said
said-stays : {X : Type 0} (says : Form → Option X) (es : List Entry) (e : Entry) (x : X) → said says es ≡ Some x → said says (es ++ e ∷ []) ≡ Some x
said-stays says es e x is = said-push says es e ∙ ap (λ o. first_said o (says e.form)) is

own-stays : (f : Form) (es : List Entry) (e : Entry) → Own f es → Own f (es ++ e ∷ [])
own-stays (form.Keys r n) es e is = said-stays (keys_of r) es e n is
own-stays (form.Rank r n) es e is = said-stays (pipes_of r) es e n is
own-stays (form.Knob k s h) es e is = said-stays (knob_of k) es e (record { steps = s; home = h }) is
own-stays (form.Piston p a b) es e is = said-stays (scope_of p) es e (record { lowest = a; highest = b }) is
own-stays (form.Wire b w) es e is = tt

unsaid : {X : Type 0} (o : Option X) → is_some o ≡ false → o ≡ None
unsaid None h = refl
unsaid (Some x) h = absurd (true≢false h)

-- where nothing was said the new entry says it
said-new : {X : Type 0} (says : Form → Option X) (es : List Entry) (e : Entry) (x : X) → is_some (said says es) ≡ false → says e.form ≡ Some x → said says (es ++ e ∷ []) ≡ Some x
said-new says es e x none is = said-push says es e ∙ ap (λ o. first_said o (says e.form)) (unsaid (said says es) none) ∙ is

own-new : (f : Form) (es : List Entry) (line : ℕ) → taken es f ≡ false → Own f (es ++ record { line = line; form = f } ∷ [])
own-new (form.Keys r n) es line once = said-new (keys_of r) es (record { line = line; form = form.Keys r n }) n once (here r n)
own-new (form.Rank r n) es line once = said-new (pipes_of r) es (record { line = line; form = form.Rank r n }) n once (here r n)
own-new (form.Knob k s h) es line once =
    let x : Knob = record { steps = s; home = h } in
    said-new (knob_of k) es (record { line = line; form = form.Knob k s h }) x once (here k x)
own-new (form.Piston p a b) es line once =
    let x : Scope = record { lowest = a; highest = b } in
    said-new (scope_of p) es (record { line = line; form = form.Piston p a b }) x once (here p x)
own-new (form.Wire b w) es line once = tt

told_from : (ls : Lines) (es : List Entry) (n : ℕ) → FitAfter es n ls → Told es es → Told (es ++ entries_from n ls) (es ++ entries_from n ls)
told_from [] es n fit told = subst (λ l. Told l l) (sym (append-nil es)) told
told_from (None ∷ ls) es n fit told = told_from ls es (n + 1) fit told
told_from (Some f ∷ ls) es n fit told =
    let e : Entry = record { line = n; form = f } in
    let all = es ++ e ∷ [] in
    let stays = All-weaker (λ d. InRange d.form × Own d.form es) (λ d. InRange d.form × Own d.form all) (λ d h. (h.0, own-stays d.form es e h.1)) es told in
    subst (λ l. Told l l) (append_assoc es (e ∷ []) (entries_from (n + 1) ls))
    (told_from ls all (n + 1) fit.1 (All-append _ es (e ∷ []) stays ((fit.0.ranges, own-new f es n fit.0.once), tt)))

-- the entries of a good book
told_outcome : (text : List ℕ) (es : List Entry) → lines_from [] 1 (cut text) ≡ Ok es → Told es es
unfolding Outcome
told_outcome text es e =
    let o = subst (Outcome [] 1 text) e (whole_outcome text) in
    subst (λ l. Told l l) (sym o.3) (told_from o.0 [] 1 o.2 tt)

told_good : (text : List ℕ) (es : List Entry) → read_of text ≡ Ok es → Told es es
told_good text es e =
    ⊎_elim
    (λ (long : 65536 < length text). absurd (ok_err _ _ (sym e ∙ over text (omega arith))))
    (λ (few : length text ≤ 65536). told_outcome text es (whole text few ∙ e))
    (cases_lt 65536 (length text))

-- what holds of each holds of one among them
middle : (P : Entry → Type 0) (front back : List Entry) (e : Entry) → AllByRecursion P (front ++ e ∷ back) → P e
middle P [] back e h = h.0
middle P (d ∷ front) back e h = middle P front back e h.1

wires-append : (front back : List Entry) (e : Entry) → wires_of (front ++ e ∷ back) ≡ wires_of front ++ (wire_of e ++ wires_of back)
wires-append [] back e = refl
wires-append (d ∷ front) back e =
    ap (λ l. wire_of d ++ l) (wires-append front back e) ∙ sym (append_assoc (wire_of d) (wires_of front) (wire_of e ++ wires_of back))

module _ (b : Book) (es : List Entry) (h : Holds b es) where
  -- a reach that is given, and one that is not
  reach_given : (t : List (Option ℕ)) (r n : ℕ) (o : Option ℕ) → r < 16 → place_at t r ≡ o → o ≡ Some n → reach_in t r ≡ n
  reach_given t r n o low is some = cond-true _ _ _ (lt-ltb r 16 low) ∙ ap (λ x. unwrap_or x 0) (is ∙ some)

  reach_none : (t : List (Option ℕ)) (r : ℕ) (o : Option ℕ) → (r < 16 → place_at t r ≡ o) → o ≡ None → reach_in t r ≡ 0
  reach_none t r o is none =
      ⊎_elim
      (λ low. cond-true _ _ _ (lt-ltb r 16 low) ∙ ap (λ x. unwrap_or x 0) (is low ∙ none))
      (λ high. cond-false _ _ _ (le-ltb r 16 high))
      (cases_lt r 16)

  place_none : {X : Type 0} (m k : ℕ) (p o : Option X) → (k < m → p ≡ o) → o ≡ None → cond (ltb k m) p None ≡ None
  place_none m k p o is none =
      ⊎_elim
      (λ low. cond-true _ _ _ (lt-ltb k m low) ∙ is low ∙ none)
      (λ high. cond-false _ _ _ (le-ltb k m high))
      (cases_lt k m)

  -- nothing is said of what no form gives
  none-said : (f : Form) → (taken es f ≡ true → ⊥) → taken es f ≡ false
  none-said f never = ⊎_elim (λ d. absurd (never d)) (λ d. d) (cases_Bool (taken es f))

  module _ (told : Told es es) where
    one : (e : Entry) → Among e es → InRange e.form × Own e.form es
    one e a = middle (λ d. InRange d.form × Own d.form es) a.0 a.1 e (subst (Told es) a.2 told)

    answered : Answered b es
    answered =
        record {
          keys = λ line r n a. let o = one (record { line = line; form = form.Keys r n }) a in reach_given b.divisions r n (said (keys_of r) es) o.0.0 (h.divisions r o.0.0) o.1;
          no_keys = λ r none. reach_none b.divisions r (said (keys_of r) es) (h.divisions r) (unsaid _ (none-said (form.Keys r 0) (λ d. let f = taken-full (form.Keys r 0) es d in none f.0 f.1 f.2)));
          pipes = λ line r n a. let o = one (record { line = line; form = form.Rank r n }) a in reach_given b.ranks r n (said (pipes_of r) es) o.0.0 (h.ranks r o.0.0) o.1;
          no_pipes = λ r none. reach_none b.ranks r (said (pipes_of r) es) (h.ranks r) (unsaid _ (none-said (form.Rank r 0) (λ d. let f = taken-full (form.Rank r 0) es d in none f.0 f.1 f.2)));
          knob = λ line k s i a. let o = one (record { line = line; form = form.Knob k s i }) a in cond-true _ _ _ (lt-ltb k 64 o.0.0) ∙ h.knobs k o.0.0 ∙ o.1;
          no_knob = λ k none. place_none 64 k (place_at b.knobs k) (said (knob_of k) es) (h.knobs k) (unsaid _ (none-said (form.Knob k 0 0) (λ d. let f = taken-full (form.Knob k 0 0) es d in none f.0 f.1 f.2 f.3)));
          scope = λ line p l i a. let o = one (record { line = line; form = form.Piston p l i }) a in cond-true _ _ _ (lt-ltb p 40 o.0.0) ∙ h.pistons p o.0.0 ∙ o.1;
          no_scope = λ p none. place_none 40 p (place_at b.pistons p) (said (scope_of p) es) (h.pistons p) (unsaid _ (none-said (form.Piston p 0 0) (λ d. let f = taken-full (form.Piston p 0 0) es d in none f.0 f.1 f.2 f.3)));
          wire = λ line board wire front back is. (wires_of front, wires_of back, h.wires ∙ ap wires_of is ∙ wires-append front back (record { line = line; form = form.Wire board wire }), wire_count front);
          wires = ap length h.wires ∙ wire_count es;
        }

entered_ok : (r : Result Book BookFault) (es : List Entry) → Told es es → Answers r (Ok es) → (b : Book) × (r ≡ Ok b) × Answered b es
entered_ok (Ok b) es told h = (b, refl, answered b es h told)
entered_ok (Err f) es told h = absurd h

-- whatever answers as the definition does has a record of its entries
pub entered : (text : List ℕ) (r : Result Book BookFault) → Answers r (read_of text) → Entered r text
unfolding Entered
entered text r a es e = entered_ok r es (told_good text es e) (subst (Answers r) e a)

-- A book read line by line: the lines before, and the next one. Assumes nothing.
use Rattle.std.proofs.Common.{◌≡◌, ℕ, ◌+◌, ◌≤◌, ◌≢◌, Bool, true, false, cond, eqb, List, [], ◌∷◌, ◌++◌, length, Some, None, Ok, Err, is_some, Option, Result, sym, refl, ap, ◌∙◌, ⊎_elim, append_assoc, append-nil, length-append, arith}
use Rattle.std.specs.List.{count_by, AllByRecursion}
use Rattle.std.proofs.ByRecursion.{All-weaker, All-append}
use Rattle.std.proofs.lemmas.List.{nil_from_length}
use Rattle.std.proofs.lemmas.List.Recursion.{is_count_by}
use Rattle.std.proofs.lemmas.Bool.{cond-true, cond-false, cases_Bool, ne_eqb, eqb-true, eq-eqb, le-leb, leb-true, true≢false}
use Rattle.std.proofs.lemmas.Option.{none-some, same_Some}
use Rattle.book.specs.declared.book_fault.BookFault.{BookFault}
use Rattle.book.specs.declared.book_fault.BookFault.TheVariants as fault
use Rattle.book.specs.declared.form.Form.{Form}
use Rattle.book.specs.declared.form.Form.TheVariants as form
use Rattle.book.specs.declared.head.Head.{Head}
use Rattle.fittings.specs.declared.Knob.{Knob}
use Rattle.fittings.specs.declared.Scope.{Scope}
use Rattle.book.specs.Bytes.{allowed, line_end, first_outside}
use Rattle.book.specs.Entry.{Entry, first_said, said, keys_of, pipes_of, knob_of, scope_of, wires_of, taken}
use Rattle.book.specs.Form.{form_from}
use Rattle.book.specs.Head.{head_of, takes}
use Rattle.book.specs.Pieces.{Shape, shape_of}
use Rattle.book.specs.Reading.{unless_byte, in_range, counted, some_form, shaped, line_form, placed, with_line, at_end, onto_first, cut, and_then, lines_from, read_of}
use Rattle.book.specs.ByteLimits.{MayStand}
use Rattle.book.specs.Cases.{ended, Says, Faults}
use Rattle.book.specs.LineByLine.{Unbroken, Among, is_wire, NoRoom, on_line, GoodBefore, LinesLaw}
use Rattle.book.proofs.ByteLimits.{clean, none-taken, one_line, fault_of_line, outside}
use Rattle.book.proofs.Clash.{ok_err, ok_same}
use Rattle.book.proofs.Course.{more_lines, whole}
use Rattle.book.proofs.Gluing.{Inner, allowed-inner, cut-some, cut_line}
use Rattle.book.proofs.Heading.{clean-complete}

-- the entries of some lines, after those before them, or the first fault
abbrev taken_in : List Entry → ℕ → List (List ℕ) → Result (List Entry) BookFault
taken_in es n [] = Ok es
taken_in es n (l ∷ ls) = and_then (with_line es n l) (λ fs. taken_in fs (n + 1) ls)

then-then : (r : Result (List Entry) BookFault) (f g : List Entry → Result (List Entry) BookFault) → and_then (and_then r f) g ≡ and_then r (λ x. and_then (f x) g)
then-then (Ok x) f g = refl
then-then (Err e) f g = refl

then-same : (r : Result (List Entry) BookFault) (f g : List Entry → Result (List Entry) BookFault) → ((x : List Entry) → f x ≡ g x) → and_then r f ≡ and_then r g
then-same (Ok x) f g same = same x
then-same (Err e) f g same = refl

then-ok : (r : Result (List Entry) BookFault) → and_then r (λ fs. Ok fs) ≡ r
then-ok (Ok x) = refl
then-ok (Err e) = refl

-- the lines come off, and the rest is read after them
line_off : (es : List Entry) (n : ℕ) (l rest : List ℕ) → AllByRecursion Inner l → lines_from es n (cut ((l ++ 10 ∷ []) ++ rest)) ≡ and_then (with_line es n l) (λ fs. lines_from fs (n + 1) (cut rest))
line_off es n l rest inner =
    ap (λ t. lines_from es n (cut t)) (append_assoc l (10 ∷ []) rest) ∙ ap (lines_from es n) (cut_line l rest inner) ∙
    more_lines es n l (cut rest) (cut-some rest)

through : (ls : List (List ℕ)) (rest : List ℕ) (es : List Entry) (n : ℕ) → AllByRecursion Unbroken ls → lines_from es n (cut (ended ls ++ rest)) ≡ and_then (taken_in es n ls) (λ fs. lines_from fs (n + length ls) (cut rest))
through [] rest es n all = ap (λ m. lines_from es m (cut rest)) (omega arith)
through (l ∷ ls) rest es n all =
    ap (λ t. lines_from es n (cut t)) (append_assoc (l ++ 10 ∷ []) (ended ls) rest) ∙ line_off es n l (ended ls ++ rest) all.0 ∙
    then-same (with_line es n l) _ _ (λ fs. through ls rest fs (n + 1) all.1 ∙ then-same (taken_in fs (n + 1) ls) _ _ (λ gs. ap (λ m. lines_from gs m (cut rest)) (omega arith))) ∙
    sym (then-then (with_line es n l) (λ fs. taken_in fs (n + 1) ls) (λ fs. lines_from fs (n + length (l ∷ ls)) (cut rest)))

module _ (ls : List (List ℕ)) (rest : List ℕ) (all : AllByRecursion Unbroken ls) (fits : length (ended ls ++ rest) ≤ 65536) where
  read_lines : read_of (ended ls) ≡ taken_in [] 1 ls
  read_lines =
      sym (whole (ended ls) (omega (arith, length-append (ended ls) rest))) ∙ ap (λ t. lines_from [] 1 (cut t)) (sym (append-nil (ended ls))) ∙
      through ls [] [] 1 all ∙ then-ok (taken_in [] 1 ls)

  read_after : read_of (ended ls ++ rest) ≡ and_then (read_of (ended ls)) (λ fs. lines_from fs (length ls + 1) (cut rest))
  read_after =
      sym (whole (ended ls ++ rest) fits) ∙ through ls rest [] 1 all ∙
      then-same (taken_in [] 1 ls) _ _ (λ fs. ap (λ m. lines_from fs m (cut rest)) (omega arith)) ∙
      ap (λ r. and_then r (λ fs. lines_from fs (length ls + 1) (cut rest))) (sym read_lines)

-- what a line comes to on another line: the same, or the same fault there
abbrev moved : ℕ → Result (Option Form) BookFault → Result (Option Form) BookFault
moved n (Ok o) = Ok o
moved n (Err f) = Err (on_line n f)

module _ (n : ℕ) where
  moved-ranged : (o : Option Form) → some_form (in_range n o) ≡ moved n (some_form (in_range 1 o))
  moved-ranged None = refl
  moved-ranged (Some f) = refl

  moved-formed : (b : Bool) (o : Option Form) → some_form (cond b (in_range n o) (Err (fault.Form n))) ≡ moved n (some_form (cond b (in_range 1 o) (Err (fault.Form 1))))
  moved-formed true o = moved-ranged o
  moved-formed false o = refl

  moved-counted : (s : Shape) (o : Option Head) → some_form (counted n s o) ≡ moved n (some_form (counted 1 s o))
  moved-counted s None = refl
  moved-counted s (Some h) = moved-formed (eqb (length s.numbers) (takes h)) (form_from h s.numbers)

  moved-shaped : (o : Option Shape) → shaped n o ≡ moved n (shaped 1 o)
  moved-shaped None = refl
  moved-shaped (Some s) = moved-counted s (head_of s.head)

  moved-clean : (b : Bool) (o : Option Shape) → cond b (Ok None) (shaped n o) ≡ moved n (cond b (Ok None) (shaped 1 o))
  moved-clean true o = refl
  moved-clean false o = moved-shaped o

  moved-byte : (at : Option ℕ) (b : Bool) (o : Option Shape) → unless_byte n at (cond b (Ok None) (shaped n o)) ≡ moved n (unless_byte 1 at (cond b (Ok None) (shaped 1 o)))
  moved-byte None b o = moved-clean b o
  moved-byte (Some k) b o = refl

  moved-line : (l : List ℕ) → line_form n l ≡ moved n (line_form 1 l)
  moved-line l = moved-byte (first_outside allowed l) (eqb (length l) 0) (shape_of l)

-- a form that a line alone gives
first_form : Form → List Entry → Form
first_form f [] = f
first_form f (e ∷ es) = e.form

form_of_line : (q : Result (Option Form) BookFault) (f : Form) → and_then (placed [] 1 q) (λ fs. Ok fs) ≡ Ok (record { line = 1; form = f } ∷ []) → q ≡ Ok (Some f)
unfolding first_form
form_of_line (Err e) f is = absurd (ok_err _ _ (sym is))
form_of_line (Ok None) f is = absurd (let clash = ok_same _ _ is in grind arith)
form_of_line (Ok (Some g)) f is =
    ap (λ x. Ok (Some x)) (ap (λ es. first_form f es) (ok_same _ _ (sym (ap (λ r. and_then r (λ fs. Ok fs)) (cond-false _ _ _ (none-taken g))) ∙ is)))

-- whether something was said is whether an entry says it
module _ {X : Type 0} (says : Form → Option X) where
  first-some : (a b : Option X) → is_some b ≡ true → is_some (first_said a b) ≡ true
  first-some None b h = h
  first-some (Some x) b h = refl

  some-said : (front back : List Entry) (e : Entry) (x : X) → says e.form ≡ Some x → is_some (said says (front ++ e ∷ back)) ≡ true
  some-said [] back e x is = ap (λ o. is_some (first_said o (said says back))) is
  some-said (d ∷ front) back e x is =
      first-some (says d.form) (said says (front ++ e ∷ back)) (some-said front back e x is)

  record Sayer (es : List Entry) : Type 0 where
    front : List Entry
    entry : Entry
    back : List Entry
    whole : es ≡ front ++ entry ∷ back
    what : X
    told : says entry.form ≡ Some what

  later-sayer : (e : Entry) (es : List Entry) → Sayer es → Sayer (e ∷ es)
  later-sayer e es s =
      record { front = e ∷ s.front; entry = s.entry; back = s.back; whole = ap (λ l. e ∷ l) s.whole; what = s.what; told = s.told }

  first_sayer : (e : Entry) (es : List Entry) (o : Option X) → says e.form ≡ o → (is_some (said says es) ≡ true → Sayer es) → is_some (first_said o (said says es)) ≡ true → Sayer (e ∷ es)
  first_sayer e es None is rest h = later-sayer e es (rest h)
  first_sayer e es (Some x) is rest h = record { front = []; entry = e; back = es; whole = refl; what = x; told = is }

  sayer : (es : List Entry) → is_some (said says es) ≡ true → Sayer es
  sayer [] h = absurd (true≢false (sym h))
  sayer (e ∷ es) h = first_sayer e es (says e.form) refl (sayer es) h

-- a form that says something of a row, a knob or a piston
some_at : {X : Type 0} (k j : ℕ) (x y : X) → cond (eqb k j) (Some x) None ≡ Some y → (k ≡ j) × (x ≡ y)
some_at k j x y e =
    ⊎_elim
    (λ d. (eqb-true k j d, same_Some x y (sym (cond-true _ _ _ d) ∙ e)))
    (λ d. absurd (none-some y (sym (cond-false _ _ _ d) ∙ e)))
    (cases_Bool (eqb k j))

keys_said : (r n : ℕ) (f : Form) → keys_of r f ≡ Some n → f ≡ form.Keys r n
keys_said r n (form.Keys row reach) e = let s = some_at r row reach n e in (λ i. form.Keys (sym s.0 i) (s.1 i))
keys_said r n (form.Rank row reach) e = absurd (none-some n e)
keys_said r n (form.Knob knob steps home) e = absurd (none-some n e)
keys_said r n (form.Piston piston lowest highest) e = absurd (none-some n e)
keys_said r n (form.Wire board wire) e = absurd (none-some n e)

pipes_said : (r n : ℕ) (f : Form) → pipes_of r f ≡ Some n → f ≡ form.Rank r n
pipes_said r n (form.Keys row reach) e = absurd (none-some n e)
pipes_said r n (form.Rank row reach) e = let s = some_at r row reach n e in (λ i. form.Rank (sym s.0 i) (s.1 i))
pipes_said r n (form.Knob knob steps home) e = absurd (none-some n e)
pipes_said r n (form.Piston piston lowest highest) e = absurd (none-some n e)
pipes_said r n (form.Wire board wire) e = absurd (none-some n e)

knob_said : (k : ℕ) (x : Knob) (f : Form) → knob_of k f ≡ Some x → f ≡ form.Knob k x.steps x.home
knob_said k x (form.Keys row reach) e = absurd (none-some x e)
knob_said k x (form.Rank row reach) e = absurd (none-some x e)
knob_said k x (form.Knob knob steps home) e =
    let s = some_at k knob (record { steps = steps; home = home }) x e in
    (λ i. form.Knob (sym s.0 i) (s.1 i).steps (s.1 i).home)
knob_said k x (form.Piston piston lowest highest) e = absurd (none-some x e)
knob_said k x (form.Wire board wire) e = absurd (none-some x e)

scope_said : (p : ℕ) (x : Scope) (f : Form) → scope_of p f ≡ Some x → f ≡ form.Piston p x.lowest x.highest
scope_said p x (form.Keys row reach) e = absurd (none-some x e)
scope_said p x (form.Rank row reach) e = absurd (none-some x e)
scope_said p x (form.Knob knob steps home) e = absurd (none-some x e)
scope_said p x (form.Piston piston lowest highest) e =
    let s = some_at p piston (record { lowest = lowest; highest = highest }) x e in
    (λ i. form.Piston (sym s.0 i) (s.1 i).lowest (s.1 i).highest)
scope_said p x (form.Wire board wire) e = absurd (none-some x e)

pub here : {X : Type 0} (k : ℕ) (x : X) → cond (eqb k k) (Some x) None ≡ Some x
here k x = cond-true _ _ _ (eq-eqb k k refl)

among : (es front back : List Entry) (e : Entry) (g : Form) → es ≡ front ++ e ∷ back → e.form ≡ g → Among (record { line = e.line; form = g }) es
among es front back e g is same = (front, back, is ∙ ap (λ f. front ++ record { line = e.line; form = f } ∷ back) same)

-- the wires among entries
pub wire_count : (es : List Entry) → length (wires_of es) ≡ count_by is_wire es
wire_count es = is_count_by (λ fs. length (wires_of fs)) is_wire refl (λ e fs. one e.line e.form fs) es where
  one : (line : ℕ) (f : Form) (fs : List Entry) → length (wires_of (record { line = line; form = f } ∷ fs)) ≡ cond (is_wire (record { line = line; form = f })) (1 + length (wires_of fs)) (length (wires_of fs))
  one line (form.Keys row reach) fs = refl
  one line (form.Rank row reach) fs = refl
  one line (form.Knob knob steps home) fs = refl
  one line (form.Piston piston lowest highest) fs = refl
  one line (form.Wire board wire) fs = omega arith

full-taken : (f : Form) (es : List Entry) → NoRoom f es → taken es f ≡ true
full-taken (form.Keys r n) es h =
    ap (λ l. is_some (said (keys_of r) l)) h.2.2 ∙
    some-said (keys_of r) h.2.0 h.2.1 (record { line = h.0; form = form.Keys r h.1 }) h.1 (here r h.1)
full-taken (form.Rank r n) es h =
    ap (λ l. is_some (said (pipes_of r) l)) h.2.2 ∙
    some-said (pipes_of r) h.2.0 h.2.1 (record { line = h.0; form = form.Rank r h.1 }) h.1 (here r h.1)
full-taken (form.Knob k s g) es h =
    let x : Knob = record { steps = h.1; home = h.2 } in
    ap (λ l. is_some (said (knob_of k) l)) h.3.2 ∙
    some-said (knob_of k) h.3.0 h.3.1 (record { line = h.0; form = form.Knob k h.1 h.2 }) x (here k x)
full-taken (form.Piston p a b) es h =
    let x : Scope = record { lowest = h.1; highest = h.2 } in
    ap (λ l. is_some (said (scope_of p) l)) h.3.2 ∙
    some-said (scope_of p) h.3.0 h.3.1 (record { line = h.0; form = form.Piston p h.1 h.2 }) x (here p x)
full-taken (form.Wire b w) es h = le-leb 256 (length (wires_of es)) (omega (arith, wire_count es))

pub taken-full : (f : Form) (es : List Entry) → taken es f ≡ true → NoRoom f es
taken-full (form.Keys r n) es h =
    let s = sayer (keys_of r) es h in
    (s.entry.line, s.what, among es s.front s.back s.entry _ s.whole (keys_said r s.what s.entry.form s.told))
taken-full (form.Rank r n) es h =
    let s = sayer (pipes_of r) es h in
    (s.entry.line, s.what, among es s.front s.back s.entry _ s.whole (pipes_said r s.what s.entry.form s.told))
taken-full (form.Knob k t g) es h =
    let s = sayer (knob_of k) es h in
    (s.entry.line, s.what.steps, s.what.home, among es s.front s.back s.entry _ s.whole (knob_said k s.what s.entry.form s.told))
taken-full (form.Piston p a b) es h =
    let s = sayer (scope_of p) es h in
    (s.entry.line, s.what.lowest, s.what.highest, among es s.front s.back s.entry _ s.whole (scope_said p s.what s.entry.form s.told))
taken-full (form.Wire b w) es h = let many = leb-true 256 (length (wires_of es)) h in omega (arith, wire_count es)

-- the next line, after good ones
module _ (ls : List (List ℕ)) (rest : List ℕ) (es : List Entry) (before : GoodBefore ls rest es) where
  after : read_of (ended ls ++ rest) ≡ lines_from es (length ls + 1) (cut rest)
  after =
      read_after ls rest before.whole before.fits ∙ ap (λ r. and_then r (λ fs. lines_from fs (length ls + 1) (cut rest))) before.good

module _ (ls : List (List ℕ)) (l : List ℕ) (es : List Entry) (before : GoodBefore ls (l ++ 10 ∷ []) es) (inner : Unbroken l) where
  next_line : read_of (ended ls ++ (l ++ 10 ∷ [])) ≡ placed es (length ls + 1) (moved (length ls + 1) (line_form 1 l))
  next_line =
      after ls (l ++ 10 ∷ []) es before ∙ ap (lines_from es (length ls + 1)) (cut_line l [] inner) ∙
      then-ok (placed es (length ls + 1) (line_form (length ls + 1) l)) ∙ ap (placed es (length ls + 1)) (moved-line (length ls + 1) l)

  alone_here : read_of (l ++ 10 ∷ []) ≡ and_then (placed [] 1 (line_form 1 l)) (λ fs. Ok fs)
  alone_here = sym (whole (l ++ 10 ∷ []) (omega (arith, before.fits, length-append (ended ls) (l ++ 10 ∷ [])))) ∙ one_line l inner

  next-faulty : (f : BookFault) → Faults l f → read_of (ended ls ++ (l ++ 10 ∷ [])) ≡ Err (on_line (length ls + 1) f)
  next-faulty f e =
      next_line ∙ ap (λ q. placed es (length ls + 1) (moved (length ls + 1) q)) (sym (fault_of_line (line_form 1 l) f (sym alone_here ∙ e)))

  next-form : (f : Form) → Says l f → read_of (ended ls ++ (l ++ 10 ∷ [])) ≡ placed es (length ls + 1) (Ok (Some f))
  next-form f e =
      next_line ∙ ap (λ q. placed es (length ls + 1) (moved (length ls + 1) q)) (form_of_line (line_form 1 l) f (sym alone_here ∙ e))

  next-added : (f : Form) → Says l f → (NoRoom f es → ⊥) → read_of (ended ls ++ (l ++ 10 ∷ [])) ≡ Ok (es ++ record { line = length ls + 1; form = f } ∷ [])
  next-added f e room =
      ⊎_elim
      (λ d. absurd (room (taken-full f es d)))
      (λ d. next-form f e ∙ cond-false _ _ _ d)
      (cases_Bool (taken es f))

  next-again : (f : Form) → Says l f → NoRoom f es → read_of (ended ls ++ (l ++ 10 ∷ [])) ≡ Err (fault.Repeat (length ls + 1))
  next-again f e none = next-form f e ∙ cond-true _ _ _ (full-taken f es none)

-- bytes without an end are one line
uncut : (l : List ℕ) → AllByRecursion Inner l → cut l ≡ l ∷ []
uncut [] inner = refl
uncut (b ∷ l) inner = cond-false _ _ _ (ne_eqb b line_end inner.0) ∙ ap (onto_first b) (uncut l inner.1)

-- what stands behind the last end
module _ (ls : List (List ℕ)) (l : List ℕ) (es : List Entry) (before : GoodBefore ls l es) (inner : Unbroken l) where
  last_line : read_of (ended ls ++ l) ≡ at_end es (length ls + 1) l
  last_line = after ls l es before ∙ ap (lines_from es (length ls + 1)) (uncut l inner)

  last-shape : l ≢ [] → AllByRecursion MayStand l → read_of (ended ls ++ l) ≡ Err (fault.Shape (length ls + 1))
  last-shape some may =
      last_line ∙
      ap (λ o. unless_byte (length ls + 1) o (cond (eqb (length l) 0) (Ok es) (Err (fault.Shape (length ls + 1))))) (clean-complete l (clean l may)) ∙
      cond-false _ _ _ (ne_eqb (length l) 0 (λ none. some (nil_from_length l none)))

  last-byte : (at : ℕ) → Some at ≡ first_outside allowed l → read_of (ended ls ++ l) ≡ Err (fault.Byte (length ls + 1) at)
  last-byte at bad =
      last_line ∙
      ap (λ o. unless_byte (length ls + 1) o (cond (eqb (length l) 0) (Ok es) (Err (fault.Shape (length ls + 1))))) (sym bad)

unbroken : (l : List ℕ) → AllByRecursion MayStand l → Unbroken l
unbroken l may = All-weaker _ Inner allowed-inner l (clean l may)

pub lines_law : LinesLaw
lines_law =
    record {
      decided =
          λ ls rest f all fits e.
          read_after ls rest all fits ∙ ap (λ r. and_then r (λ fs. lines_from fs (length ls + 1) (cut rest))) e;
      faulty = λ ls l es f before inner. next-faulty ls l es before inner f;
      empty = λ ls es before. next_line ls [] es before tt;
      added = λ ls l es f before inner. next-added ls l es before inner f;
      again = λ ls l es f before inner. next-again ls l es before inner f;
      no_end = λ ls l es before some may. last-shape ls l es before (unbroken l may) some may;
      no_end_byte =
          λ ls front back b es before may bad inner broken.
          last-byte ls (front ++ b ∷ back) es before (All-append _ front (b ∷ back) (unbroken front may) (inner, broken)) (length front) (outside front back b may bad);
    }

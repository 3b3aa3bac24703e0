-- A form and its numbers give each other. Assumes nothing.
use Rattle.std.proofs.Common.{◌≡◌, ℕ, zero, suc, ◌+◌, ◌-◌, ◌<◌, ◌≤◌, ◌&&◌, leb, List, [], ◌∷◌, length, drop, ℤ, pos, negsuc, Some, None, Option, Result, sym, refl, ap, ◌∙◌, subst, ⊎_elim, arith}
use Rattle.std.proofs.lemmas.List.{drop_all, drop_more}
use Rattle.std.proofs.lemmas.Bool.{cond-true, cond-false, cases_Bool, and_parts, leb-true, cases_eq, eq-eqb, ne_eqb}
use Rattle.std.proofs.lemmas.Bool.Decides.{nat_tests}
use Rattle.std.proofs.lemmas.Option.{same_Some}
use Rattle.book.specs.declared.board.Board.{Board}
use Rattle.book.specs.declared.board.Board.TheVariants.{Coupler, Stop}
use Rattle.book.specs.declared.form.Form.{Form}
use Rattle.book.specs.declared.form.Form.TheVariants as form
use Rattle.book.specs.declared.head.Head.{Head}
use Rattle.book.specs.declared.head.Head.TheVariants as head
use Rattle.book.specs.Entry.{InRange}
use Rattle.book.specs.Form.{given, within, natural, row_from, knob_from, piston_from, wire_from, form_from, board_of, nth}
use Rattle.book.specs.Grammar.{head_in, numbers_in, board_number}
use Rattle.book.specs.Head.{takes}
use Rattle.book.specs.Limits.{rows}
use Rattle.book.specs.Reading.{formed, in_range}
use Rattle.book.specs.declared.book_fault.BookFault.{BookFault}
use Rattle.book.specs.declared.book_fault.BookFault.TheVariants as fault
use Rattle.std.specs.Option.{ok_or}

given-some : {X Y : Type 0} (o : Option X) (f : X → Option Y) (y : Y) → Some y ≡ given o f → (x : X) × (o ≡ Some x) × (Some y ≡ f x)
given-some None f y e = absurd (grind arith)
given-some (Some x) f y e = (x, refl, e)

natural-some : (z : ℤ) (n : ℕ) → natural z ≡ Some n → z ≡ pos n
natural-some (pos m) n e = ap pos (grind arith)
natural-some (negsuc m) n e = absurd (grind arith)

within-some : (z : ℤ) (low high n : ℕ) → within z low high ≡ Some n → (z ≡ pos n) × (low ≤ n) × (n ≤ high)
within-some (pos m) low high n e =
    ⊎_elim
    (λ d.
    let same : m ≡ n = (let s = sym (cond-true _ (Some m) None d) ∙ e in grind arith) in
    let both = and_parts _ _ d in
    (ap pos same, subst (λ k. low ≤ k) same (leb-true _ _ both.0), subst (λ k. k ≤ high) same (leb-true _ _ both.1)))
    (λ d. absurd (let s = sym (cond-false _ (Some m) None d) ∙ e in grind arith))
    (cases_Bool (leb low m && leb m high))
within-some (negsuc m) low high n e = absurd (grind arith)

-- what a form read from numbers is
pub record Read (h : Head) (zs : List ℤ) (f : Form) : Type 0 where
  pub head : head_in f ≡ h
  pub numbers : numbers_in f ≡ zs
  pub ranges : InRange f

wire_complete : (b : Board) (from lowest highest to : ℕ) (shift : ℤ) (knob position : ℕ) → wire_from (pos (board_number b) ∷ (pos from ∷ (pos lowest ∷ (pos highest ∷ (pos to ∷ (shift ∷ (pos knob ∷ (pos position ∷ [])))))))) ≡ Some (form.Wire b (record { from = from; lowest = lowest; highest = highest; to = to; shift = shift; knob = knob; position = position }))
wire_complete Coupler from lowest highest to shift knob position = refl
wire_complete Stop from lowest highest to shift knob position = refl

pub form_complete : (f : Form) → InRange f → form_from (head_in f) (numbers_in f) ≡ Some f
form_complete (form.Keys row reach) r = grind (arith, nat_tests)
form_complete (form.Rank row reach) r = grind (arith, nat_tests)
form_complete (form.Knob knob steps home) r = grind (arith, nat_tests)
form_complete (form.Piston piston lowest highest) r = grind (arith, nat_tests)
form_complete (form.Wire b w) r = wire_complete b w.from w.lowest w.highest w.to w.shift w.knob w.position

-- the n numbers from place k on
abbrev nths : ℕ → ℕ → List ℤ → List ℤ
nths k zero zs = []
nths k (suc n) zs = nth zs k ∷ nths (k + 1) n zs

nths-drop : (k n : ℕ) (zs : List ℤ) → length zs ≡ k + n → drop k zs ≡ nths k n zs
nths-drop k zero zs long = drop_all k zs (omega arith)
nths-drop k (suc n) zs long = drop_more zs k (pos 0) (omega arith) ∙ ap (λ l. nth zs k ∷ l) (nths-drop (k + 1) n zs (omega arith))

row_read : (mk : ℕ → ℕ → Form) (zs : List ℤ) (f : Form) → Some f ≡ row_from mk zs → (r : ℕ) × (n : ℕ) × (nth zs 0 ≡ pos r) × (nth zs 1 ≡ pos n) × (r < rows) × (n ≤ 128) × (f ≡ mk r n)
row_read mk zs f e =
    let p = given-some (within (nth zs 0) 0 15) _ f e in
    let q = given-some (within (nth zs 1) 0 128) _ f p.2 in
    let x = within-some (nth zs 0) 0 15 p.0 p.1 in
    let y = within-some (nth zs 1) 0 128 q.0 q.1 in
    (p.0, q.0, x.0, y.0, omega arith, y.2, same_Some _ _ q.2)

knob_read : (zs : List ℤ) (f : Form) → Some f ≡ knob_from zs → (k : ℕ) × (s : ℕ) × (h : ℕ) × (nth zs 0 ≡ pos k) × (nth zs 1 ≡ pos s) × (nth zs 2 ≡ pos h) × (f ≡ form.Knob k s h) × InRange (form.Knob k s h)
knob_read zs f e =
    let p = given-some (within (nth zs 0) 0 63) _ f e in
    let q = given-some (within (nth zs 1) 2 16) _ f p.2 in
    let r = given-some (within (nth zs 2) 0 (q.0 - 1)) _ f q.2 in
    let x = within-some (nth zs 0) 0 63 p.0 p.1 in
    let y = within-some (nth zs 1) 2 16 q.0 q.1 in
    let z = within-some (nth zs 2) 0 (q.0 - 1) r.0 r.1 in
    (p.0, q.0, r.0, x.0, y.0, z.0, same_Some _ _ r.2, (omega arith, (y.1, y.2, omega arith)))

piston_read : (zs : List ℤ) (f : Form) → Some f ≡ piston_from zs → (p : ℕ) × (a : ℕ) × (b : ℕ) × (nth zs 0 ≡ pos p) × (nth zs 1 ≡ pos a) × (nth zs 2 ≡ pos b) × (f ≡ form.Piston p a b) × InRange (form.Piston p a b)
piston_read zs f e =
    let p = given-some (within (nth zs 0) 0 39) _ f e in
    let q = given-some (within (nth zs 2) 0 63) _ f p.2 in
    let r = given-some (within (nth zs 1) 0 q.0) _ f q.2 in
    let x = within-some (nth zs 0) 0 39 p.0 p.1 in
    let y = within-some (nth zs 2) 0 63 q.0 q.1 in
    let z = within-some (nth zs 1) 0 q.0 r.0 r.1 in
    (p.0, r.0, q.0, x.0, z.0, y.0, same_Some _ _ r.2, (omega arith, (z.2, omega arith)))

board_back : (n : ℕ) → 1 ≤ n → n ≤ 2 → board_number (board_of n) ≡ n
board_back n p q =
    ⊎_elim
    (λ (e : n ≡ 1). ap board_number (cond-true _ _ _ (eq-eqb n 1 e)) ∙ sym e)
    (λ (e : n ≡ 1 → ⊥). ap board_number (cond-false _ _ _ (ne_eqb n 1 e)) ∙ (let two : 2 ≡ n = omega arith in two))
    (cases_eq n 1)

wire_read : (zs : List ℤ) (w : Form) → Some w ≡ wire_from zs → (head_in w ≡ head.Wire) × (numbers_in w ≡ nths 0 8 zs) × InRange w
wire_read zs w e =
    let b = given-some (within (nth zs 0) 1 2) _ w e in
    let f = given-some (natural (nth zs 1)) _ w b.2 in
    let l = given-some (natural (nth zs 2)) _ w f.2 in
    let h = given-some (natural (nth zs 3)) _ w l.2 in
    let t = given-some (natural (nth zs 4)) _ w h.2 in
    let k = given-some (natural (nth zs 6)) _ w t.2 in
    let p = given-some (natural (nth zs 7)) _ w k.2 in
    let board = within-some (nth zs 0) 1 2 b.0 b.1 in
    let is = same_Some w _ p.2 in (
      ap head_in is,
      ap numbers_in is ∙
          (λ i.
          (ap pos (board_back b.0 board.1 board.2) ∙ sym board.0) i ∷
          (sym (natural-some _ _ f.1) i ∷
          (sym (natural-some _ _ l.1) i ∷
          (sym (natural-some _ _ h.1) i ∷
          (sym (natural-some _ _ t.1) i ∷ (nth zs 5 ∷ (sym (natural-some _ _ k.1) i ∷ (sym (natural-some _ _ p.1) i ∷ [])))))))),
      subst InRange (sym is) tt,
    )

pub form_sound : (h : Head) (zs : List ℤ) (f : Form) → length zs ≡ takes h → Some f ≡ form_from h zs → Read h zs f
form_sound head.Keys zs f long e =
    let g = row_read form.Keys zs f e in
    record {
      head = ap head_in g.6;
      numbers = ap numbers_in g.6 ∙ (λ i. sym g.2 i ∷ (sym g.3 i ∷ [])) ∙ sym (nths-drop 0 2 zs long);
      ranges = subst InRange (sym g.6) (g.4, g.5);
    }
form_sound head.Rank zs f long e =
    let g = row_read form.Rank zs f e in
    record {
      head = ap head_in g.6;
      numbers = ap numbers_in g.6 ∙ (λ i. sym g.2 i ∷ (sym g.3 i ∷ [])) ∙ sym (nths-drop 0 2 zs long);
      ranges = subst InRange (sym g.6) (g.4, g.5);
    }
form_sound head.Knob zs f long e =
    let g = knob_read zs f e in
    record {
      head = ap head_in g.6;
      numbers = ap numbers_in g.6 ∙ (λ i. sym g.3 i ∷ (sym g.4 i ∷ (sym g.5 i ∷ []))) ∙ sym (nths-drop 0 3 zs long);
      ranges = subst InRange (sym g.6) g.7;
    }
form_sound head.Piston zs f long e =
    let g = piston_read zs f e in
    record {
      head = ap head_in g.6;
      numbers = ap numbers_in g.6 ∙ (λ i. sym g.3 i ∷ (sym g.4 i ∷ (sym g.5 i ∷ []))) ∙ sym (nths-drop 0 3 zs long);
      ranges = subst InRange (sym g.6) g.7;
    }
form_sound head.Wire zs f long e =
    let g = wire_read zs f e in
    record { head = g.0; numbers = g.1 ∙ sym (nths-drop 0 8 zs long); ranges = g.2 }

-- the numbers are as many as the head takes
pub formed_by : (n : ℕ) (h k : Head) (zs : List ℤ) (o p : Option Form) (r : Result Form BookFault) → h ≡ k → length zs ≡ takes k → o ≡ p → p ≡ form_from k zs → r ≡ ok_or o (fault.Range n) → r ≡ formed n h zs
formed_by n h k zs o p r is count same by told =
    told ∙ ap (λ q. ok_or q (fault.Range n)) (same ∙ by) ∙ ranged (form_from k zs) ∙ sym (cond-true _ _ _ (eq-eqb _ _ count)) ∙ ap (λ j. formed n j zs) (sym is)
  where
    ranged : (q : Option Form) → ok_or q (fault.Range n) ≡ in_range n q
    ranged None = refl
    ranged (Some f) = refl

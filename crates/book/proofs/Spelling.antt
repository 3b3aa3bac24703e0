-- A line of the right shape is the text of its word and its numbers, and that text has this shape. Assumes nothing.
use Rattle.std.proofs.Common.{◌≡◌, ℕ, ◌+◌, Bool, true, eqb, List, [], ◌∷◌, ◌++◌, length, ℤ, Some, None, Option, sym, refl, ap, ◌∙◌, subst, ⊎_elim, one-add, arith}
use Rattle.std.specs.List.{flat_map, prefix_len, AllByRecursion}
use Rattle.std.specs.Fmt.{signed_decimal}
use Rattle.std.proofs.lemmas.List.{append_assoc, take_at, drop_at}
use Rattle.std.proofs.lemmas.Bool.{cond-true, cases_Bool, eqb-true}
use Rattle.std.proofs.lemmas.Option.{none-some, same_Some}
use Rattle.book.specs.Bytes.{letter, numeric, space, opening, closing}
use Rattle.book.specs.Grammar.{Short, number_text, written, Word}
use Rattle.book.specs.Numerals.{numeral}
use Rattle.book.specs.Pieces.{Kind, letters, figures, Piece, run, mark, of_kind, run_before, before, pieces, with_number, numbers_of, Shape, with_head, shape_from, shape_of}
use Rattle.book.proofs.Clash.{some-cond}
use Rattle.book.proofs.Cutting.{before-in, before-mark, run_first}
use Rattle.book.proofs.Writing.{numeral-sound, numeral-complete, signed_numeric}

-- the bytes of a piece
abbrev piece_text : Piece → List ℕ
piece_text (run k w) = w
piece_text (mark m) = m ∷ []

run_text : (k : Kind) (b : ℕ) (ps : List Piece) → flat_map piece_text (run_before k b ps) ≡ b ∷ flat_map piece_text ps
run_text letters b [] = refl
run_text figures b [] = refl
run_text letters b (run letters w ∷ ps) = refl
run_text letters b (run figures w ∷ ps) = refl
run_text figures b (run letters w ∷ ps) = refl
run_text figures b (run figures w ∷ ps) = refl
run_text letters b (mark m ∷ ps) = refl
run_text figures b (mark m ∷ ps) = refl

-- what holds of each piece that a byte may come into holds once it has come
by_class : (P : List Piece → Type 0) (b : ℕ) (ps : List Piece) → (letter b ≡ true → P (run_before letters b ps)) → (numeric b ≡ true → P (run_before figures b ps)) → P (mark b ∷ ps) → P (before b ps)
by_class P b ps l f m =
    ⊎_elim
    (λ d. subst P (sym (before-in letters b ps d)) (l d))
    (λ d. ⊎_elim (λ e. subst P (sym (before-in figures b ps e)) (f e)) (λ e. subst P (sym (before-mark b ps d e)) m) (cases_Bool (numeric b)))
    (cases_Bool (letter b))

pieces-text : (bs : List ℕ) → flat_map piece_text (pieces bs) ≡ bs
pieces-text [] = refl
pieces-text (b ∷ bs) =
    by_class (λ ps. flat_map piece_text ps ≡ b ∷ bs) b (pieces bs) (λ _. run_text letters b (pieces bs) ∙ ap (λ l. b ∷ l) (pieces-text bs)) (λ _. run_text figures b (pieces bs) ∙ ap (λ l. b ∷ l) (pieces-text bs)) (ap (λ l. b ∷ l) (pieces-text bs))

-- a run of letters is a word
abbrev Lettered : Piece → Type 0
Lettered (run letters w) = Word w
Lettered (run figures w) = Unit {0}
Lettered (mark m) = Unit {0}

lettered_run : (b : ℕ) (ps : List Piece) → letter b ≡ true → AllByRecursion Lettered ps → AllByRecursion Lettered (run_before letters b ps)
lettered_run b [] h all = ((omega arith, (h, tt)), tt)
lettered_run b (run letters w ∷ ps) h all = ((omega arith, (h, all.0.1)), all.1)
lettered_run b (run figures w ∷ ps) h all = ((omega arith, (h, tt)), all)
lettered_run b (mark m ∷ ps) h all = ((omega arith, (h, tt)), all)

lettered_figures : (b : ℕ) (ps : List Piece) → AllByRecursion Lettered ps → AllByRecursion Lettered (run_before figures b ps)
lettered_figures b [] all = (tt, tt)
lettered_figures b (run letters w ∷ ps) all = (tt, all)
lettered_figures b (run figures w ∷ ps) all = (tt, all.1)
lettered_figures b (mark m ∷ ps) all = (tt, all)

pieces-lettered : (bs : List ℕ) → AllByRecursion Lettered (pieces bs)
pieces-lettered [] = tt
pieces-lettered (b ∷ bs) =
    let all = pieces-lettered bs in
    by_class (AllByRecursion Lettered) b (pieces bs) (λ h. lettered_run b (pieces bs) h all) (λ _. lettered_figures b (pieces bs) all) (tt, all)

with_sound : (zs : List ℤ) (a : Option ℤ) (o : Option (List ℤ)) → Some zs ≡ with_number a o → (z : ℤ) × (ys : List ℤ) × (Some z ≡ a) × (Some ys ≡ o) × (zs ≡ z ∷ ys)
with_sound zs None o e = absurd (none-some zs (sym e))
with_sound zs (Some z) None e = absurd (none-some zs (sym e))
with_sound zs (Some z) (Some ys) e = (z, ys, refl, refl, same_Some _ _ e)

-- the pieces after the word are the numbers and the closing bracket
numbers_sound : (ps : List Piece) (zs : List ℤ) → Some zs ≡ numbers_of ps → (flat_map piece_text ps ≡ flat_map number_text zs ++ closing ∷ []) × AllByRecursion Short zs
numbers_sound [] zs e = absurd (none-some zs (sym e))
numbers_sound (run k w ∷ ps) zs e = absurd (none-some zs (sym e))
numbers_sound (mark m ∷ []) zs e =
    let p = some-cond zs (eqb m closing) (Some []) e in
    let none = same_Some zs [] p.1 in
    (ap (λ b. b ∷ []) (eqb-true _ _ p.0) ∙ ap (λ l. flat_map number_text l ++ closing ∷ []) (sym none), subst (AllByRecursion Short) (sym none) tt)
numbers_sound (mark m ∷ (run letters w ∷ ps)) zs e = absurd (none-some zs (sym e))
numbers_sound (mark m ∷ (run figures d ∷ ps)) zs e =
    let p = some-cond zs (eqb m space) (with_number (numeral d) (numbers_of ps)) e in
    let q = with_sound zs (numeral d) (numbers_of ps) p.1 in
    let first = numeral-sound d q.0 q.2 in
    let more = numbers_sound ps q.1 q.3 in (
      (λ i. eqb-true _ _ p.0 i ∷ (first.0 i ++ more.0 i)) ∙ ap (λ l. space ∷ l) (sym (append_assoc (signed_decimal q.0) (flat_map number_text q.1) (closing ∷ []))) ∙ ap (λ l. flat_map number_text l ++ closing ∷ []) (sym q.4),
      subst (AllByRecursion Short) (sym q.4) (first.1, more.1),
    )
numbers_sound (mark m ∷ (mark n ∷ ps)) zs e = absurd (none-some zs (sym e))

-- a shape that is read, with the line that it is read from
pub record Spells (bs : List ℕ) (s : Shape) : Type 0 where
  pub text : bs ≡ written s.head s.numbers
  pub word : Word s.head
  pub short : AllByRecursion Short s.numbers

with_head-sound : (w : List ℕ) (o : Option (List ℤ)) (s : Shape) → Some s ≡ with_head w o → (w ≡ s.head) × (Some s.numbers ≡ o)
with_head-sound w None s e = absurd (none-some s (sym e))
with_head-sound w (Some zs) s e = let same = same_Some s _ e in (sym (ap (λ t. t.head) same), ap (λ t. Some t.numbers) same)

shape_from-sound : (bs : List ℕ) (ps : List Piece) (s : Shape) → flat_map piece_text ps ≡ bs → AllByRecursion Lettered ps → Some s ≡ shape_from ps → Spells bs s
shape_from-sound bs [] s t all e = absurd (none-some s (sym e))
shape_from-sound bs (run k w ∷ ps) s t all e = absurd (none-some s (sym e))
shape_from-sound bs (mark m ∷ []) s t all e = absurd (none-some s (sym e))
shape_from-sound bs (mark m ∷ (run letters w ∷ ps)) s t all e =
    let p = some-cond s (eqb m opening) (with_head w (numbers_of ps)) e in
    let q = with_head-sound w (numbers_of ps) s p.1 in
    let more = numbers_sound ps s.numbers q.1 in
    record {
      text = sym t ∙ (λ i. eqb-true _ _ p.0 i ∷ (q.0 i ++ more.0 i));
      word = subst Word q.0 all.1.0;
      short = more.1;
    }
shape_from-sound bs (mark m ∷ (run figures d ∷ ps)) s t all e = absurd (none-some s (sym e))
shape_from-sound bs (mark m ∷ (mark n ∷ ps)) s t all e = absurd (none-some s (sym e))

pub shape_sound : (bs : List ℕ) (s : Shape) → shape_of bs ≡ Some s → Spells bs s
shape_sound bs s e = shape_from-sound bs (pieces bs) s (pieces-text bs) (pieces-lettered bs) (sym e)

pub leading_all : (p : ℕ → Bool) (xs ys : List ℕ) → AllByRecursion (λ b. p b ≡ true) xs → prefix_len p ys ≡ 0 → prefix_len p (xs ++ ys) ≡ length xs
leading_all p [] ys all none = none
leading_all p (x ∷ xs) ys all none = cond-true _ _ _ all.0 ∙ ap (λ n. 1 + n) (leading_all p xs ys all.1 none) ∙ one-add (length xs)

-- a run that is followed by something else is one piece
run_whole : (k : Kind) (w rest : List ℕ) → AllByRecursion (λ b. of_kind k b ≡ true) w → (length w ≡ 0 → ⊥) → prefix_len (of_kind k) rest ≡ 0 → pieces (w ++ rest) ≡ run k w ∷ pieces rest
run_whole k w rest all some stop =
    run_first k (w ++ rest) (length w) (sym (leading_all (of_kind k) w rest all stop)) some ∙
    (λ i. run k (take_at w rest (length w) refl i) ∷ pieces (drop_at w rest (length w) refl i))

-- neither a letter nor a digit stands after a word or a number
abbrev tail : List ℤ → List ℕ
tail zs = flat_map number_text zs ++ closing ∷ []

tail-stops : (k : Kind) (zs : List ℤ) → prefix_len (of_kind k) (tail zs) ≡ 0
tail-stops letters [] = refl
tail-stops figures [] = refl
tail-stops letters (z ∷ zs) = refl
tail-stops figures (z ∷ zs) = refl

numbers_complete : (zs : List ℤ) → AllByRecursion Short zs → numbers_of (pieces (tail zs)) ≡ Some zs
numbers_complete [] short = refl
numbers_complete (z ∷ zs) short =
    let n = signed_numeric z short.0 in
    let text : tail (z ∷ zs) ≡ space ∷ (signed_decimal z ++ tail zs) = ap (λ l. space ∷ l) (append_assoc (signed_decimal z) (flat_map number_text zs) (closing ∷ [])) in
    ap (λ l. numbers_of (pieces l)) text ∙
    ap (λ ps. numbers_of (mark space ∷ ps)) (run_whole figures (signed_decimal z) (tail zs) n.0 n.1 (tail-stops figures zs)) ∙
    (λ i. with_number (numeral-complete z short.0 i) (numbers_complete zs short.1 i))

pub shape_complete : (w : List ℕ) (zs : List ℤ) → Word w → AllByRecursion Short zs → shape_of (written w zs) ≡ Some (record { head = w; numbers = zs })
shape_complete w zs word short =
    ap (λ ps. shape_from (mark opening ∷ ps)) (run_whole letters w (tail zs) word.1 (λ none. omega (arith, word.0)) (tail-stops letters zs)) ∙ ap (with_head w) (numbers_complete zs short)

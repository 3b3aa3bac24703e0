-- A line's numbers, read one after another. Assumes nothing.
use Rattle.std.proofs.Common.{◌≡◌, ℕ, ◌<◌, List, [], ◌∷◌, ◌++◌, length, ℤ, Some, None, Ok, Err, Option, Result, sym, refl, ap, ◌∙◌, subst, ⊎_elim, arith}
use Rattle.std.proofs.lemmas.List.{append_assoc, length_push, take_all, take-append-le, length-take-le}
use Rattle.std.proofs.lemmas.Bool.{cases_lt}
use Rattle.std.specs.Option.{option_map}
use Rattle.std.specs.Result.{IsOk, OnOk, OnErr}
use Rattle.arrayvec.specs.ArrayVec.{ArrayVec}
use Rattle.book.specs.declared.parts.Parts.{Parts}
use Rattle.book.proofs.Cutting.{some-pieces}
use Rattle.book.specs.Bytes.{space, opening, closing}
use Rattle.book.specs.Numerals.{numeral}
use Rattle.book.specs.Pieces.{letters, figures, Piece, run, mark, pieces, numbers_of, with_number, before, with_head, shape_from, shape_of}
use Rattle.book.specs.Shapes.{Kept, Keeps, Shapes}
use Rattle.book.specs.Limits.{most_kept}

-- the numbers so far, before those that the rest has
pub record Sofar (n : ArrayVec ℤ) (bs rest : List ℕ) : Type 0 where
  pub zs : List ℤ
  pub kept : Kept n zs
  pub left : numbers_of (pieces bs) ≡ option_map (λ ys. zs ++ ys) (numbers_of (pieces rest))

pub stop : (n : ArrayVec ℤ) (bs rest : List ℕ) → Sofar n bs rest → numbers_of (pieces rest) ≡ None → Keeps None (numbers_of (pieces bs))
stop n bs rest s none = subst (Keeps None) (sym (s.left ∙ ap (option_map (λ ys. s.zs ++ ys)) none)) tt

one_number : (zs : List ℤ) (z : ℤ) (o : Option (List ℤ)) → option_map (λ ys. zs ++ ys) (with_number (Some z) o) ≡ option_map (λ ys. zs ++ z ∷ [] ++ ys) o
one_number zs z None = refl
one_number zs z (Some ys) = ap Some (sym (append_assoc zs (z ∷ []) ys))

pub go_on : (n m : ArrayVec ℤ) (bs rest after : List ℕ) (d : List ℕ) (z : ℤ) → (s : Sofar n bs rest) → pieces rest ≡ mark space ∷ (run figures d ∷ pieces after) → Some z ≡ numeral d → Kept m (s.zs ++ z ∷ []) → Sofar m bs after
go_on n m bs rest after d z s cut is k =
    record {
      zs = s.zs ++ z ∷ [];
      kept = k;
      left =
          s.left ∙ ap (λ ps. option_map (λ ys. s.zs ++ ys) (numbers_of ps)) cut ∙
          ap (λ o. option_map (λ ys. s.zs ++ ys) (with_number o (numbers_of (pieces after)))) (sym is) ∙ one_number s.zs z _;
    }

none-past_close : (ps : List Piece) → (ps ≡ [] → ⊥) → numbers_of (mark closing ∷ ps) ≡ None
none-past_close [] some = absurd (some refl)
none-past_close (run letters w ∷ ps) some = refl
none-past_close (run figures w ∷ ps) some = refl
none-past_close (mark m ∷ ps) some = refl

pub none-after_close : (bs : List ℕ) → (length bs ≡ 0 → ⊥) → numbers_of (mark closing ∷ pieces bs) ≡ None
none-after_close [] some = absurd (some refl)
none-after_close (b ∷ bs) some = none-past_close (before b (pieces bs)) (some-pieces b (pieces bs))

kept_past : (n : ArrayVec ℤ) (z : ℤ) (zs : List ℤ) → length n.items ≡ most_kept → Kept n zs → Kept n (zs ++ z ∷ [])
kept_past n z zs full k =
    ⊎_elim
    (λ few. absurd (omega (arith, ap length (k.items ∙ take_all most_kept zs (omega arith)))))
    (λ many. record { items = k.items ∙ sym (take-append-le most_kept zs (z ∷ []) many) })
    (cases_lt (length zs) most_kept)

kept_next : (n m : ArrayVec ℤ) (z : ℤ) (zs : List ℤ) → length n.items < most_kept → m.items ≡ n.items ++ z ∷ [] → Kept n zs → Kept m (zs ++ z ∷ [])
kept_next n m z zs room more k =
    ⊎_elim
    (λ few.
    let all = k.items ∙ take_all most_kept zs (omega arith) in
    record { items = more ∙ ap (λ l. l ++ z ∷ []) all ∙ sym (take_all most_kept (zs ++ z ∷ []) (omega (arith, length_push zs z))) })
    (λ many. absurd (omega (arith, ap length k.items, length-take-le most_kept zs many)))
    (cases_lt (length zs) most_kept)

-- one number more is kept, until there are nine
pub kept_more : {E : Type 0} (n m : ArrayVec ℤ) (y z : ℤ) (zs : List ℤ) (r : Result (Unit {0}) E) → (IsOk r → length n.items < most_kept) → OnOk r (m.items ≡ n.items ++ y ∷ []) → OnErr r (m ≡ n) → OnErr r (length n.items ≡ most_kept) → y ≡ z → Kept n zs → Kept m (zs ++ z ∷ [])
kept_more n m y z zs (Ok u) room more same full is k = kept_next n m z zs (room refl) (more ∙ ap (λ x. n.items ++ x ∷ []) is) k
kept_more n m y z zs (Err e) room more same full is k = subst (λ v. Kept v (zs ++ z ∷ [])) (sym same) (kept_past n z zs full k)

with_head-none : (line : ℕ) (w : List ℕ) (o : Option (List ℤ)) → Keeps None o → Shapes line None (with_head w o)
with_head-none line w None k = tt
with_head-none line w (Some zs) k = absurd k

with_head-some : (line : ℕ) (p : Parts) (o : Option (List ℤ)) → p.line ≡ line → Keeps (Some p.numbers) o → Shapes line (Some p) (with_head p.word.now o)
with_head-some line p None is k = absurd k
with_head-some line p (Some zs) is k = (refl, is, k)

pub shape_none : (line : ℕ) (bs w : List ℕ) (ps : List Piece) → pieces bs ≡ mark opening ∷ (run letters w ∷ ps) → Keeps None (numbers_of ps) → Shapes line None (shape_of bs)
shape_none line bs w ps cut k = subst (λ l. Shapes line None (shape_from l)) (sym cut) (with_head-none line w (numbers_of ps) k)

pub shape_some : (line : ℕ) (bs : List ℕ) (p : Parts) (ps : List Piece) → pieces bs ≡ mark opening ∷ (run letters p.word.now ∷ ps) → p.line ≡ line → Keeps (Some p.numbers) (numbers_of ps) → Shapes line (Some p) (shape_of bs)
shape_some line bs p ps cut is k = subst (λ l. Shapes line (Some p) (shape_from l)) (sym cut) (with_head-some line p (numbers_of ps) is k)

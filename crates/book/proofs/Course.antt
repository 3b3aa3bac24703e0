-- A book read line by line. Assumes nothing.
use Rattle.std.proofs.Common.{◌≡◌, ℕ, suc, ◌+◌, ◌<◌, ◌≤◌, true, false, not, eqb, List, [], ◌∷◌, length, take, drop, Some, None, Ok, Err, Result, sym, refl, ap, ◌∙◌, subst, ⊎_elim, add-one, one-add, arith}
use Rattle.std.specs.List.{prefix_len}
use Rattle.std.proofs.lemmas.List.{length-append}
use Rattle.std.proofs.lemmas.Bool.{cond-true, cond-false, cases_Bool, le-ltb}
use Rattle.book.specs.declared.book_fault.BookFault.{BookFault}
use Rattle.book.specs.declared.book.Book.{Book}
use Rattle.book.specs.Bytes.{line_end, inside, first_outside}
use Rattle.book.specs.Entry.{Entry, Holds}
use Rattle.book.specs.Limits.{most_bytes}
use Rattle.book.specs.Passage.{Comes}
use Rattle.book.specs.declared.passage.Passage.{Passage}
pub use Rattle.book.proofs.Gluing.{cut-some}
use Rattle.book.proofs.Gluing.{glued}
use Rattle.book.proofs.Outside.{some-outside, none-outside}
use Rattle.book.specs.Reading.{onto_first, cut, and_then, with_line, at_end, lines_from, read_of, Answers, Fills}

ends : (b : ℕ) (bs : List ℕ) → eqb b line_end ≡ true → prefix_len inside (b ∷ bs) ≡ 0
ends b bs d = cond-false _ _ _ (ap not d)

goes : (b : ℕ) (bs : List ℕ) → eqb b line_end ≡ false → prefix_len inside (b ∷ bs) ≡ suc (prefix_len inside bs)
goes b bs d = cond-true _ _ _ (ap not d) ∙ one-add (prefix_len inside bs)

-- the first line comes off, with its end
cut_at : (bs : List ℕ) → prefix_len inside bs < length bs → cut bs ≡ take (prefix_len inside bs) bs ∷ cut (drop (suc (prefix_len inside bs)) bs)
cut_at [] h = absurd (omega arith)
cut_at (b ∷ bs) h =
    let P : ℕ → List (List ℕ) = λ k. take k (b ∷ bs) ∷ cut (drop (suc k) (b ∷ bs)) in
    ⊎_elim
    (λ d. cond-true _ _ _ d ∙ ap P (sym (ends b bs d)))
    (λ d. cond-false _ _ _ d ∙ ap (onto_first b) (cut_at bs (omega (arith, goes b bs d))) ∙ ap P (sym (goes b bs d)))
    (cases_Bool (eqb b line_end))

-- no line end is left
cut-none : (bs : List ℕ) → length bs ≤ prefix_len inside bs → cut bs ≡ bs ∷ []
cut-none [] h = refl
cut-none (b ∷ bs) h =
    ⊎_elim
    (λ d. absurd (omega (arith, ends b bs d)))
    (λ d. cond-false _ _ _ d ∙ ap (onto_first b) (cut-none bs (omega (arith, goes b bs d))))
    (cases_Bool (eqb b line_end))

pub cut_last : (bs : List ℕ) → None ≡ first_outside inside bs → cut bs ≡ bs ∷ []
cut_last bs none = cut-none bs (none-outside inside bs none)

-- the first line, which ends at k, comes off
pub cut_first : (bs next : List ℕ) (k : ℕ) → Some k ≡ first_outside inside bs → next ≡ drop (k + 1) bs → cut bs ≡ take k bs ∷ cut next
cut_first bs next k ended on =
    let at = some-outside inside bs k ended in
    cut_at bs (omega arith) ∙ (λ i. take (sym at.0 i) bs ∷ cut (drop (suc (sym at.0 i)) bs)) ∙ ap (λ l. take k bs ∷ cut l) (sym (on ∙ ap (λ j. drop j bs) (add-one k)))

-- b holds the entries of the lines before line n, and the rest of the text is still to be read
pub record Reading (b : Book) (text rest : List ℕ) (n : ℕ) : Type 0 where
  pub es : List Entry
  pub holds : Holds b es
  pub left : lines_from [] 1 (cut text) ≡ lines_from es n (cut rest)
  pub room : n + length rest ≤ length text + 1

pub more_lines : (es : List Entry) (n : ℕ) (l : List ℕ) (ls : List (List ℕ)) → (ls ≡ [] → ⊥) → lines_from es n (l ∷ ls) ≡ and_then (with_line es n l) (λ fs. lines_from fs (n + 1) ls)
more_lines es n l [] some = absurd (some refl)
more_lines es n l (m ∷ ls) some = refl

filled : (u : Unit {0}) (b : Book) (r : Result (List Entry) BookFault) → Fills (Ok u) b r → (fs : List Entry) × (r ≡ Ok fs) × Holds b fs
filled u b (Ok fs) h = (fs, refl, h)
filled u b (Err e) h = absurd h

refused : (f : BookFault) (b : Book) (r : Result (List Entry) BookFault) → Fills (Err f) b r → r ≡ Err f
refused f b (Ok fs) h = absurd h
refused f b (Err e) h = ap Err (sym h)

pub shorter : (rest next l : Passage) → Comes rest (Some l) next → length next.text.now < length rest.text.now
shorter rest next l off =
    let whole = glued rest.text.now l.text.now next.text.now off.2 in
    omega (arith, ap length whole, length-append l.text.now (line_end ∷ next.text.now))

-- line l comes off the rest
module _ (b c : Book) (text : List ℕ) (rest next l : Passage) (r : Reading b text rest.text.now rest.line) (off : Comes rest (Some l) next) where
  one_line : lines_from [] 1 (cut text) ≡ and_then (with_line r.es l.line l.text.now) (λ fs. lines_from fs next.line (cut next.text.now))
  one_line =
      r.left ∙ ap (lines_from r.es rest.line) off.2 ∙ more_lines r.es rest.line l.text.now (cut next.text.now) (cut-some next.text.now) ∙
      (λ i. and_then (with_line r.es (sym off.0 i) l.text.now) (λ fs. lines_from fs (sym off.1 i) (cut next.text.now)))

  pub next-line : (u : Unit {0}) → Fills (Ok u) c (with_line r.es l.line l.text.now) → Reading c text next.text.now next.line
  next-line u h =
      let g = filled u c _ h in
      record {
        es = g.0;
        holds = g.2;
        left = one_line ∙ ap (λ x. and_then x (λ fs. lines_from fs next.line (cut next.text.now))) g.1;
        room = omega (arith, shorter rest next l off, r.room, off.1);
      }

  pub bad_line : (f : BookFault) → Fills (Err f) c (with_line r.es l.line l.text.now) → lines_from [] 1 (cut text) ≡ Err f
  bad_line f h = one_line ∙ ap (λ x. and_then x (λ fs. lines_from fs next.line (cut next.text.now))) (refused f c _ h)

-- a book that is not too long is its lines
pub whole : (text : List ℕ) → length text ≤ most_bytes → lines_from [] 1 (cut text) ≡ read_of text
whole text few = sym (cond-false _ _ _ (le-ltb most_bytes (length text) few))

pub bad_book : (text : List ℕ) (f : BookFault) → length text ≤ most_bytes → lines_from [] 1 (cut text) ≡ Err f → Answers (Err f) (read_of text)
bad_book text f few e = subst (Answers (Err f)) (sym e ∙ whole text few) refl

-- no line comes off the rest
module _ (b : Book) (text : List ℕ) (rest last : Passage) (r : Reading b text rest.text.now rest.line) (off : Comes rest None last) (few : length text ≤ most_bytes) where
  at_last : lines_from [] 1 (cut text) ≡ at_end r.es last.line last.text.now
  at_last = r.left ∙ ap (lines_from r.es rest.line) off.1 ∙ ap (λ p. at_end r.es p.line p.text.now) (sym off.0)

  pub bad_end : (f : BookFault) → Fills (Err f) b (at_end r.es last.line last.text.now) → Answers (Err f) (read_of text)
  bad_end f h = bad_book text f few (at_last ∙ refused f b _ h)

  pub good_end : (u : Unit {0}) → Fills (Ok u) b (at_end r.es last.line last.text.now) → Answers (Ok b) (read_of text)
  good_end u h = let g = filled u b _ h in subst (Answers (Ok b)) (sym (at_last ∙ g.1) ∙ whole text few) g.2

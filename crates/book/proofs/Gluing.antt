-- A text cut at its line ends, and put together again. Assumes nothing.
use Rattle.std.proofs.Common.{◌≡◌, ℕ, true, eqb, List, [], ◌∷◌, ◌++◌, sym, refl, ap, ◌∙◌, subst, ⊎_elim, arith}
use Rattle.std.specs.List.{AllByRecursion}
use Rattle.std.proofs.lemmas.Bool.{cond-true, cond-false, cases_Bool, ne_eqb, eqb-true, eqb-false, true≢false}
use Rattle.book.specs.Bytes.{allowed, line_end}
use Rattle.book.specs.Reading.{onto_first, cut}

pub cut-some : (bs : List ℕ) → cut bs ≡ [] → ⊥
cut-some [] e = grind arith
cut-some (b ∷ bs) e =
    ⊎_elim
    (λ d. let g = sym (cond-true _ ([] ∷ cut bs) (onto_first b (cut bs)) d) ∙ e in grind arith)
    (λ d. onto_some b (cut bs) (sym (cond-false _ ([] ∷ cut bs) (onto_first b (cut bs)) d) ∙ e))
    (cases_Bool (eqb b line_end))
  where
    onto_some : (b : ℕ) (ls : List (List ℕ)) → onto_first b ls ≡ [] → ⊥
    onto_some b [] e = grind arith
    onto_some b (l ∷ ls) e = grind arith

-- a byte that does not end a line
abbrev pub Inner : ℕ → Type 0
Inner b = b ≡ line_end → ⊥

pub allowed-inner : (b : ℕ) → allowed b ≡ true → Inner b
allowed-inner b h e = true≢false (sym h ∙ ap allowed e)

pub cut_line : (l rest : List ℕ) → AllByRecursion Inner l → cut (l ++ line_end ∷ rest) ≡ l ∷ cut rest
cut_line [] rest all = refl
cut_line (b ∷ l) rest all = cond-false _ _ _ (ne_eqb b line_end all.0) ∙ ap (onto_first b) (cut_line l rest all.1)

-- the text of the pieces that it was cut into
unfoldable pub glue : List (List ℕ) → List ℕ
glue [] = []
glue (l ∷ []) = l
glue (l ∷ (m ∷ ls)) = l ++ line_end ∷ glue (m ∷ ls)

glue-line : (l : List ℕ) (ls : List (List ℕ)) → (ls ≡ [] → ⊥) → glue (l ∷ ls) ≡ l ++ line_end ∷ glue ls
unfolding glue
glue-line l [] some = absurd (some refl)
glue-line l (m ∷ ls) some = refl

glue-onto : (b : ℕ) (ls : List (List ℕ)) → (ls ≡ [] → ⊥) → glue (onto_first b ls) ≡ b ∷ glue ls
unfolding glue
glue-onto b [] some = absurd (some refl)
glue-onto b (l ∷ []) some = refl
glue-onto b (l ∷ (m ∷ ls)) some = refl

pub glue-cut : (bs : List ℕ) → glue (cut bs) ≡ bs
unfolding glue
glue-cut [] = refl
glue-cut (b ∷ bs) =
    ⊎_elim
    (λ d. ap glue (cond-true _ _ _ d) ∙ glue-line [] (cut bs) (cut-some bs) ∙ (λ i. sym (eqb-true b line_end d) i ∷ glue-cut bs i))
    (λ d. ap glue (cond-false _ _ _ d) ∙ glue-onto b (cut bs) (cut-some bs) ∙ ap (λ l. b ∷ l) (glue-cut bs))
    (cases_Bool (eqb b line_end))

-- a line that comes off leaves what follows its end
pub glued : (bs l next : List ℕ) → cut bs ≡ l ∷ cut next → bs ≡ l ++ line_end ∷ next
glued bs l next off =
    sym (glue-cut bs) ∙ ap glue off ∙ glue-line l (cut next) (cut-some next) ∙ ap (λ rest. l ++ line_end ∷ rest) (glue-cut next)

onto_inner : (b : ℕ) (ls : List (List ℕ)) → Inner b → AllByRecursion (AllByRecursion Inner) ls → AllByRecursion (AllByRecursion Inner) (onto_first b ls)
onto_inner b [] h all = ((h, tt), tt)
onto_inner b (l ∷ ls) h all = ((h, all.0), all.1)

pub cut-inner : (bs : List ℕ) → AllByRecursion (AllByRecursion Inner) (cut bs)
cut-inner [] = (tt, tt)
cut-inner (b ∷ bs) =
    ⊎_elim
    (λ d. subst (AllByRecursion (AllByRecursion Inner)) (sym (cond-true _ _ _ d)) (tt, cut-inner bs))
    (λ d. subst (AllByRecursion (AllByRecursion Inner)) (sym (cond-false _ _ _ d)) (onto_inner b (cut bs) (eqb-false b line_end d) (cut-inner bs)))
    (cases_Bool (eqb b line_end))

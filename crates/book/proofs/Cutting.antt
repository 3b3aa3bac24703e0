-- How the pieces of a text come off its front. Assumes nothing.
use Rattle.std.proofs.Common.{◌≡◌, ℕ, suc, true, false, List, [], ◌∷◌, ◌++◌, length, get_or, take, drop, Some, None, Option, sym, refl, ap, ◌∙◌, ⊎_elim, one-add, arith}
use Rattle.std.specs.List.{prefix_len}
use Rattle.std.proofs.lemmas.List.{take-append-drop}
use Rattle.std.proofs.lemmas.Bool.{cond-true, cond-false, cases_Bool, true≢false}
use Rattle.std.proofs.lemmas.Bool.Decides.{nat_tests}
use Rattle.book.specs.Bytes.{letter, numeric, space}
use Rattle.book.specs.Pieces.{Kind, letters, figures, Piece, run, mark, of_kind, run_before, before, pieces}
use Rattle.book.specs.declared.token.Token.TheVariants.{Word, Number}
use Rattle.book.specs.Token.{begins, token_first, Cuts, Runs}
use Rattle.std.specs.Option.{option_map}
use denote.Ref.{Bor}

numeric-no_letter : (b : ℕ) → numeric b ≡ true → letter b ≡ false
numeric-no_letter b h = grind (arith, nat_tests)

pub before-in : (k : Kind) (b : ℕ) (ps : List Piece) → of_kind k b ≡ true → before b ps ≡ run_before k b ps
before-in letters b ps h = cond-true _ _ _ h
before-in figures b ps h = cond-false _ _ _ (numeric-no_letter b h) ∙ cond-true _ _ _ h

pub before-mark : (b : ℕ) (ps : List Piece) → letter b ≡ false → numeric b ≡ false → before b ps ≡ mark b ∷ ps
before-mark b ps p q = cond-false _ _ _ p ∙ cond-false _ _ _ q

-- a run starts with its first byte
begins-run : (k j : Kind) (b : ℕ) (ps : List Piece) → begins k (run_before j b ps) ≡ begins k (run j (b ∷ []) ∷ [])
begins-run k letters b [] = refl
begins-run letters letters b (run letters w ∷ ps) = refl
begins-run figures letters b (run letters w ∷ ps) = refl
begins-run letters letters b (run figures w ∷ ps) = refl
begins-run figures letters b (run figures w ∷ ps) = refl
begins-run letters letters b (mark m ∷ ps) = refl
begins-run figures letters b (mark m ∷ ps) = refl
begins-run k figures b [] = refl
begins-run letters figures b (run letters w ∷ ps) = refl
begins-run figures figures b (run letters w ∷ ps) = refl
begins-run letters figures b (run figures w ∷ ps) = refl
begins-run figures figures b (run figures w ∷ ps) = refl
begins-run letters figures b (mark m ∷ ps) = refl
begins-run figures figures b (mark m ∷ ps) = refl

before-out : (k : Kind) (b : ℕ) (ps : List Piece) → of_kind k b ≡ false → begins k (before b ps) ≡ false
before-out letters b ps h =
    ap (begins letters) (cond-false _ _ _ h) ∙
    ⊎_elim
    (λ d. ap (begins letters) (cond-true _ _ _ d) ∙ begins-run letters figures b ps)
    (λ d. ap (begins letters) (cond-false _ _ _ d))
    (cases_Bool (numeric b))
before-out figures b ps h =
    ⊎_elim
    (λ d. ap (begins figures) (cond-true _ _ _ d) ∙ begins-run figures letters b ps)
    (λ d. ap (begins figures) (before-mark b ps d h))
    (cases_Bool (letter b))

run_other : (k : Kind) (b : ℕ) (ps : List Piece) → begins k ps ≡ false → run_before k b ps ≡ run k (b ∷ []) ∷ ps
run_other k b [] h = refl
run_other letters b (run letters w ∷ ps) h = absurd (grind (arith, nat_tests))
run_other letters b (run figures w ∷ ps) h = refl
run_other figures b (run letters w ∷ ps) h = refl
run_other figures b (run figures w ∷ ps) h = absurd (grind (arith, nat_tests))
run_other k b (mark m ∷ ps) h = refl

run_joins : (k : Kind) (b : ℕ) (w : List ℕ) (ps : List Piece) → run_before k b (run k w ∷ ps) ≡ run k (b ∷ w) ∷ ps
run_joins letters b w ps = refl
run_joins figures b w ps = refl

run_from : (k : Kind) (b : ℕ) (bs : List ℕ) → of_kind k b ≡ true → pieces (b ∷ bs) ≡ run k (b ∷ take (prefix_len (of_kind k) bs) bs) ∷ pieces (drop (prefix_len (of_kind k) bs) bs)
run_from k b [] h = before-in k b [] h
run_from k b (c ∷ bs) h =
    before-in k b (pieces (c ∷ bs)) h ∙
    ⊎_elim
    (λ d.
    let n = prefix_len (of_kind k) bs in
    let more : suc n ≡ prefix_len (of_kind k) (c ∷ bs) = sym (cond-true _ _ _ d ∙ one-add n) in
    ap (run_before k b) (run_from k c bs d) ∙ run_joins k b _ _ ∙ ap (λ i. run k (b ∷ take i (c ∷ bs)) ∷ pieces (drop i (c ∷ bs))) more)
    (λ d.
    let none : 0 ≡ prefix_len (of_kind k) (c ∷ bs) = sym (cond-false _ _ _ d) in
    run_other k b (pieces (c ∷ bs)) (before-out k c (pieces bs) d) ∙ ap (λ i. run k (b ∷ take i (c ∷ bs)) ∷ pieces (drop i (c ∷ bs))) none)
    (cases_Bool (of_kind k c))

-- the first n bytes are the longest run of the kind
pub run_first : (k : Kind) (bs : List ℕ) (n : ℕ) → n ≡ prefix_len (of_kind k) bs → (n ≡ 0 → ⊥) → pieces bs ≡ run k (take n bs) ∷ pieces (drop n bs)
run_first k [] n is some = absurd (some is)
run_first k (b ∷ bs) n is some =
    ⊎_elim
    (λ d.
    let more : suc (prefix_len (of_kind k) bs) ≡ n = sym (is ∙ cond-true _ _ _ d ∙ one-add _) in
    run_from k b bs d ∙ ap (λ i. run k (take i (b ∷ bs)) ∷ pieces (drop i (b ∷ bs))) more)
    (λ d. absurd (some (is ∙ cond-false _ _ _ d)))
    (cases_Bool (of_kind k b))

-- a text by its first byte
pub split_first : (bs : List ℕ) (b : ℕ) (rest : List ℕ) → (length bs ≡ 0 → ⊥) → get_or bs 0 0 ≡ b → rest ≡ drop 1 bs → bs ≡ b ∷ rest
split_first [] b rest some is back = absurd (some refl)
split_first (c ∷ bs) b rest some is back = λ i. is i ∷ sym back i

-- a run comes off the front whole
lex_run : (k : Kind) (bs front back : List ℕ) (n : ℕ) → n ≡ prefix_len (of_kind k) bs → (n ≡ 0 → ⊥) → front ≡ take n bs → back ≡ drop n bs → (bs ≡ front ++ back) × (pieces bs ≡ run k front ∷ pieces back)
lex_run k bs front back n is some f b =
    (sym ((λ i. f i ++ b i) ∙ take-append-drop n bs), run_first k bs n is some ∙ (λ i. run k (sym f i) ∷ pieces (sym b i)))

lex_number : (bs after front back : List ℕ) (n : ℕ) → bs ≡ space ∷ after → n ≡ prefix_len numeric after → (n ≡ 0 → ⊥) → front ≡ take n after → back ≡ drop n after → (bs ≡ space ∷ (front ++ back)) × (pieces bs ≡ mark space ∷ (run figures front ∷ pieces back))
lex_number bs after front back n first is some f b =
    let cut = lex_run figures after front back n is some f b in
    (first ∙ ap (λ l. space ∷ l) cut.0, ap pieces first ∙ ap (λ l. mark space ∷ l) cut.1)

-- where no byte of the kind stands first, no run of it does
none-begins : (k : Kind) (bs : List ℕ) → prefix_len (of_kind k) bs ≡ 0 → begins k (pieces bs) ≡ false
none-begins k [] none = refl
none-begins k (b ∷ bs) none =
    ⊎_elim
    (λ d. absurd (let some = sym (cond-true _ _ _ d) ∙ none in omega arith))
    (λ d. before-out k b (pieces bs) d)
    (cases_Bool (of_kind k b))

-- a space and the run of figures after it
pub number_cut : (bs after : List ℕ) (o : Option (Bor (List ℕ) × Bor (List ℕ))) → bs ≡ space ∷ after → Runs numeric after o → Cuts bs (option_map (λ r. (Number r.0, r.1)) o)
number_cut bs after None first none = ap (λ l. token_first (pieces l)) first ∙ none-begins figures after none
number_cut bs after (Some r) first h = lex_number bs after r.0.now r.1.now (prefix_len numeric after) first refl h.0 h.1 h.2

figures_first : (b : ℕ) (ps : List Piece) → token_first (run_before figures b ps) ≡ false
figures_first b [] = refl
figures_first b (run letters w ∷ ps) = refl
figures_first b (run figures w ∷ ps) = refl
figures_first b (mark m ∷ ps) = refl

-- a run of letters, where the text begins neither with a bracket nor with a space
pub word_cut : (bs : List ℕ) (o : Option (Bor (List ℕ) × Bor (List ℕ))) → (get_or bs 0 0 ≡ 40 → ⊥) → (get_or bs 0 0 ≡ 41 → ⊥) → (get_or bs 0 0 ≡ 32 → ⊥) → Runs letter bs o → Cuts bs (option_map (λ r. (Word r.0, r.1)) o)
word_cut [] None not_open not_close not_space none = refl
word_cut (b ∷ bs) None not_open not_close not_space none =
    ⊎_elim
    (λ d. absurd (let some = sym (cond-true _ _ _ d) ∙ none in omega arith))
    (λ d.
    ⊎_elim
    (λ f. ap token_first (before-in figures b (pieces bs) f) ∙ figures_first b (pieces bs))
    (λ f. ap token_first (before-mark b (pieces bs) d f) ∙ grind (arith, nat_tests))
    (cases_Bool (numeric b)))
    (cases_Bool (letter b))
word_cut bs (Some r) not_open not_close not_space h = lex_run letters bs r.0.now r.1.now (prefix_len letter bs) refl h.0 h.1 h.2

kind_clash : (k : Kind) (b : ℕ) (ps : List Piece) → of_kind k b ≡ true → before b ps ≡ [] → ⊥
kind_clash letters b ps h e = true≢false (sym (begins-run letters letters b ps) ∙ ap (begins letters) (sym (before-in letters b ps h) ∙ e))
kind_clash figures b ps h e = true≢false (sym (begins-run figures figures b ps) ∙ ap (begins figures) (sym (before-in figures b ps h) ∙ e))

-- a text that is not empty has a piece
pub some-pieces : (b : ℕ) (ps : List Piece) → before b ps ≡ [] → ⊥
some-pieces b ps e =
    ⊎_elim
    (λ d. kind_clash letters b ps d e)
    (λ d.
    ⊎_elim
    (λ f. kind_clash figures b ps f e)
    (λ f. let g = sym (before-mark b ps d f) ∙ e in grind arith)
    (cases_Bool (numeric b)))
    (cases_Bool (letter b))

-- Tests over the numbers below a bound. Assumes nothing.
use Rattle.std.specs.Prelude.{◌≡◌, ℕ, zero, suc, ◌+◌, ◌<◌, ◌≤◌, Bool, true, false, ◌||◌, ◌≢◌, not, [], ◌∷◌, ◌++◌, refl}
use Rattle.std.specs.List.{list_any, range_with_len}
use Rattle.std.proofs.lemmas.List.Folds.{list_any-append}
use Rattle.std.proofs.Common.{sym, ap, ◌∙◌, ⊎_elim, arith}
use Rattle.std.proofs.lemmas.Bool.{cases_eq, or_left, or_right, both_ways}
use Rattle.std.proofs.lemmas.Bool.Decides.{nat_tests}
use Rattle.chest.specs.Places.{none}
use Rattle.coupling.specs.Some.{some, is_free}
use Rattle.coupling.specs.Layout.{Layout, Sound}

pub some-found : (n k : ℕ) (f : ℕ → Bool) → k < n → f k ≡ true → some n f ≡ true
unfolding some
some-found zero k f h e = absurd (omega arith)
some-found (suc n) k f h e =
    ⊎_elim
    (λ (same : k ≡ n). or_right (some n f) (f n) (sym (ap f same) ∙ e))
    (λ (ne : k ≢ n). or_left (some n f) (f n) (some-found n k f (omega arith) e))
    (cases_eq k n)

pub some-past : (m n : ℕ) (f : ℕ → Bool) → m ≤ n → ((k : ℕ) → m ≤ k → f k ≡ false) → some n f ≡ some m f
unfolding some
some-past m zero f h none = let same : 0 ≡ m = omega arith in ap (λ k. some k f) same
some-past m (suc n) f h none =
    ⊎_elim
    (λ (same : suc n ≡ m). ap (λ k. some k f) same)
    (λ (ne : suc n ≢ m). ap (λ x. some n f || x) (none n (omega arith)) ∙ by (some n f) ∙ some-past m n f (omega arith) none)
    (cases_eq (suc n) m)
  where
    by : (x : Bool) → (x || false) ≡ x
    by true = refl
    by false = refl

-- whether some number of a range passes
range_more : (a n : ℕ) → range_with_len a (n + 1) ≡ range_with_len a n ++ (a + n) ∷ []
range_more a zero = let same : a ≡ a + 0 = omega arith in ap (λ k. k ∷ []) same
range_more a (suc n) =
    let here : suc n + 1 ≡ suc (n + 1) = omega arith in
    let next : (a + 1) + n ≡ a + suc n = omega arith in
    ap (range_with_len a) here ∙ ap (λ xs. a ∷ xs) (range_more (a + 1) n ∙ ap (λ k. range_with_len (a + 1) n ++ k ∷ []) next)

pub some_of_range : (n : ℕ) (f : ℕ → Bool) → list_any f (range_with_len 0 n) ≡ some n f
unfolding some
some_of_range zero f = refl
some_of_range (suc n) f =
    let more : suc n ≡ n + 1 = omega arith in
    ap (λ m. list_any f (range_with_len 0 m)) more
    ∙ ap (list_any f) (range_more 0 n)
    ∙ list_any-append f (range_with_len 0 n) ((0 + n) ∷ [])
    ∙ (λ i. some_of_range n f i || last i)
  where
    last : (f (0 + n) || false) ≡ f n
    last = let same : 0 + n ≡ n = omega arith in by (f (0 + n)) ∙ ap f same where
      by : (b : Bool) → (b || false) ≡ b
      by true = refl
      by false = refl

-- where no key is set, as is tested, none is
pub free_of : (l : Layout) → Sound l → is_free l.register ≡ true → (r p : ℕ) → l.register r p ≡ false
free_of l sound free r p = by (l.register r p) refl where
  by : (b : Bool) → l.register r p ≡ b → b ≡ false
  by false e = refl
  by true e =
      let low = sound.register r p e in
      let most = sound.reaches r in
      let past = sound.rows r in
      let row : r < 16 = grind (arith, nat_tests) in
      let place : p < 128 = omega (arith, low, most) in
      let found = some-found 16 r (λ x. some 128 (l.register x)) row (some-found 128 p (l.register r) place e) in
      absurd (both_ways (is_free l.register) (ap not found) free)

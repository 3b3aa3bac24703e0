-- How many places a list has, and at how many two lists differ. Assumes nothing.
use Rattle.std.proofs.Common.{◌≡◌, ℕ, ◌+◌, ◌<◌, Bool, true, false, cond, not, ◌&&◌, ◌||◌, eqb, ltb, List, [], ◌∷◌, ◌++◌, sym, refl, ◌∙◌, arith}
use Rattle.std.proofs.lemmas.Bool.Decides.{nat_tests}
use Rattle.chest.specs.Places.{Places, none, put, differ, total, size, changed}
use Rattle.chest.proofs.Totals.{total_ext, total-sum}
use Rattle.chest.proofs.Counts.{size-ext, changed-same, counting}
use Rattle.cases.proofs.Held.{held, either_held}

-- those of a list that pass a test
abbrev pub passing : (ℕ × ℕ → Bool) → List (ℕ × ℕ) → List (ℕ × ℕ)
passing f [] = []
passing f (t ∷ ts) = cond (f t) (t ∷ passing f ts) (passing f ts)

pub held-passing : (f : ℕ → ℕ → Bool) (ts : List (ℕ × ℕ)) (r p : ℕ) → held (passing (λ t. f t.0 t.1) ts) r p ≡ (held ts r p && f r p)
held-passing f [] r p = refl
held-passing f (t ∷ ts) r p = let rest = held-passing f ts r p in grind (arith, nat_tests)

-- each of them once
abbrev pub once : List (ℕ × ℕ) → List (ℕ × ℕ)
once [] = []
once (t ∷ ts) = cond (held ts t.0 t.1) (once ts) (t ∷ once ts)

once-at : (ts : List (ℕ × ℕ)) (r p : ℕ) → held (once ts) r p ≡ held ts r p
once-at [] r p = refl
once-at (t ∷ ts) r p = let rest = once-at ts r p in grind (arith, nat_tests)

pub held-once : (ts : List (ℕ × ℕ)) → held (once ts) ≡ held ts
held-once ts = λ i r p. once-at ts r p i

-- how many places they are
abbrev pub count : List (ℕ × ℕ) → ℕ
count [] = 0
count (t ∷ ts) = cond (held ts t.0 t.1) (count ts) (count ts + 1)

-- whether each is a place of a chest
abbrev pub in_chest : List (ℕ × ℕ) → Bool
in_chest [] = true
in_chest (t ∷ ts) = (ltb t.0 16 && ltb t.1 128) && in_chest ts

-- one place put on
size_put : (s : Places) (row place : ℕ) → size (put s row place true) ≡ size s + changed s (put s row place true)
size_put s row place =
    total_ext 16 (λ r. total 128 (λ p. cond (put s row place true r p) 1 0)) (λ r. total 128 (old r) + total 128 (new r)) (λ r hr.
    total_ext 128 (λ p. cond (put s row place true r p) 1 0) (λ p. old r p + new r p) (λ p hp. by (eqb r row && eqb p place) (s r p))
    ∙ total-sum 128 (old r) (new r))
    ∙ total-sum 16 (λ r. total 128 (old r)) (λ r. total 128 (new r))
  where
    old : ℕ → ℕ → ℕ
    old r p = cond (s r p) 1 0

    new : ℕ → ℕ → ℕ
    new r p = cond (differ (s r p) (put s row place true r p)) 1 0

    by : (on x : Bool) → ◌≡◌ {A = ℕ} (cond (cond on true x) 1 0) (cond x 1 0 + cond (differ x (cond on true x)) 1 0)
    by true true = refl
    by true false = refl
    by false true = refl
    by false false = refl

-- the size of places in a list is their count
size_held : (ts : List (ℕ × ℕ)) → in_chest ts ≡ true → size (held ts) ≡ count ts
size_held [] h = changed-same none
size_held (t ∷ ts) h =
    size_put (held ts) t.0 t.1
    ∙ (λ i. size_held ts (within.2) i + counting.one (held ts) t.0 t.1 true within.0 within.1 i)
    ∙ by (held ts t.0 t.1) (count ts)
  where
    within : (t.0 < 16) × (t.1 < 128) × (in_chest ts ≡ true)
    within = (grind (arith, nat_tests), grind (arith, nat_tests), grind (arith, nat_tests))

    by : (b : Bool) (n : ℕ) → n + cond (differ b true) 1 0 ≡ cond b n (n + 1)
    by true n = omega arith
    by false n = refl

-- the places that are in one list alone
abbrev pub unshared : List (ℕ × ℕ) → List (ℕ × ℕ) → List (ℕ × ℕ)
unshared xs ys = passing (λ t. not (held ys t.0 t.1)) xs ++ passing (λ t. not (held xs t.0 t.1)) ys

differ_at : (xs ys : List (ℕ × ℕ)) (r p : ℕ) → differ (held xs r p) (held ys r p) ≡ held (unshared xs ys) r p
differ_at xs ys r p =
    by (held xs r p) (held ys r p)
    ∙ sym ((λ i. either_held (passing (λ t. not (held ys t.0 t.1)) xs) (passing (λ t. not (held xs t.0 t.1)) ys) i r p) ∙ λ i. held-passing (λ a b. not (held ys a b)) xs r p i || held-passing (λ a b. not (held xs a b)) ys r p i)
  where
    by : (a b : Bool) → differ a b ≡ ((a && not b) || (b && not a))
    by true true = refl
    by true false = refl
    by false true = refl
    by false false = refl

-- at how many places two lists differ: by their count, where all of them are places of a chest
abbrev pub moved : List (ℕ × ℕ) → List (ℕ × ℕ) → ℕ
moved xs ys = cond (in_chest (unshared xs ys)) (count (unshared xs ys)) (changed (held xs) (held ys))

pub changed-held : (xs ys : List (ℕ × ℕ)) → changed (held xs) (held ys) ≡ moved xs ys
changed-held xs ys = by (in_chest (unshared xs ys)) (λ h. counted h) where
  counted : in_chest (unshared xs ys) ≡ true → changed (held xs) (held ys) ≡ count (unshared xs ys)
  counted h =
      size-ext (λ r p. differ (held xs r p) (held ys r p)) (held (unshared xs ys)) (λ r p hr hp. differ_at xs ys r p)
      ∙ size_held (unshared xs ys) h

  by : (b : Bool) → (b ≡ true → changed (held xs) (held ys) ≡ count (unshared xs ys)) → changed (held xs) (held ys) ≡ cond b (count (unshared xs ys)) (changed (held xs) (held ys))
  by true h = h refl
  by false h = refl

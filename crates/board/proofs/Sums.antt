-- Sums over the numbers of a set and over the wires of a list. Assumes nothing.
use Rattle.std.specs.Prelude.{◌≡◌, ℕ, zero, suc, ◌+◌, ◌<◌, ◌≤◌, Bool, true, false, cond, ◌≢◌, List, [], ◌∷◌, length, map, sum_by, Some, get_or, refl}
use Rattle.std.proofs.Common.{sym, ap, ◌∙◌, arith}
use Rattle.std.proofs.lemmas.List.Sums.{sum_by-cons}
use Rattle.std.proofs.lemmas.List.{get_or-map}
use Rattle.std.proofs.lemmas.Bool.Decides.{nat_tests}
use Rattle.chest.specs.Places.{total}
use Rattle.chest.proofs.Totals.{total_ext, total-zero, total-le}
use Rattle.sets.specs.Numbers.{Numbers, nothing, with_number, PopsFirst}
use Rattle.wires.proofs.Sums.{total-change}

-- a sum by its first term
total_front : (n : ℕ) (f : ℕ → ℕ) → total (suc n) f ≡ f 0 + total n (λ k. f (suc k))
unfolding total
total_front zero f = omega arith
total_front (suc n) f = let front = total_front n f in omega arith

-- a sum over a list, by numbers
sum_total : {X : Type 0} (f : X → ℕ) (xs : List X) (n : ℕ) → length xs ≤ n → sum_by f xs ≡ total n (λ i. get_or (map f xs) i 0)
sum_total f [] n l = sym (total-zero n (λ i. 0) (λ k h. refl))
sum_total f (x ∷ xs) zero l = absurd (omega arith)
sum_total f (x ∷ xs) (suc n) l =
    sum_by-cons f x xs ∙ ap (λ m. f x + m) (sum_total f xs n (omega arith)) ∙ sym (total_front n (λ i. get_or (map f (x ∷ xs)) i 0))

-- the sum over a list of at most 128 elements, of which those whose numbers are in a set count by `old`, the others by `new`
module _ {X : Type 0} (new old : X → ℕ) (xs : List X) where
  abbrev pub value : (X → ℕ) → ℕ → ℕ
  value f i = get_or (map f xs) i 0

  unfoldable pub mixed : Numbers → ℕ
  mixed s = total 128 (λ i. cond (s i) (value old i) (value new i))

  pub mixed_start : (s : Numbers) → length xs ≤ 128 → ((i : ℕ) (d : X) → i < length xs → s i ≡ false → new (get_or xs i d) ≡ old (get_or xs i d)) → mixed s ≡ sum_by old xs
  unfolding mixed
  mixed_start s few same = total_ext 128 _ _ (λ k l. one k) ∙ sym (sum_total old xs 128 few) where
    by : (c : Bool) (o n : ℕ) → (c ≡ false → n ≡ o) → cond c o n ≡ o
    by true o n e = refl
    by false o n e = e refl

    equal : (k : ℕ) → s k ≡ false → value new k ≡ value old k
    equal k out = go xs k (λ i d l e. same i d l (ap s e ∙ out)) where
      go : (ys : List X) (j : ℕ) → ((i : ℕ) (d : X) → i < length ys → i ≡ j → new (get_or ys i d) ≡ old (get_or ys i d)) → get_or (map new ys) j 0 ≡ get_or (map old ys) j 0
      go [] j e = refl
      go (y ∷ ys) zero e = e 0 y (omega arith) refl
      go (y ∷ ys) (suc j) e = go ys j (λ i d l q. e (suc i) d (omega arith) (ap suc q))

    one : (k : ℕ) → cond (s k) (value old k) (value new k) ≡ value old k
    one k = by (s k) (value old k) (value new k) (equal k)

  pub mixed_end : (s : Numbers) → length xs ≤ 128 → s ≡ nothing → mixed s ≡ sum_by new xs
  unfolding mixed
  mixed_end s few none =
      ap (λ t. total 128 (λ i. cond (t i) (value old i) (value new i))) none ∙ sym (sum_total new xs 128 few)

  -- one less counts by `old`
  pub mixed_more : (s t : Numbers) (k : ℕ) (d : X) → k < length xs → length xs ≤ 128 → PopsFirst s t (Some k) → mixed t + old (get_or xs k d) ≡ mixed s + new (get_or xs k d)
  unfolding mixed
  mixed_more s t k d l few pops =
      let change = total-change 128 k (λ i. cond (t i) (value old i) (value new i)) (λ i. cond (s i) (value old i) (value new i)) (λ j ne. ap (λ x. cond (x j) (value old j) (value new j)) pops.2 ∙ other j ne) in
      let old_is = get_or-map old xs k d 0 l in
      let new_is = get_or-map new xs k d 0 l in
      let is = pops.0 in
      let out : t k ≡ false = ap (λ x. x k) pops.2 ∙ gone in
      let at_t : cond (t k) (value old k) (value new k) ≡ value new k = ap (λ c. cond c (value old k) (value new k)) out in
      let at_s : cond (s k) (value old k) (value new k) ≡ value old k = ap (λ c. cond c (value old k) (value new k)) is in
      let within : k < 128 = omega arith in
      grind (arith, nat_tests)
    where
      gone : with_number s k false k ≡ false
      gone = grind (arith, nat_tests)

      other : (j : ℕ) → j ≢ k → cond (with_number s k false j) (value old j) (value new j) ≡ cond (s j) (value old j) (value new j)
      other j ne = grind (arith, nat_tests)

  pub mixed-le : (s : Numbers) → ((x : X) → new x ≤ 1) → ((x : X) → old x ≤ 1) → mixed s ≤ 128
  unfolding mixed
  mixed-le s n o =
      let all = total-le 128 1 (λ i. cond (s i) (value old i) (value new i)) (λ k h. one (s k) (at old o k) (at new n k)) in
      omega arith
    where
      at : (f : X → ℕ) → ((x : X) → f x ≤ 1) → (k : ℕ) → value f k ≤ 1
      at f small k = go xs k where
        go : (ys : List X) (j : ℕ) → get_or (map f ys) j 0 ≤ 1
        go [] j = omega arith
        go (y ∷ ys) zero = small y
        go (y ∷ ys) (suc j) = go ys j

      one : (c : Bool) {a b : ℕ} → a ≤ 1 → b ≤ 1 → cond c a b ≤ 1
      one true p q = p
      one false p q = q

-- a sum over the numbers of a set, one of which is taken out
pub left_more : (s t : Numbers) (k : ℕ) (f : ℕ → ℕ) → k < 128 → PopsFirst s t (Some k) → total 128 (λ i. cond (s i) (f i) 0) ≡ total 128 (λ i. cond (t i) (f i) 0) + f k
left_more s t k f within pops =
    let change = total-change 128 k (λ i. cond (t i) (f i) 0) (λ i. cond (s i) (f i) 0) (λ j ne. ap (λ x. cond (x j) (f j) 0) pops.2 ∙ other j ne) in
    let out : cond (t k) (f k) 0 ≡ 0 = ap (λ x. cond (x k) (f k) 0) pops.2 ∙ gone in
    let is : cond (s k) (f k) 0 ≡ f k = ap (λ c. cond c (f k) 0) pops.0 in
    grind (arith, nat_tests)
  where
    gone : cond (with_number s k false k) (f k) 0 ≡ 0
    gone = grind (arith, nat_tests)

    other : (j : ℕ) → j ≢ k → cond (with_number s k false j) (f j) 0 ≡ cond (s j) (f j) 0
    other j ne = grind (arith, nat_tests)

-- how many numbers below 128 a set has: the measure of a walk that takes them out
abbrev pub left : Numbers → ℕ
left s = total 128 (λ i. cond (s i) 1 0)

pub left_less : (s t : Numbers) (k : ℕ) → k < 128 → PopsFirst s t (Some k) → left t < left s
left_less s t k within pops = omega (arith, left_more s t k (λ i. 1) within pops)

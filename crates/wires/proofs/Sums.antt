-- Sums over the numbers below a bound and over the wires of a list. Assumes nothing.
use Rattle.std.specs.Prelude.{◌≡◌, ℕ, zero, suc, ◌+◌, ◌-◌, ◌<◌, ◌≤◌, Bool, cond, ◌≢◌, List, [], ◌∷◌, length, sum_by, nat_lt, refl}
use Rattle.std.proofs.Common.{ap, ⊎_elim, arith}
use Rattle.std.proofs.lemmas.List.Sums.{sum_by-cons}
use Rattle.std.proofs.lemmas.Bool.{cases_eq}
use Rattle.std.proofs.lemmas.Bool.Decides.{nat_tests}
use Rattle.chest.specs.Places.{total}
use Rattle.chest.proofs.Totals.{total_ext, total-zero, total-add}
use Rattle.coupling.specs.Some.{some}

-- two sums whose terms differ at one number at most
pub total-change : (n k : ℕ) (f g : ℕ → ℕ) → ((j : ℕ) → j ≢ k → f j ≡ g j) → total n f + cond (nat_lt k n) (g k) 0 ≡ total n g + cond (nat_lt k n) (f k) 0
unfolding total
total-change zero k f g e = grind (arith, nat_tests)
total-change (suc n) k f g e =
    ⊎_elim
    (λ (h : n ≡ k).
    let front = total_ext n f g (λ j l. e j (λ (q : j ≡ k). omega arith)) in
    let here = ap f h in
    let there = ap g h in
    grind (arith, nat_tests))
    (λ (h : n ≢ k).
    let front = total-change n k f g e in
    let last = e n h in
    grind (arith, nat_tests))
    (cases_eq n k)

-- a sum of at most one term, which is at most one
pub total-once : (n : ℕ) (f : ℕ → ℕ) → ((j : ℕ) → f j ≤ 1) → ((j k : ℕ) → 0 < f j → 0 < f k → j ≡ k) → total n f ≤ 1
unfolding total
total-once zero f small once = omega arith
total-once (suc n) f small once =
    ⊎_elim
    (λ (h : f n ≡ 0). let front = total-once n f small once in omega arith)
    (λ (h : f n ≢ 0).
    let front : total n f ≡ 0 = total-zero n f (λ j l. ⊎_elim (λ (z : f j ≡ 0). z) (λ (z : f j ≢ 0). absurd (let same = once j n (omega arith) (omega arith) in omega arith)) (cases_eq (f j) 0)) in
    omega (arith, small n))
    (cases_eq (f n) 0)

-- a sum with nothing in its rest
pub total-past : (m n : ℕ) (f : ℕ → ℕ) → m ≤ n → ((k : ℕ) → m ≤ k → f k ≡ 0) → total n f ≡ total m f
total-past m n f h none =
    let all : m + (n - m) ≡ n = omega arith in
    omega (arith, total-add m (n - m) f, ap (λ k. total k f) all, total-zero (n - m) (λ k. f (m + k)) (λ k l. none (m + k) (omega arith)))

-- some number passes where the number of those that pass is above 0
pub some-total : (n : ℕ) (f : ℕ → Bool) → some n f ≡ nat_lt 0 (total n (λ k. cond (f k) 1 0))
unfolding some total
some-total zero f = refl
some-total (suc n) f = let front = some-total n f in grind (arith, nat_tests)

-- a sum whose terms are at most one: std's `sum_by-le` asks that of the elements of the list, by `All`
pub sum-le : {X : Type 0} (f : X → ℕ) → ((x : X) → f x ≤ 1) → (xs : List X) → sum_by f xs ≤ length xs
sum-le f small [] = omega arith
sum-le f small (x ∷ xs) = omega (arith, sum_by-cons f x xs, sum-le f small xs, small x)

-- Sums over the numbers below a bound. Assumes nothing.
use Rattle.std.proofs.Common.{◌≡◌, ℕ, zero, suc, ◌+◌, ◌*◌, ◌<◌, ◌≤◌, ◌≢◌, sym, refl, ap, ◌∙◌, ⊎_elim, add-zero, add_assoc, add-suc, suc-mul, zero-mul, arith}
use Rattle.std.proofs.lemmas.Bool.{cases_eq}
use Rattle.chest.specs.Places.{total}

-- equal terms have equal sums
pub total_ext : (n : ℕ) (f g : ℕ → ℕ) → ((k : ℕ) → k < n → f k ≡ g k) → total n f ≡ total n g
unfolding total
total_ext zero f g e = refl
total_ext (suc n) f g e = λ i. total_ext n f g (λ k h. e k (omega arith)) i + e n (omega arith) i

pub total-zero : (n : ℕ) (f : ℕ → ℕ) → ((k : ℕ) → k < n → f k ≡ 0) → total n f ≡ 0
unfolding total
total-zero zero f e = refl
total-zero (suc n) f e =
    let front = total-zero n f (λ k h. e k (omega arith)) in
    let last = e n (omega arith) in
    omega arith

pub total-sum : (n : ℕ) (f g : ℕ → ℕ) → total n (λ k. f k + g k) ≡ total n f + total n g
unfolding total
total-sum zero f g = refl
total-sum (suc n) f g = let front = total-sum n f g in omega arith

-- where all terms but one are 0, the sum is that term
pub total-one : (n k : ℕ) (f : ℕ → ℕ) → k < n → ((j : ℕ) → j < n → j ≢ k → f j ≡ 0) → total n f ≡ f k
unfolding total
total-one zero k f h others = absurd (omega arith)
total-one (suc n) k f h others =
    ⊎_elim
    (λ (e : k ≡ n).
    let front = total-zero n f (λ j hj. others j (omega arith) (λ (q : j ≡ k). omega arith)) in
    let there = ap f e in
    omega arith)
    (λ (ne : k ≢ n).
    let front = total-one n k f (omega arith) (λ j hj. others j (omega arith)) in
    let last = others n (omega arith) (λ (q : n ≡ k). ne (sym q)) in
    omega arith)
    (cases_eq k n)

-- a sum no term of which passes a bound
pub total-le : (n b : ℕ) (f : ℕ → ℕ) → ((k : ℕ) → k < n → f k ≤ b) → total n f ≤ n * b
unfolding total
total-le zero b f h = omega (arith, zero-mul b)
total-le (suc n) b f h =
    let front = total-le n b f (λ k l. h k (omega arith)) in
    let last = h n (omega arith) in
    omega (arith, suc-mul n b)

-- the first m terms and the w after them
pub total-add : (m w : ℕ) (f : ℕ → ℕ) → total (m + w) f ≡ total m f + total w (λ k. f (m + k))
unfolding total
total-add m zero f = ap (λ n. total n f) (add-zero m) ∙ sym (add-zero (total m f))
total-add m (suc w) f =
    ap (λ n. total n f) (add-suc m w) ∙ ap (λ t. t + f (m + w)) (total-add m w f)
    ∙ add_assoc (total m f) (total w (λ k. f (m + k))) (f (m + w))

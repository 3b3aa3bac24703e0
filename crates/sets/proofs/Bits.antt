-- The bits of words. Assumes nothing.
use Rattle.std.proofs.Common.{◌≡◌, ℕ, ◌*◌, ◌%◌, ◌^◌, ◌<◌, ◌≤◌, min, true, false, eqb, ◌≢◌, bit_and, bit_or, w64, sym, ap, subst, ◌∙◌, ⊎_elim, arith}
use Rattle.std.specs.Int.{bit_at, bit_not, trailing_zeros}
use Rattle.std.proofs.lemmas.Bool.{cases_eq, cases_lt}
use Rattle.std.proofs.lemmas.Bool.Decides.{nat_tests}
use Rattle.std.proofs.lemmas.Nat.Bits.{bit_at-zero, bit_at_and, bit_at-lt, bit_at_above, bit_at_set_same, bit_at_set_other, bit_at_clear_same, bit_at_clear_other, bit_at-trailing_zeros}
use Rattle.sets.specs.Numbers.{nothing, with_number, both, bits_of}

pub bits_none : bits_of 0 ≡ nothing
bits_none = λ i k. ap (λ x. eqb x 1) (bit_at-zero k) i

pub bits_and : (a b : ℕ) → bits_of (bit_and a b) ≡ both (bits_of a) (bits_of b)
bits_and a b = λ i k. one k i where
  one : (k : ℕ) → bits_of (bit_and a b) k ≡ both (bits_of a) (bits_of b) k
  one k = grind (arith, nat_tests, bit_at_and a b k, bit_at-lt a k, bit_at-lt b k)

-- a word has no bit past its width
pub bits_past : (a k : ℕ) → a < 2 ^ 64 → 64 ≤ k → bits_of a k ≡ false
bits_past a k fits h = ap (λ x. eqb x 1) (bit_at_above a 64 k fits h)

-- one bit set, or cleared
pub bits_in : (n k : ℕ) → k < 64 → bits_of (bit_or n (1 * 2 ^ k % 2 ^ 64)) ≡ with_number (bits_of n) k true
bits_in n k within = λ i j. one j i where
  here : true ≡ with_number (bits_of n) k true k
  here = grind (arith, nat_tests)

  there : (j : ℕ) → j ≢ k → bits_of n j ≡ with_number (bits_of n) k true j
  there j ne = grind (arith, nat_tests)

  one : (j : ℕ) → bits_of (bit_or n (1 * 2 ^ k % 2 ^ 64)) j ≡ with_number (bits_of n) k true j
  one j =
      ⊎_elim
      (λ (e : j ≡ k). subst (λ x. bits_of (bit_or n (1 * 2 ^ k % 2 ^ 64)) x ≡ with_number (bits_of n) k true x) (sym e) (ap (λ x. eqb x 1) (bit_at_set_same w64 n k within) ∙ here))
      (λ (ne : j ≢ k). ap (λ x. eqb x 1) (bit_at_set_other w64 n k within j ne) ∙ there j ne)
      (cases_eq j k)

pub bits_out : (n k : ℕ) → n < 2 ^ 64 → k < 64 → bits_of (bit_and n (bit_not w64 (1 * 2 ^ k % 2 ^ 64))) ≡ with_number (bits_of n) k false
bits_out n k fits within = λ i j. one j i where
  here : false ≡ with_number (bits_of n) k false k
  here = grind (arith, nat_tests)

  there : (j : ℕ) → j ≢ k → bits_of n j ≡ with_number (bits_of n) k false j
  there j ne = grind (arith, nat_tests)

  nought : (x : ℕ) → eqb (min 0 x) 1 ≡ false
  nought x = grind (arith, nat_tests)

  one : (j : ℕ) → bits_of (bit_and n (bit_not w64 (1 * 2 ^ k % 2 ^ 64))) j ≡ with_number (bits_of n) k false j
  one j =
      ⊎_elim
      (λ (e : j ≡ k). subst (λ x. bits_of (bit_and n (bit_not w64 (1 * 2 ^ k % 2 ^ 64))) x ≡ with_number (bits_of n) k false x) (sym e) (ap (λ x. eqb x 1) (bit_at_clear_same w64 n k within) ∙ here))
      (λ (ne : j ≢ k).
      ⊎_elim
      (λ (h : j < 64). ap (λ x. eqb x 1) (bit_at_clear_other w64 n k within j h ne) ∙ there j ne)
      (λ (h : 64 ≤ j). ap (λ x. eqb x 1) (bit_at_and n (bit_not w64 (1 * 2 ^ k % 2 ^ 64)) j ∙ ap (λ x. min x (bit_at (bit_not w64 (1 * 2 ^ k % 2 ^ 64)) j)) (bit_at_above n 64 j fits h)) ∙ nought (bit_at (bit_not w64 (1 * 2 ^ k % 2 ^ 64)) j) ∙ sym (bits_past n j fits h) ∙ there j ne)
      (cases_lt j 64))
      (cases_eq j k)

-- the least number is the lowest bit
pub bits_first : (n : ℕ) → 0 < n → n < 2 ^ 64 → (bits_of n (trailing_zeros w64 n) ≡ true) × ((j : ℕ) → j < trailing_zeros w64 n → bits_of n j ≡ false)
bits_first n some fits =
    let lowest = bit_at-trailing_zeros w64 n some fits in
    (ap (λ x. eqb x 1) lowest.1, λ j h. ap (λ x. eqb x 1) (lowest.2 j h))

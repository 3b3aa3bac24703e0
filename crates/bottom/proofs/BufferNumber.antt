-- The number that a buffer's bytes are. Assumes nothing.
use Rattle.std.specs.Prelude.{◌≡◌, ℕ, zero, suc, ◌+◌, ◌*◌, ◌/◌, ◌%◌, ◌^◌, ◌<◌, Ok, Bool, true, false, cond, ◌&&◌, List, [], ◌∷◌, length, ◌==◌, get_or}
use Rattle.std.proofs.Common.{sym, refl, ap, ap₂, ◌∙◌, ⊎_elim, eq-eqb, ne_eqb, lt-ltb, one-add, one-mul, mul-zero, mul_assoc, mod-eq_of_lt, arith}
use native.Mathlib.Nat.{zero-mul, mul-add, mul-suc}
use Rattle.std.proofs.lemmas.Bool.{cases_eq}
use Rattle.std.proofs.lemmas.Nat.{pow-add, mod-pow-add}
use Rattle.chest.specs.Places.{total}
use Rattle.chest.proofs.Totals.{total_ext, total-add}
use Rattle.bottom.specs.PipeTable.{bit_of, shown}
use Rattle.bottom.specs.BufferNumber.{number_in, number_for, Numbered}

-- sums of sums: m stretches of w terms
total-nest : (m w : ℕ) (g : ℕ → ℕ) → total m (λ j. total w (λ k. g (w * j + k))) ≡ total (w * m) g
unfolding total
total-nest zero w g = let none : w * 0 ≡ 0 = mul-zero w in ap (λ n. total n g) (sym none)
total-nest (suc m) w g =
    ap (λ t. t + total w (λ k. g (w * m + k))) (total-nest m w g) ∙ sym (total-add (w * m) w g) ∙ ap (λ n. total n g) (sym (mul-suc w m))

total-times : (c n : ℕ) (f : ℕ → ℕ) → total n (λ k. c * f k) ≡ c * total n f
unfolding total
total-times c zero f = sym (mul-zero c)
total-times c (suc n) f = ap (λ t. t + c * f n) (total-times c n f) ∙ sym (mul-add c (total n f) (f n))

-- a number below a power of two is the sum of its bits
bit-flag : (b t : ℕ) → b < 2 → cond (b == 1) t 0 ≡ b * t
bit-flag b t small =
    ⊎_elim
    (λ (one : b ≡ 1). ap (λ c. cond c t 0) (eq-eqb b 1 one) ∙ sym (one-mul t) ∙ ap (λ x. x * t) (sym one))
    (λ (other : b ≡ 1 → ⊥). let none : 0 ≡ b = omega arith in ap (λ c. cond c t 0) (ne_eqb b 1 other) ∙ sym (zero-mul t) ∙ ap (λ x. x * t) none)
    (cases_eq b 1)

bits-sum : (n k : ℕ) → total k (λ j. cond (bit_of n j) (2 ^ j) 0) ≡ n % 2 ^ k
unfolding total
bits-sum n zero = omega arith
bits-sum n (suc k) =
    let bit = bit-flag (n / 2 ^ k % 2) (2 ^ k) (omega arith) in
    let more = mod-pow-add n 1 k in
    let next : n % 2 ^ (1 + k) ≡ n % 2 ^ suc k = ap (λ x. n % 2 ^ x) (one-add k) in
    let front = bits-sum n k in
    omega arith

-- bytes as a number, by the place of each
byte-first : (b m : ℕ) (bs : List ℕ) → 2 ^ (8 * m) * b ≡ total 1 (λ j. 2 ^ (8 * (m + j)) * get_or (b ∷ bs) j 0)
unfolding total
byte-first b m bs =
    let at : 8 * m ≡ 8 * (m + 0) = omega arith in
    let same : 2 ^ (8 * m) * b ≡ 2 ^ (8 * (m + 0)) * b = ap (λ e. 2 ^ e * b) at in
    omega arith

byte-next : (b m j : ℕ) (bs : List ℕ) → 2 ^ (8 * (m + 1 + j)) * get_or bs j 0 ≡ 2 ^ (8 * (m + (1 + j))) * get_or (b ∷ bs) (1 + j) 0
byte-next b m j bs =
    let at : 8 * (m + 1 + j) ≡ 8 * (m + (1 + j)) = omega arith in
    ap (λ e. 2 ^ e * get_or bs j 0) at ∙ ap (λ k. 2 ^ (8 * (m + (1 + j))) * get_or (b ∷ bs) k 0) (sym (one-add j))

byte-more : (m n : ℕ) → 2 ^ (8 * m) * (256 * n) ≡ 2 ^ (8 * (m + 1)) * n
byte-more m n =
    let at : 8 * m + 8 ≡ 8 * (m + 1) = omega arith in
    sym (mul_assoc (2 ^ (8 * m)) 256 n) ∙ ap (λ x. x * n) (sym (pow-add 2 (8 * m) 8) ∙ ap (λ e. 2 ^ e) at)

number-sum : (bs : List ℕ) (m : ℕ) → 2 ^ (8 * m) * number_in bs ≡ total (length bs) (λ j. 2 ^ (8 * (m + j)) * get_or bs j 0)
unfolding total
number-sum [] m = mul-zero (2 ^ (8 * m))
number-sum (b ∷ bs) m =
    let term : ℕ → ℕ = λ j. 2 ^ (8 * (m + j)) * get_or (b ∷ bs) j 0 in
    let rest = byte-more m (number_in bs) ∙ number-sum bs (m + 1) ∙ total_ext (length bs) (λ j. 2 ^ (8 * (m + 1 + j)) * get_or bs j 0) (λ j. term (1 + j)) (λ j low. byte-next b m j bs) in
    mul-add (2 ^ (8 * m)) b (256 * number_in bs) ∙ ap₂ (λ x y. x + y) (byte-first b m bs) rest
    ∙ sym (total-add 1 (length bs) term) ∙ ap (λ n. total n term) (one-add (length bs))

module _ (bytes : List ℕ) where
  -- the bit of a pipe, as the number says it that the pipe has
  bit-power : ℕ → ℕ
  bit-power n = cond (bit_of (get_or bytes (n / 8) 0) (n % 8)) (2 ^ n) 0

  -- each byte is the sum of its pipes
  bit-at : (j k : ℕ) → k < 8 → 2 ^ (8 * j) * cond (bit_of (get_or bytes j 0) k) (2 ^ k) 0 ≡ bit-power (8 * j + k)
  unfolding bit-power
  bit-at j k low =
      let byte : j ≡ (8 * j + k) / 8 = omega arith in
      let bit : k ≡ (8 * j + k) % 8 = omega arith in
      by (bit_of (get_or bytes j 0) k) ∙ (λ i. cond (bit_of (get_or bytes (byte i) 0) (bit i)) (2 ^ (8 * j + k)) 0)
    where
      by : (on : Bool) → 2 ^ (8 * j) * cond on (2 ^ k) 0 ≡ cond on (2 ^ (8 * j + k)) 0
      by true = sym (pow-add 2 (8 * j) k)
      by false = mul-zero (2 ^ (8 * j))

  byte-at : (j : ℕ) → get_or bytes j 0 < 256 → 2 ^ (8 * (0 + j)) * get_or bytes j 0 ≡ total 8 (λ k. bit-power (8 * j + k))
  byte-at j small =
      let b = get_or bytes j 0 in
      let at : 8 * (0 + j) ≡ 8 * j = omega arith in
      ap (λ e. 2 ^ e * b) at ∙ ap (λ x. 2 ^ (8 * j) * x) (sym (bits-sum b 8 ∙ mod-eq_of_lt small)) ∙ sym (total-times (2 ^ (8 * j)) 8 (λ k. cond (bit_of b k) (2 ^ k) 0))
      ∙ total_ext 8 (λ k. 2 ^ (8 * j) * cond (bit_of b k) (2 ^ k) 0) (λ k. bit-power (8 * j + k)) (λ k low. bit-at j k low)

  -- and each pipe has its own bit
  pipe-at : (r p : ℕ) → r < 16 → p < 128 → bit-power (128 * r + p) ≡ cond (shown bytes r p) (2 ^ (128 * r + p)) 0
  unfolding bit-power
  pipe-at r p row place =
      let byte : (128 * r + p) / 8 ≡ 16 * r + p / 8 = omega arith in
      let bit : (128 * r + p) % 8 ≡ p % 8 = omega arith in
      (λ i. cond (bit_of (get_or bytes (byte i) 0) (bit i)) (2 ^ (128 * r + p)) 0)
      ∙ (λ i. cond (sym (lt-ltb r 16 row) i && (sym (lt-ltb p 128 place) i && bit_of (get_or bytes (16 * r + p / 8) 0) (p % 8))) (2 ^ (128 * r + p)) 0)

  pub number-shown : length bytes ≡ 256 → ((j : ℕ) → get_or bytes j 0 < 256) → number_in bytes ≡ number_for (shown bytes)
  number-shown long small =
      sym (one-mul (number_in bytes)) ∙ number-sum bytes 0 ∙ ap (λ n. total n (λ j. 2 ^ (8 * (0 + j)) * get_or bytes j 0)) long
      ∙ total_ext 256 (λ j. 2 ^ (8 * (0 + j)) * get_or bytes j 0) (λ j. total 8 (λ k. bit-power (8 * j + k))) (λ j low. byte-at j (small j))
      ∙ total-nest 256 8 bit-power ∙ sym (total-nest 16 128 bit-power)
      ∙ total_ext 16 (λ r. total 128 (λ p. bit-power (128 * r + p))) (λ r. total 128 (λ p. cond (shown bytes r p) (2 ^ (128 * r + p)) 0)) (λ r row.
      total_ext 128 (λ p. bit-power (128 * r + p)) (λ p. cond (shown bytes r p) (2 ^ (128 * r + p)) 0) (λ p place. pipe-at r p row place))

-- a buffer that takes on these bytes
pub numbered-written : (bytes before after : List ℕ) → length before ≡ 256 → after ≡ bytes → length after ≡ length before → ((j : ℕ) → get_or after j 0 < 256) → Numbered (shown bytes) before after (Ok tt)
numbered-written bytes before after fits is long small =
    record {
      written = λ e. (refl, long ∙ fits, number-shown after (long ∙ fits) small ∙ ap (λ l. number_for (shown l)) is);
      refused = λ ne. absurd (ne fits);
    }

-- The bits of a byte: one put on or off. Assumes nothing.
use Rattle.std.proofs.Common.{◌≡◌, ℕ, ◌-◌, ◌*◌, ◌%◌, ◌^◌, ◌<◌, true, false, not, eqb, ◌≢◌, ap, sym, ◌∙◌, inl, inr, eq-eqb, ne_eqb, arith, w8}
use Rattle.std.specs.Int.{bit_at}
use Rattle.std.proofs.lemmas.Bool.{cases_eq}
use Rattle.std.proofs.lemmas.Nat.{one_shl, pow_pos}
use lib.Bits.{bit_or, bit_and}
use Rattle.std.proofs.lemmas.Nat.Bits.{and_pow, bit_at_set_same, bit_at_set_other, bit_at_clear_same, bit_at_clear_other}
use Rattle.bottom.specs.PipeTable.{bit_of}

-- `1 << k` of a byte, as the code's shift computes it
abbrev pub flag : ℕ → ℕ
flag k = (1 * 2 ^ k) % 256

-- `!(1 << k)` of a byte
abbrev pub mask : ℕ → ℕ
mask k = 255 - (1 * 2 ^ k) % 256

pub flag_same : (a k : ℕ) → k < 8 → bit_of (bit_or a (flag k)) k ≡ true
flag_same a k h = ap (λ n. eqb n 1) (bit_at_set_same w8 a k h)

pub flag-other : (a k j : ℕ) → k < 8 → j ≢ k → bit_of (bit_or a (flag k)) j ≡ bit_of a j
flag-other a k j h ne = ap (λ n. eqb n 1) (bit_at_set_other w8 a k h j ne)

pub mask-same : (a k : ℕ) → k < 8 → bit_of (bit_and a (mask k)) k ≡ false
mask-same a k h = ap (λ n. eqb n 1) (bit_at_clear_same w8 a k h)

pub mask-other : (a k j : ℕ) → k < 8 → j < 8 → j ≢ k → bit_of (bit_and a (mask k)) j ≡ bit_of a j
mask-other a k j h hj ne = ap (λ n. eqb n 1) (bit_at_clear_other w8 a k h j hj ne)

-- the test `byte & (1 << k) != 0`
pub flag_tells : (a k : ℕ) → k < 8 → not (eqb (bit_and a (flag k)) 0) ≡ bit_of a k
flag_tells a k h =
    let e : bit_and a (flag k) ≡ bit_at a k * 2 ^ k = ap (bit_and a) (one_shl k 8 h) ∙ and_pow a k in
    let b : ℕ = bit_at a k in
    let small : b < 2 = omega arith in
    elim (cases_eq b 1) [
      | inl one ↦
          let big : 0 < bit_and a (flag k) = rw (e, one) (omega (arith, pow_pos k)) in
          ap not (ne_eqb _ 0 (omega arith)) ∙ sym (eq-eqb b 1 one)
      | inr other ↦
          let none : b ≡ 0 = omega arith in
          ap not (eq-eqb _ 0 (rw (e, none) (omega arith))) ∙ sym (ne_eqb b 1 other)
    ]

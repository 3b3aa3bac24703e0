-- Tables of 256 bytes as sets of places: none, and one bit put. Assumes nothing.
use Rattle.std.proofs.Common.{◌≡◌, ℕ, ◌+◌, ◌*◌, ◌/◌, ◌%◌, ◌^◌, ◌<◌, Bool, true, false, eqb, ◌≢◌, List, length, get_or, set, replicate, sym, ap, ◌∙◌, ⊎_elim, arith, get_or-set_other, get_or-set_same}
use native.Mathlib.Nat.{zero-div}
use lib.Bits.{bit_or, bit_and}
use Rattle.std.proofs.lemmas.Bool.{cases_eq}
use Rattle.std.proofs.lemmas.Bool.Decides.{nat_tests}
use Rattle.fittings.proofs.Filled.{filled}
use Rattle.chest.specs.Places.{none, put}
use Rattle.bottom.specs.PipeTable.{bit_of, shown}
use Rattle.bottom.proofs.Bytes.{flag, mask, flag_same, flag-other, mask-same, mask-other}

-- a byte in the place of another that differs in bit k at most, which then is on or off
pub record PutBit (old new k : ℕ) (on : Bool) : Type 0 where
  pub here : bit_of new k ≡ on
  pub others : (j : ℕ) → j < 8 → j ≢ k → bit_of new j ≡ bit_of old j

pub put_on : (a k new : ℕ) (on : Bool) → k < 8 → new ≡ bit_or a (flag k) → on ≡ true → PutBit a new k on
put_on a k new on h is so =
    record { here = ap (λ n. bit_of n k) is ∙ flag_same a k h ∙ sym so; others = λ j hj ne. ap (λ n. bit_of n j) is ∙ flag-other a k j h ne }

pub put-off : (a k new : ℕ) (on : Bool) → k < 8 → new ≡ bit_and a (mask k) → on ≡ false → PutBit a new k on
put-off a k new on h is so =
    record { here = ap (λ n. bit_of n k) is ∙ mask-same a k h ∙ sym so; others = λ j hj ne. ap (λ n. bit_of n j) is ∙ mask-other a k j h hj ne }

raw : List ℕ → ℕ → ℕ → Bool
raw xs r p = bit_of (get_or xs (16 * r + p / 8) 0) (p % 8)

module _ (xs : List ℕ) (r p i k new : ℕ) (on : Bool) (long : length xs ≡ 256) (hr : r < 16) (hp : p < 128) (hi : i ≡ 16 * r + p / 8) (hk : k ≡ p % 8) (b : PutBit (get_or xs i 0) new k on) where
  here : (q o : ℕ) → 16 * q + o / 8 ≡ i → get_or (set xs i new) (16 * q + o / 8) 0 ≡ new
  here q o e = ap (λ n. get_or (set xs i new) n 0) e ∙ get_or-set_same xs i new 0 (omega arith)

  raw-there : (q o : ℕ) → q ≡ r → o ≡ p → raw (set xs i new) q o ≡ on
  unfolding raw
  raw-there q o eq eo =
      let same : 16 * q + o / 8 ≡ i = omega arith in
      let bit : o % 8 ≡ k = omega arith in
      (λ j. bit_of (here q o same j) (bit j)) ∙ b.here

  raw-other : (q o : ℕ) → o < 128 → ((q ≡ r) × (o ≡ p) → ⊥) → raw (set xs i new) q o ≡ raw xs q o
  unfolding raw
  raw-other q o ho ne =
      ⊎_elim
      (λ (e : 16 * q + o / 8 ≡ i).
      let other : o % 8 ≢ k = λ (s : o % 8 ≡ k). ne (omega arith, omega arith) in
      ap (λ c. bit_of c (o % 8)) (here q o e) ∙ b.others (o % 8) (omega arith) other
      ∙ ap (λ n. bit_of (get_or xs n 0) (o % 8)) (sym e))
      (λ apart. ap (λ c. bit_of c (o % 8)) (get_or-set_other xs i (16 * q + o / 8) new 0 apart))
      (cases_eq (16 * q + o / 8) i)

  -- the table with that byte shows the set with that place put
  pub shown-put : shown (set xs i new) ≡ put (shown xs) r p on
  unfolding raw
  shown-put = λ j q o. one q o j where
    one : (q o : ℕ) → shown (set xs i new) q o ≡ put (shown xs) r p on q o
    one q o =
        let there = raw-there q o in
        let other = raw-other q o in
        grind (arith, nat_tests)

-- a table of zeros shows no place
pub shown-zeros : shown (replicate 256 0) ≡ none
shown-zeros = λ i r p. one r p i where
  one : (r p : ℕ) → shown (replicate 256 0) r p ≡ false
  one r p =
      let off : bit_of (get_or (replicate 256 0) (16 * r + p / 8) 0) (p % 8) ≡ false
      = ap (λ c. bit_of c (p % 8)) (filled 256 (16 * r + p / 8) 0) ∙ ap (λ n. eqb (n % 2) 1) (zero-div (2 ^ (p % 8))) in
      grind (arith, nat_tests)

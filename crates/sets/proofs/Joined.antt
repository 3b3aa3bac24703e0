-- Two sets of numbers below 64 as one. Assumes nothing.
use Rattle.std.proofs.Common.{◌≡◌, ℕ, ◌+◌, ◌-◌, ◌<◌, ◌≤◌, Bool, true, false, cond, ◌&&◌, ltb, Some, None, Option, is_some, refl, sym, ap, subst, ◌∙◌, arith, ⊎_elim}
use Rattle.std.proofs.lemmas.Bool.{cases_lt}
use Rattle.std.proofs.lemmas.Bool.Decides.{nat_tests}
use Rattle.sets.specs.declared.word.Word.{Word}
use Rattle.sets.specs.NumberSet.{members, left_of, empty}
use Rattle.sets.proofs.Bits.{bits_none}
use Rattle.sets.specs.Numbers.{Numbers, nothing, with_number, both, bits_of, PopsFirst}

-- the one's numbers, and the other's after them
abbrev pub joined : Numbers → Numbers → Numbers
joined low high k = cond (ltb k 64) (low k) (high (k - 64))

pub joined_none : joined nothing nothing ≡ nothing
joined_none = λ i k. by (ltb k 64) i where
  by : (c : Bool) → cond c false false ≡ false
  by true = refl
  by false = refl

pub joined_both : (s t u v : Numbers) → joined (both s u) (both t v) ≡ both (joined s t) (joined u v)
joined_both s t u v = λ i k. by (ltb k 64) (s k) (t (k - 64)) (u k) (v (k - 64)) i where
  by : (c a b x y : Bool) → cond c (a && x) (b && y) ≡ (cond c a b && cond c x y)
  by true a b x y = refl
  by false a b x y = refl

-- a number put in the one, or in the other
pub joined_low : (s t : Numbers) (k : ℕ) (on : Bool) → k < 64 → joined (with_number s k on) t ≡ with_number (joined s t) k on
joined_low s t k on h = λ i j. one j i where
  one : (j : ℕ) → joined (with_number s k on) t j ≡ with_number (joined s t) k on j
  one j = grind (arith, nat_tests)

pub joined_high : (s t : Numbers) (k : ℕ) (on : Bool) → joined s (with_number t k on) ≡ with_number (joined s t) (64 + k) on
joined_high s t k on = λ i j. one j i where
  one : (j : ℕ) → joined s (with_number t k on) j ≡ with_number (joined s t) (64 + k) on j
  one j = ⊎_elim (λ (h : j < 64). grind (arith, nat_tests)) (λ (h : 64 ≤ j). grind (arith, nat_tests)) (cases_lt j 64)

-- the least number of the one, or of the other where the one has none
pub pops_low : (s u t : Numbers) (k : ℕ) → k < 64 → PopsFirst s u (Some k) → PopsFirst (joined s t) (joined u t) (Some k)
pops_low s u t k h p =
    (here k h ∙ p.0, λ j l. here j (omega arith) ∙ p.1 j l, ap (λ x. joined x t) p.2 ∙ joined_low s t k false h)
  where
    here : (j : ℕ) → j < 64 → joined s t j ≡ s j
    here j l = grind (arith, nat_tests)

pub pops_high : (s u t v : Numbers) (k : ℕ) → PopsFirst s u None → PopsFirst t v (Some k) → PopsFirst (joined s t) (joined u v) (Some (64 + k))
pops_high s u t v k none p =
    (there k ∙ p.0, least, (λ i. joined ((none.1 ∙ sym none.0) i) (p.2 i)) ∙ joined_high s t k false)
  where
    there : (j : ℕ) → joined s t (64 + j) ≡ t j
    there j = let back : 64 + j - 64 ≡ j = omega arith in let same = ap t back in grind (arith, nat_tests)

    least : (j : ℕ) → j < 64 + k → joined s t j ≡ false
    least j l =
        ⊎_elim
        (λ (h : j < 64). let gone = ap (λ x. x j) none.0 in grind (arith, nat_tests))
        (λ (h : 64 ≤ j). let gone = p.1 (j - 64) (omega arith) in grind (arith, nat_tests))
        (cases_lt j 64)

pub pops_none : (s u t v : Numbers) → PopsFirst s u None → PopsFirst t v None → PopsFirst (joined s t) (joined u v) None
pops_none s u t v low high =
    ((λ i. joined (low.0 i) (high.0 i)) ∙ joined_none, (λ i. joined (low.1 i) (high.1 i)) ∙ joined_none)

-- the empty set has no number
pub members_empty : members empty ≡ nothing
members_empty = (λ i. joined (bits_none i) (bits_none i)) ∙ joined_none

-- the words that are left, as one of them is popped
pub left_word : (w v : Word) (o : Option Word) (first k : ℕ) → first ≡ cond (is_some o) 0 64 → k < 64 → PopsFirst (bits_of w.bits) (bits_of v.bits) (Some k) → PopsFirst (left_of w o) (left_of v o) (Some (first + k))
left_word w v None first k from h p =
    subst (λ n. PopsFirst (left_of w None) (left_of v None) (Some (n + k))) (sym from) (pops_high nothing nothing (bits_of w.bits) (bits_of v.bits) k (refl, refl) p)
left_word w v (Some later) first k from h p =
    let same : k ≡ first + k = omega (arith, from) in
    subst (λ n. PopsFirst (left_of w (Some later)) (left_of v (Some later)) (Some n)) same (pops_low (bits_of w.bits) (bits_of v.bits) (bits_of later.bits) k h p)

-- the high word follows
pub left_next : (w v u : Word) (k : ℕ) → bits_of w.bits ≡ nothing → PopsFirst (bits_of v.bits) (bits_of u.bits) (Some k) → PopsFirst (left_of w (Some v)) (left_of u None) (Some (64 + k))
left_next w v u k gone p = pops_high (bits_of w.bits) nothing (bits_of v.bits) (bits_of u.bits) k (gone, refl) p

pub left_last : (w v u : Word) → bits_of w.bits ≡ nothing → PopsFirst (bits_of v.bits) (bits_of u.bits) None → PopsFirst (left_of w (Some v)) (left_of u None) None
left_last w v u gone p =
    pops_none (bits_of w.bits) nothing (bits_of v.bits) (bits_of u.bits) (gone, refl) p

pub left_none : (w v : Word) → PopsFirst (bits_of w.bits) (bits_of v.bits) None → PopsFirst (left_of w None) (left_of v None) None
left_none w v p = pops_none nothing nothing (bits_of w.bits) (bits_of v.bits) (refl, refl) p

-- What the digits of a number are worth. Assumes nothing.
use Rattle.std.proofs.Common.{◌≡◌, ℕ, ◌+◌, ◌-◌, ◌*◌, ◌<◌, ◌≤◌, true, ◌&&◌, List, [], ◌∷◌, length, get_or, take, drop, ℤ, pos, ◌-ℤ◌, neg_ℤ, Some, Option, sym, refl, ap, ◌∙◌, arith, w16, to_z, of_z}
use Rattle.std.specs.Str.Parse.{AllDigits, digits_value}
use Rattle.std.specs.Char.{is_ascii_digit}
use Rattle.std.specs.Str.{all_ascii_digits}
use Rattle.std.specs.List.{list_all}
use Rattle.std.proofs.lemmas.Bool.{and_parts, leb-true}
use Rattle.std.proofs.lemmas.List.{take_all, take_rest}
use Rattle.std.proofs.lemmas.Int.Digits.{digits_value_more}
use Rattle.std.proofs.lemmas.Str.{digit_value_digit}
use Rattle.std.proofs.lemmas.Str.Parse.{IsNumeralModel, numerals_by_value, tells_all_ascii_digits, tells_digits, digits_value_short, digits_value-take-le, digit_at}
use Rattle.std.proofs.lemmas.Bool.{cond-true, cond-false, eq-eqb, ne_eqb}
use Rattle.std.proofs.lemmas.Int.{ints}
use Rattle.std.proofs.lemmas.Bool.Decides.{nat_tests}
use Rattle.book.specs.Numerals.{digits_ok, size_of, below_zero, numeral}

-- std's words for digits, and the test of them
pub own : IsNumeralModel (λ ds. all_ascii_digits ds ≡ true) (digits_value 10)
own = numerals_by_value _ tells_all_ascii_digits

plain : IsNumeralModel (AllDigits 10) (digits_value 10)
plain = numerals_by_value _ tells_digits

pub all_digits : (ds : List ℕ) → list_all is_ascii_digit ds ≡ all_ascii_digits ds
all_digits [] = refl
all_digits (c ∷ cs) = ap (λ b. is_ascii_digit c && b) (all_digits cs)

size_room : (ds : List ℕ) → length ds ≤ 4 → AllDigits 10 ds → digits_value 10 ds ≤ 9999
size_room ds few d = omega (arith, digits_value_short plain ds 4 d few)

pub size-good : (ds : List ℕ) → 0 < length ds → length ds ≤ 4 → (get_or ds 0 0 ≡ 48 → ⊥) → AllDigits 10 ds → Some (digits_value 10 ds) ≡ size_of ds
size-good ds some few lead d =
    let all = own.from ds d in
    grind (arith, nat_tests)

-- what makes digits plain, in parts
plain-digits : (ds : List ℕ) → digits_ok ds ≡ true → (0 < length ds) × (length ds ≤ 4) × (all_ascii_digits ds ≡ true)
plain-digits ds ok =
    let some = and_parts _ _ ok in
    let few = and_parts _ _ some.1 in
    (leb-true _ _ some.0, leb-true _ _ few.0, (and_parts _ _ few.1).1)

-- one digit more, of the first digits that n is worth
pub record Grows (ds : List ℕ) (i n : ℕ) : Type 0 where
  pub digit : 48 ≤ get_or ds i 0
  pub value : n * 10 + (get_or ds i 0 - 48) ≡ digits_value 10 (take (i + 1) ds)
  pub room : n * 10 + (get_or ds i 0 - 48) ≤ 9999

pub size-more : (ds : List ℕ) (i n : ℕ) → digits_ok ds ≡ true → i < length ds → n ≡ digits_value 10 (take i ds) → Grows ds i n
size-more ds i n ok h is =
    let p = plain-digits ds ok in
    let d = own.to ds p.2 in
    let here = digit_at ds i d h in
    let more : n * 10 + (get_or ds i 0 - 48) ≡ digits_value 10 (take (i + 1) ds) = omega (arith, digits_value_more 10 ds i h, digit_value_digit (get_or ds i 0) here) in
    record { digit = here.0; value = more; room = omega (arith, more, digits_value-take-le 10 ds (i + 1) (omega arith), size_room ds p.1 d) }

pub size-done : (ds : List ℕ) (i n : ℕ) → digits_ok ds ≡ true → length ds ≤ i → n ≡ digits_value 10 (take i ds) → (Some n ≡ size_of ds) × (n ≤ 9999)
size-done ds i n ok end is =
    let p = plain-digits ds ok in
    let worth = is ∙ ap (digits_value 10) (take_all i ds end) in
    (ap Some worth ∙ sym (cond-true _ _ _ ok), omega (arith, size_room ds p.1 (own.to ds p.2)))

-- o is what the bytes after the minus are worth
pub numeral-minus : (bs : List ℕ) (o : Option ℕ) → get_or bs 0 0 ≡ 45 → o ≡ size_of (take (length bs - 1) (drop 1 bs)) → below_zero o ≡ numeral bs
numeral-minus bs o first is =
    ap below_zero (is ∙ ap size_of (take_rest bs 1)) ∙ sym (cond-true _ _ _ (eq-eqb _ 45 first))

pub minus-some : (bs : List ℕ) (n : ℕ) (z : ℤ) → get_or bs 0 0 ≡ 45 → Some n ≡ size_of (take (length bs - 1) (drop 1 bs)) → z ≡ pos n → (n ≡ 0 → ⊥) → n ≤ 9999 → Some (to_z w16 (of_z w16 (pos 0 -ℤ to_z w16 (of_z w16 z)))) ≡ numeral bs
minus-some bs n z first is same some few =
    let sign : to_z w16 (of_z w16 (pos 0 -ℤ to_z w16 (of_z w16 (pos n)))) ≡ neg_ℤ (pos n) = omega (arith, ints) in
    ap (λ y. Some (to_z w16 (of_z w16 (pos 0 -ℤ to_z w16 (of_z w16 y))))) same ∙ ap Some sign ∙ sym (cond-false _ _ _ (ne_eqb n 0 some)) ∙ numeral-minus bs (Some n) first is

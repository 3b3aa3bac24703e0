-- Numbers as they are written, and the numerals that read them back. Assumes nothing.
use Rattle.std.proofs.Common.{◌≡◌, ℕ, zero, suc, ◌≤◌, true, false, eqb, List, [], ◌∷◌, length, get_or, drop, ℤ, pos, negsuc, Some, None, decimal, Option, sym, refl, ap, ◌∙◌, subst, ⊎_elim, arith}
use Rattle.std.specs.Option.{option_map}
use Rattle.std.specs.Str.Parse.{AllDigits, digits_value}
use Rattle.std.specs.Int.{IsInRange}
use Rattle.std.specs.Fmt.{signed_decimal}
use Rattle.std.specs.List.{AllByRecursion}
use Rattle.std.proofs.lemmas.Fmt.{decimal-digits_value, decimal_digit, decimal_nonempty, length-decimal-le, first_decimal, digits_decimal, digits_value-decimal}
use Rattle.std.proofs.lemmas.Str.Parse.{digits_value_short, digit_from_value, digit_at}
use Rattle.std.proofs.lemmas.Bool.{cond-true, cond-false, cases_Bool, and_parts, or_cases, leb-true, not-true, eqb-true, eqb-false, ne_eqb}
use Rattle.std.proofs.lemmas.Bool.Decides.{nat_tests}
use Rattle.std.proofs.lemmas.Option.{none-some, same_Some}
use Rattle.book.specs.Bytes.{numeric}
use Rattle.book.specs.Grammar.{Short}
use Rattle.book.specs.Numerals.{digits_ok, size_of, below_zero, numeral}
use Rattle.book.proofs.Clash.{some-cond}
use Rattle.book.proofs.Digital.{own, size-good}

size-sound : (ds : List ℕ) (n : ℕ) → Some n ≡ size_of ds → (ds ≡ decimal n) × (n ≤ 9999)
size-sound ds n e =
    let p = some-cond n (digits_ok ds) (Some (digits_value 10 ds)) e in
    let same = same_Some _ _ p.1 in
    let a = and_parts _ _ p.0 in
    let b = and_parts _ _ a.1 in
    let c = and_parts _ _ b.1 in
    let few = leb-true (length ds) 4 b.0 in
    let some = leb-true 1 (length ds) a.0 in
    let lead : get_or ds 0 0 ≡ 48 → length ds ≡ 1 =
    λ h. ⊎_elim (λ one. omega (arith, leb-true (length ds) 1 one)) (λ other. absurd (eqb-false _ _ (not-true _ other) h)) (or_cases _ _ c.0)
    in
    let small = digits_value_short own ds 4 c.1 few in
    (sym (ap decimal same ∙ decimal-digits_value own ds c.1 some lead (omega arith)), omega arith)

size-complete : (n : ℕ) → n ≤ 9999 → size_of (decimal n) ≡ Some n
size-complete zero few = ap size_of (decimal_digit 0 (omega arith))
size-complete (suc m) few =
    let first = first_decimal (suc m) (omega arith) (omega arith) in
    sym (size-good (decimal (suc m)) (decimal_nonempty (suc m) (omega arith)) (length-decimal-le 4 (suc m) (omega arith) (omega arith) (omega arith)) (λ h. omega arith) (own.to _ (digits_decimal own (suc m) (omega arith)))) ∙ ap Some (digits_value-decimal own (suc m) (omega arith))

above_zero : (m : ℕ) → eqb (suc m) 0 ≡ false
above_zero m = ne_eqb (suc m) 0 (λ (h : suc m ≡ 0). omega arith)

minus-sound : (bs : List ℕ) (o : Option ℕ) (z : ℤ) → get_or bs 0 0 ≡ 45 → size_of (drop 1 bs) ≡ o → Some z ≡ below_zero o → (bs ≡ signed_decimal z) × Short z
minus-sound bs None z first is e = absurd (none-some z (sym e))
minus-sound [] (Some n) z first is e = absurd (omega arith)
minus-sound (b ∷ bs) (Some zero) z first is e = absurd (none-some z (sym e))
minus-sound (b ∷ bs) (Some (suc m)) z first is e =
    let same : z ≡ negsuc m = same_Some z (negsuc m) (e ∙ cond-false _ _ _ (above_zero m)) in
    let s = size-sound bs (suc m) (sym is) in
    subst (λ y. (b ∷ bs ≡ signed_decimal y) × Short y) (sym same) ((λ i. first i ∷ s.0 i), omega arith)

plain-sound : (bs : List ℕ) (o : Option ℕ) (z : ℤ) → size_of bs ≡ o → Some z ≡ option_map pos o → (bs ≡ signed_decimal z) × Short z
plain-sound bs None z is e = absurd (none-some z (sym e))
plain-sound bs (Some n) z is e =
    subst (λ y. (bs ≡ signed_decimal y) × Short y) (sym (same_Some z (pos n) e)) (size-sound bs n (sym is))

-- a numeral is its number as it is written
pub numeral-sound : (bs : List ℕ) (z : ℤ) → Some z ≡ numeral bs → (bs ≡ signed_decimal z) × Short z
numeral-sound bs z e =
    ⊎_elim
    (λ d. minus-sound bs (size_of (drop 1 bs)) z (eqb-true _ _ d) refl (e ∙ cond-true _ _ _ d))
    (λ d. plain-sound bs (size_of bs) z refl (e ∙ cond-false _ _ _ d))
    (cases_Bool (eqb (get_or bs 0 0) 45))

-- a written number is read back
pub numeral-complete : (z : ℤ) → Short z → numeral (signed_decimal z) ≡ Some z
numeral-complete (pos n) few =
    let first : IsInRange 48 57 (get_or (decimal n) 0 0) = digit_at (decimal n) 0 (own.to _ (digits_decimal own n (omega arith))) (decimal_nonempty n (omega arith)) in
    cond-false _ _ _ (ne_eqb (get_or (decimal n) 0 0) 45 (λ (h : get_or (decimal n) 0 0 ≡ 45). omega arith)) ∙ ap (option_map pos) (size-complete n few)
numeral-complete (negsuc m) few = ap below_zero (size-complete (suc m) (omega arith)) ∙ cond-false _ _ _ (above_zero m)

digits_numeric : (ds : List ℕ) → AllDigits 10 ds → AllByRecursion (λ b. numeric b ≡ true) ds
digits_numeric [] h = tt
digits_numeric (c ∷ cs) h = let d = digit_from_value c h.0 in (grind (arith, nat_tests), digits_numeric cs h.1)

-- a written number is a run of digits and minus signs
pub signed_numeric : (z : ℤ) → Short z → AllByRecursion (λ b. numeric b ≡ true) (signed_decimal z) × (length (signed_decimal z) ≡ 0 → ⊥)
signed_numeric (pos n) few =
    let some = decimal_nonempty n (omega arith) in
    (digits_numeric _ (own.to _ (digits_decimal own n (omega arith))), λ none. omega arith)
signed_numeric (negsuc m) few = ((refl, digits_numeric _ (own.to _ (digits_decimal own (suc m) (omega arith)))), λ none. omega arith)

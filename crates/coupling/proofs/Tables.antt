-- A table of sets of numbers. Assumes nothing.
use Rattle.std.proofs.Common.{◌≡◌, ◌≢◌, ◌<◌, ℕ, Bool, cond, ◌&&◌, eqb, List, length, get_or, set, ap, ◌∙◌, ⊎_elim, arith}
use Rattle.std.proofs.lemmas.Bool.{cases_eq}
use Rattle.std.proofs.lemmas.Bool.Decides.{nat_tests}
use Rattle.std.proofs.lemmas.List.{get_or-set_same, get_or-set_other, get_or_default}
use Rattle.sets.specs.declared.number_set.NumberSet.{NumberSet}
use Rattle.sets.specs.Numbers.{with_number}
use Rattle.sets.specs.NumberSet.{members, empty}

-- a number is put into one set of a table, or taken out
pub table_put : (xs : List NumberSet) (at k number : ℕ) (on : Bool) (new d : NumberSet) → at < length xs → members new ≡ with_number (members (get_or xs at d)) number on → (i : ℕ) → members (get_or (set xs at new) k empty) i ≡ cond (eqb k at && eqb i number) on (members (get_or xs k empty) i)
table_put xs at k number on new d within is i =
    ⊎_elim
    (λ (e : k ≡ at).
    let there = ap (λ s. members s i) (ap (λ k. get_or (set xs at new) k empty) e ∙ get_or-set_same xs at new empty within) in
    let put = ap (λ s. s i) (is ∙ ap (λ s. with_number (members s) number on) (get_or_default xs at d empty within)) in
    let same = ap (λ k. members (get_or xs k empty) i) e in
    grind (arith, nat_tests))
    (λ (ne : k ≢ at). let other = ap (λ s. members s i) (get_or-set_other xs at k new empty ne) in grind (arith, nat_tests))
    (cases_eq k at)

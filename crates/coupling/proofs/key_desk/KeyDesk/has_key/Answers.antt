-- No key past the reach of its row is set, so none is looked at.
use Rattle.std.proofs.Common.{◌≡◌, ◌≤◌, ℕ, true, false, sym, refl, ap, ◌∙◌, ⊎_elim, rules, arith}
use Rattle.std.proofs.lemmas.Bool.{cases_Bool}
use Rattle.std.proofs.lemmas.Iterator.{YieldsList-from_range}
use Rattle.std.proofs.lemmas.Iterator.Search.{any_from_yields_List}
use Rattle.sets.specs.NumberSet.{members}
use Rattle.coupling.specs.Some.{some}
use Rattle.coupling.specs.KeyDesk.{register}
use Rattle.coupling.proofs.Some.{some_of_range, some-past}
use Rattle.coupling.proofs.key_desk.KeyDesk.has_key.Goals as goal

pub returns : goal.returns
returns c =
    let h = c.args.self.now in
    let row = c.args.row in
    let keys = members c.row-keys.result in
    let reach = c.of.result in
    let past : (k : ℕ) → reach ≤ k → register h row k ≡ false = λ k l. ⊎_elim (λ (is : register h row k ≡ true). absurd (let low = h.held row k is in omega (arith, low, c.of.ensures.value))) (λ (no : register h row k ≡ false). no) (cases_Bool (register h row k)) in
    any_from_yields_List keys _ _ _ c.any.ensures.ran (YieldsList-from_range 0 reach reach refl (omega arith)) (λ x b q k. search rules)
    ∙ some_of_range reach keys
    ∙ ap (some reach) c.row-keys.ensures
    ∙ sym (some-past reach 128 (register h row) c.of.ensures.bound past)

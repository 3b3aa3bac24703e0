-- One place of one row is put.
use Rattle.std.proofs.Common.{◌≡◌, ◌<◌, ℕ, Bool, true, false, cond, ◌&&◌, eqb, get_or, set, sym, ap, ◌∙◌, ⊎_elim, subst}
use Rattle.std.proofs.lemmas.Bool.{cases_Bool, eqb-true, ltb-true, and_parts}
use Rattle.std.proofs.lemmas.List.{length-set}
use Rattle.chest.specs.Reaches.{reaches_of}
use Rattle.chest.specs.Places.{put}
use Rattle.sets.specs.declared.number_set.NumberSet.{NumberSet}
use Rattle.sets.specs.Numbers.{with_number}
use Rattle.sets.specs.NumberSet.{members, empty}
use Rattle.coupling.specs.declared.key_desk.KeyDesk.{KeyDesk}
use Rattle.coupling.specs.KeyDesk.{layout_of, own, register}
use Rattle.coupling.proofs.Tables.{table_put}
use Rattle.coupling.proofs.Boards.{put-there}
use Rattle.coupling.proofs.key_desk.KeyDesk.put.Goals as goal

-- the rows after the place is put
rows : (h : KeyDesk) (row place : ℕ) (on : Bool) (new d : NumberSet) → row < 16 → members new ≡ with_number (members (get_or h.keys row d)) place on → (r p : ℕ) → members (get_or (set h.keys row new) r empty) p ≡ put (register h) row place on r p
rows h row place on new d within is r p =
    table_put h.keys row r place on new d (subst (λ n. row < n) (sym h.manual) within) is p

-- all are below the reach
below : (h : KeyDesk) (row place : ℕ) (on : Bool) → place < reaches_of h.reaches row → (r p : ℕ) → put (register h) row place on r p ≡ true → p < reaches_of h.reaches r
below h row place on low r p is =
    ⊎_elim
    (λ (e : (eqb r row && eqb p place) ≡ true).
    let here : r ≡ row = eqb-true r row (and_parts (eqb r row) (eqb p place) e).0 in
    let same : p ≡ place = eqb-true p place (and_parts (eqb r row) (eqb p place) e).1 in
    subst (λ x. p < reaches_of h.reaches x) (sym here) (subst (λ x. x < reaches_of h.reaches row) (sym same) low))
    (λ (e : (eqb r row && eqb p place) ≡ false). h.held r p (sym (ap (λ x. cond x on (register h r p)) e) ∙ is))
    (cases_Bool (eqb r row && eqb p place))

pub invariant_of-self : goal.invariant_of-self
invariant_of-self c =
    let h = c.args.self.now in
    let at = c.args.at in
    let low : at.place < own h at.row = ltb-true at.place (own h at.row) (sym c.has.ensures ∙ c.if-has.true) in
    record {
      manual = length-set h.keys at.row c.with.result ∙ h.manual;
      held = λ r p is. below h at.row at.place c.args.on low r p (sym (rows h at.row at.place c.args.on c.with.result c.index-self-at.result at.row_in (c.with.ensures.value at.place_in) r p) ∙ is);
    }

pub returns-then-has : goal.returns-then-has
returns-then-has c = λ image.
    let h = c.args.self.now in
    let at = c.args.at in
    let l = layout_of h image in
    let low : at.place < own h at.row = ltb-true at.place (own h at.row) (sym c.has.ensures ∙ c.if-has.true) in
    (λ i. record { reach = l.reach; below = l.below; panel = l.panel; register = λ r p. rows h at.row at.place c.args.on c.with.result c.index-self-at.result at.row_in (c.with.ensures.value at.place_in) r p i; image = image }) ∙ sym (put-there l at.row at.place c.args.on low)

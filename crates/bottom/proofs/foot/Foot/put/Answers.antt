use Rattle.std.proofs.Common.{◌≡◌, ◌+◌, ℕ, Result, Bool, cond, is_ok, nat_lt, Ok, Err, refl, true, false, ◌∙◌, sym, ap, arith}
use Rattle.std.specs.Bool.{beq}
use Rattle.std.proofs.lemmas.Bool.{ltb-true, false≢true, not-true, not-false}
use Rattle.chest.specs.declared.fault.ChestFault.{ChestFault}
use Rattle.chest.specs.declared.fault.ChestFault.TheVariants.{Row, Place}
use Rattle.chest.specs.Places.{put, changed}
use Rattle.chest.specs.Meaning.{with_register}
use Rattle.chest.specs.Reaches.{reaches_of, place_in}
use Rattle.chest.proofs.Calls.{put-still, set-done}
use Rattle.bottom.specs.Foot.{foot_meaning}
use Rattle.bottom.specs.PipeTable.{shown}
use Rattle.bottom.proofs.Counted.{changed-le, one-less, one-more}
use Rattle.bottom.proofs.Kept.{put-inside}
use Rattle.bottom.proofs.foot.Foot.put.Goals as goal
use Rattle.bottom.proofs.foot.Foot.put.Goals.{else-has-via-then-has+else-has-on, else-has-via-else-has}

-- a place that there is not is not put
refused : (reach : ℕ → ℕ) (row place : ℕ) → nat_lt place (reach row) ≡ false → is_ok (place_in reach row place) ≡ false
refused reach row place past = by (nat_lt row 16) (nat_lt place (reach row)) (Ok tt) (Err (Place row place)) (Err (Row row)) past refl refl where
  by : (a b : Bool) (x y z : Result Unit ChestFault) → b ≡ false → is_ok y ≡ false → is_ok z ≡ false → is_ok (cond a (cond b x y) z) ≡ false
  by true true x y z e f g = absurd (false≢true (sym e))
  by true false x y z e f g = f
  by false b x y z e f g = g

-- nor does one that stands so already change
pub returns-else-has-clause-after : goal.returns-else-has-clause-after
returns-else-has-clause-after c =
    let m = foot_meaning c.args.self.now in
    let at = c.args.pipe in
    elim c.else-has.branch [
      | else-has-via-then-has+else-has-on w ↦
          ap (with_register m) (put-still _ _ _ _ _ w.has-then-has.ensures (not-false _ w.if-has-on.false)) ∙ sym (set-done m at.row at.place c.args.on at.row_in (ltb-true at.place (m.reach at.row) (sym c.has.ensures ∙ w.if-has.true)))
      | else-has-via-else-has w ↦
          sym (ap (λ b. cond b (with_register m (put m.register at.row at.place c.args.on)) m) (refused m.reach at.row at.place (sym c.has.ensures ∙ w.if-has.false)))
    ]

-- one that is toggled takes the tables nearer or further apart
pub overflow_add-self : goal.overflow_add-self
overflow_add-self c = omega (arith, c.args.self.now.exact, changed-le (shown c.args.self.now.pipes.speaking) (shown c.args.self.now.pipes.set))

less : (c : goal.Then-has-on-2) → c.args.self.now.apart ≡ changed (shown c.args.self.now.pipes.speaking) (shown c.put.new.table) + 1
less c =
    sym c.args.self.now.exact
    ∙ one-less _ _ _ _ _ _ _ _ c.args.pipe.row_in c.args.pipe.place_in c.has-then-has.ensures (not-true (beq c.has-then-has.result c.args.on) c.if-has-on.true) c.put.ensures c.has-then-has-on.ensures c.if-has-on-2.true

pub overflow_sub-self : goal.overflow_sub-self
overflow_sub-self c = omega (arith, less c)

pub invariant_of-self-clause-exact : goal.invariant_of-self-clause-exact
invariant_of-self-clause-exact c = omega (arith, less c)

pub invariant_of-self-clause-inside : goal.invariant_of-self-clause-inside
invariant_of-self-clause-inside c =
    let self = c.args.self.now in
    let pipe = c.args.pipe in
    put-inside _ _ (reaches_of self.reaches) pipe.row pipe.place _ _ c.args.on c.put.ensures refl refl (ltb-true pipe.place (reaches_of self.reaches pipe.row) (sym c.has.ensures ∙ c.if-has.true)) self.inside

pub invariant_of-self-else-has-on-2-clause-inside : goal.invariant_of-self-else-has-on-2-clause-inside
invariant_of-self-else-has-on-2-clause-inside c =
    let self = c.args.self.now in
    let pipe = c.args.pipe in
    put-inside _ _ (reaches_of self.reaches) pipe.row pipe.place _ _ c.args.on c.put.ensures refl refl (ltb-true pipe.place (reaches_of self.reaches pipe.row) (sym c.has.ensures ∙ c.if-has.true)) self.inside

pub invariant_of-self-else-has-on-2-clause-exact : goal.invariant_of-self-else-has-on-2-clause-exact
invariant_of-self-else-has-on-2-clause-exact c =
    one-more _ _ _ _ _ _ _ _ c.args.pipe.row_in c.args.pipe.place_in c.has-then-has.ensures (not-true (beq c.has-then-has.result c.args.on) c.if-has-on.true) c.put.ensures c.has-then-has-on.ensures c.if-has-on-2.false
    ∙ ap (λ n. n + 1) c.args.self.now.exact

use Rattle.std.proofs.Common.{◌≡◌, ◌+◌, cond, is_ok, ◌∙◌, sym, ap, arith}
use Rattle.chest.specs.Places.{put, changed}
use Rattle.chest.specs.Meaning.{with_register}
use Rattle.chest.specs.Reaches.{reaches_of}
use Rattle.chest.proofs.Calls.{put-still}
use Rattle.bottom.specs.Foot.{foot_meaning}
use Rattle.bottom.specs.PipeTable.{shown}
use Rattle.bottom.proofs.Counted.{changed-le, one-less, one-more}
use Rattle.bottom.proofs.Kept.{put-inside}
use Rattle.bottom.proofs.foot.Foot.set.Goals as goal

-- a place that stands so already
pub returns-then-has-on-clause-after : goal.returns-then-has-on-clause-after
returns-then-has-on-clause-after c =
    let m = foot_meaning c.args.self.now in
    let there = c.in_ok-at.ensures in
    let still = put-still _ _ _ _ _ c.has.ensures c.if-has-on.true ∙ (λ i. put m.register (there.1 i) (there.2 i) c.args.on) in
    ap (with_register m) still
    ∙ sym (ap (λ a. cond (is_ok a) (with_register m (put m.register c.args.row c.args.place c.args.on)) m) there.0)

-- one that is toggled is below its reach, and takes the tables nearer or further apart
pub overflow_add-self : goal.overflow_add-self
overflow_add-self c = omega (arith, c.args.self.now.exact, changed-le (shown c.args.self.now.pipes.speaking) (shown c.args.self.now.pipes.set))

less : (c : goal.Then-has-on-2) → c.args.self.now.apart ≡ changed (shown c.args.self.now.pipes.speaking) (shown c.put.new.table) + 1
less c =
    sym c.args.self.now.exact
    ∙ one-less _ _ _ _ _ _ _ _ c.in_ok-at.at.row_in c.in_ok-at.at.place_in c.has.ensures c.if-has-on.false c.put.ensures c.has-2.ensures c.if-has-on-2.true

pub overflow_sub-self : goal.overflow_sub-self
overflow_sub-self c = omega (arith, less c)

pub invariant_of-self-clause-exact : goal.invariant_of-self-clause-exact
invariant_of-self-clause-exact c = omega (arith, less c)

pub invariant_of-self-clause-inside : goal.invariant_of-self-clause-inside
invariant_of-self-clause-inside c =
    let there = c.in_ok-at.ensures in
    put-inside _ _ (reaches_of c.args.self.now.reaches) _ _ _ _ c.args.on c.put.ensures there.1 there.2 there.3 c.args.self.now.inside

pub invariant_of-self-else-has-on-2-clause-inside : goal.invariant_of-self-else-has-on-2-clause-inside
invariant_of-self-else-has-on-2-clause-inside c =
    let there = c.in_ok-at.ensures in
    put-inside _ _ (reaches_of c.args.self.now.reaches) _ _ _ _ c.args.on c.put.ensures there.1 there.2 there.3 c.args.self.now.inside

pub invariant_of-self-else-has-on-2-clause-exact : goal.invariant_of-self-else-has-on-2-clause-exact
invariant_of-self-else-has-on-2-clause-exact c =
    one-more _ _ _ _ _ _ _ _ c.in_ok-at.at.row_in c.in_ok-at.at.place_in c.has.ensures c.if-has-on.false c.put.ensures c.has-2.ensures c.if-has-on-2.false
    ∙ ap (λ n. n + 1) c.args.self.now.exact

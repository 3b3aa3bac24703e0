use Rattle.std.proofs.Common.{ℕ, ap, arith}
use Rattle.std.proofs.lemmas.Bool.Decides.{nat_tests}
use Rattle.bottom.proofs.foot.Foot.turn.Goals as goal

pub invariant_of-self-clause-stands : goal.invariant_of-self-clause-stands
invariant_of-self-clause-stands c k =
    let is = ap (λ (f : ℕ → ℕ). f k) c.turn.ensures in
    let old = c.args.self.now.stands k in
    let low = c.in_ok-to.to.position_in in
    grind (arith, nat_tests)

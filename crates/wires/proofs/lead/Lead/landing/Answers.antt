use Rattle.std.proofs.Common.{arith, of_calls}
use Rattle.std.proofs.lemmas.Bool.Decides.{nat_tests}
use Rattle.wires.specs.Wires.{landing}
use Rattle.wires.proofs.lead.Lead.landing.Goals as goal

pub returns-in_err-raised-clause-place : goal.returns-in_err-raised-clause-place
unfolding landing
returns-in_err-raised-clause-place c =
    let low = c.args.below.now.low c.args.self.to in
    grind (arith, nat_tests, of_calls, c.checked_add.ensures, c.in_err-raised.ensures, c.from_residual.ensures)

pub returns-in_err-place-clause-place : goal.returns-in_err-place-clause-place
unfolding landing
returns-in_err-place-clause-place c = grind (arith, nat_tests, of_calls, c.in_ok-raised.ensures, c.checked_sub.ensures, c.in_err-place.ensures, c.from_residual-in_err-place.ensures)

pub returns-then-place-of-clause-place : goal.returns-then-place-of-clause-place
unfolding landing
returns-then-place-of-clause-place c = grind (arith, nat_tests, of_calls, c.in_ok-raised.ensures, c.in_ok-place.ensures, c.of.ensures.value, c.if-place-of.true)

pub returns-else-place-of-clause-place : goal.returns-else-place-of-clause-place
unfolding landing
returns-else-place-of-clause-place c = grind (arith, nat_tests, of_calls, c.in_ok-raised.ensures, c.in_ok-place.ensures, c.of.ensures.value, c.if-place-of.false)

use Rattle.std.proofs.Common.{Some, rules, arith}
use Rattle.console.specs.KnobTable.{home_of}
use Rattle.console.proofs.Homes.{home_at_all}
use Rattle.console.proofs.walks.reset_knobs.Goals as goal

pub returns : goal.returns
returns g c =
    let knobs = c.args.knobs.now in
    c.turn_knobs.ensures (λ k. Some (home_of knobs k)) (record { told = λ k o low is. search rules; positions = λ k n is. let low = home_at_all knobs k in grind arith })

use Rattle.std.proofs.Common.{rules}
use Rattle.console.specs.KnobTable.{homes_of}
use Rattle.console.proofs.Homes.{home_low}
use Rattle.console.proofs.walks.home_knobs.Goals as goal

pub returns : goal.returns
returns g c =
    let knobs = c.args.knobs.now in
    c.turn_knobs.ensures (homes_of knobs) (record { told = λ k o low is. search rules; positions = home_low knobs })

-- The answer for `Console::new`: cleared, turned home, strobed.
use Rattle.std.proofs.Common.{Some, refl, rules}
use Rattle.chest.specs.Places.{none}
use Rattle.chest.specs.Meaning.{Meaning, strobe_after, with_register}
use Rattle.chest.proofs.Walking.{stepped}
use Rattle.console.specs.KnobTable.{home_of}
use Rattle.console.specs.Walks.{knobs_turned}
use Rattle.console.proofs.Making.{makes}
use Rattle.console.proofs.console.Console.new.Goals as goal

pub returns : goal.returns
returns g c =
    let meaning = g.C.Chest.meaning in
    let settled = g.C.Chest.settled in
    let knobs = c.args.knobs in
    let cleared = with_register (meaning c.args.chest) none in
    let turned : Meaning → Meaning = λ x. knobs_turned x (λ k. Some (home_of knobs k)) 64 in
    makes g.met.C.Chest.quiet c.args.chest c.strobe.new.self knobs c.args.pistons c.released.result c.new-keys.result (g.met.C.Chest.bounded c.args.chest) (stepped meaning settled strobe_after (stepped meaning settled {x = cleared} turned (search rules) c.reset_knobs.ensures refl) c.strobe.ensures.after refl) c.released.ensures.scope c.released.ensures.frame c.new-keys.ensures

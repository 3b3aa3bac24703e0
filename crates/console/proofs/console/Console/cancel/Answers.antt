-- The answer for `Console::cancel`.
use Rattle.std.proofs.Common.{refl, ap}
use Rattle.console.specs.declared.call.Call.TheVariants.{Cancel}
use Rattle.console.specs.Model.{homed}
use Rattle.console.proofs.Follow.{panel-follows}
use Rattle.console.proofs.Panels.{homed-is}
use Rattle.console.proofs.console.Console.cancel.Goals as goal

pub returns : goal.returns
returns g c = λ s p t.
    let self = c.args.self.now in
    let m = g.C.Chest.meaning self.chest in
    let home = homed-is m s self.knobs p.panel (ap (λ x. x.steps) t.setup) (ap (λ x. x.home) t.setup) t.agrees.panel in
    panel-follows g.met.C.Chest.quiet Cancel c.strobe.result self.keys c.home_knobs.new.chest c.strobe.new.self t refl refl c.strobe.ensures.after c.strobe.ensures.answer (homed s p.panel) refl refl c.home_knobs.ensures home

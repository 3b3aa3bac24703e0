-- The answers for `Console::capture`.
use Rattle.std.proofs.Common.{Ok, sym, ap, ◌∙◌}
use Rattle.console.specs.Model.{piston_check}
use Rattle.console.proofs.Captures.{capture_follows}
use Rattle.console.proofs.console.Console.capture.Goals as goal

pub returns : goal.returns
returns g c =
    let q = c.args.piston in
    record {
      follows = λ s p t. capture_follows g.met.C.Chest.quiet q c.store.new.self c.positions-positions.result t (g.met.C.Chest.bounded c.args.self.now.chest) (ap (λ o. piston_check o q (Ok tt)) (sym (ap (λ x. x.scope q) t.setup) ∙ sym c.scope.ensures ∙ c.in_ok-ok_or.ensures.ok_part)) c.positions-positions.ensures.value c.store.ensures.scope c.store.ensures.there c.store.ensures.others;
      same = tt;
    }

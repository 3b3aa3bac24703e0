-- The answers for `Console::clear`.
use Rattle.std.proofs.Common.{refl, ap, ◌∙◌, arith}
use Rattle.std.proofs.lemmas.Bool.Decides.{nat_tests}
use Rattle.console.specs.declared.call.Call.TheVariants.{Clear}
use Rattle.console.specs.Keys.{cleared}
use Rattle.console.proofs.Follow.{row_follows, held-cleared, others_cleared, fewer_cleared}
use Rattle.console.proofs.console.Console.clear.Goals as goal

pub returns : goal.returns
returns g c =
    let d = c.args.division in
    record {
      follows = λ s p t. row_follows g.met.C.Chest.quiet (Clear d) c.strobe.result c.clear.new.self c.show_row.new.chest c.strobe.new.self t (grind (arith, nat_tests)) refl c.strobe.ensures.after c.strobe.ensures.answer (cleared p.keys d) d (g.met.C.Chest.bounded c.args.self.now.chest) refl (c.clear.ensures ∙ ap (λ x. cleared x d) t.keys) (held-cleared p.keys d t.sane.held) (others_cleared p.keys d) (fewer_cleared p.keys d) c.show_row.ensures;
      same = tt;
    }

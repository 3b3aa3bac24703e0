-- The answers for `Console::lift`: refusals, and a key that goes up.
use Rattle.std.proofs.Common.{Err, refl, ap, ◌∙◌, arith}
use Rattle.std.proofs.lemmas.Result.{err_from_is_err_and}
use Rattle.std.proofs.lemmas.Bool.Decides.{nat_tests}
use Rattle.console.specs.declared.call.Call.TheVariants.{Lift}
use Rattle.console.specs.Keys.{lifted, sounding}
use Rattle.console.proofs.Steps.{unchanged}
use Rattle.console.proofs.Follow.{key_refused, key_follows, others_lifted}
use Rattle.console.proofs.console.Console.lift.Goals as goal

pub returns-in_err-at : goal.returns-in_err-at
returns-in_err-at g c =
    let e = err_from_is_err_and c.from_residual.result c.from_residual.ensures.1 in
    record {
      follows = λ s p t. key_refused g.met.C.Chest.quiet (Lift c.args.division c.args.key) c.args.division c.args.key _ c.in_err-at.field-0.0 c.from_residual.result t refl (e.1 ∙ ap Err e.2) c.in_err-at.ensures.refused;
      same = unchanged c.from_residual.result c.args.self.now;
    }

pub returns : goal.returns
returns g c =
    let d = c.args.division in
    let k = c.args.key in
    let at = c.in_ok-at.ensures.passed in
    let low = c.in_ok-at.at.row_in in
    record {
      follows = λ s p t.
          let reach = ap (λ x. x.reach d) t.setup in
          let down = c.is_down.ensures ∙ (λ i. (t.keys i).down (at.0 i) (at.1 i)) in
          let keys = c.lift.ensures ∙ (λ i. lifted (t.keys i) (at.0 i) (at.1 i)) in
          key_follows g.met.C.Chest.quiet (Lift d k) c.strobe.result c.lift.new.self c.set.new.self c.strobe.new.self t (grind (arith, nat_tests)) refl c.strobe.ensures.after c.strobe.ensures.answer (lifted p.keys d k) d k c.sets-sounds.result refl keys t.sane.held (omega arith) at.2 (c.sets-sounds.ensures ∙ (λ i. sounding (keys i) (at.0 i) (at.1 i))) (others_lifted p.keys d k) c.set.ensures.after;
      same = tt;
    }

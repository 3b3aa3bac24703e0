-- The answers for `Console::turn`.
use Rattle.std.proofs.Common.{sym, refl, ap, ◌∙◌, arith}
use Rattle.chest.specs.Meaning.{Panel, with_panel, knob_to}
use Rattle.chest.proofs.Calls.{turn_done}
use Rattle.console.specs.declared.call.Call.TheVariants.{Turn}
use Rattle.console.specs.declared.fault.PlayFault.TheVariants.{Position}
use Rattle.console.proofs.Steps.{refused_follows}
use Rattle.console.proofs.Follow.{panel-follows}
use Rattle.console.proofs.Panels.{knob_passes, knob_fails}
use Rattle.console.proofs.console.Console.turn.Goals as goal

pub returns-then-position-steps : goal.returns-then-position-steps
returns-then-position-steps g c =
    let k = c.args.knob in
    let q = c.args.position in
    record {
      follows = λ s p t. refused_follows g.met.C.Chest.quiet (Turn k q) (Position k q) _ t refl (knob_fails (s.steps k) k q c.in-Some.steps (sym (ap (λ x. x.steps k) t.setup) ∙ sym c.in-Some.ensures.value) c.if-position-steps.true);
      same = refl;
    }

pub returns : goal.returns
returns g c =
    let k = c.args.knob in
    let q = c.args.position in
    let m = g.C.Chest.meaning c.args.self.now.chest in
    let low = c.in-Some.ensures.bound in
    let done = turn_done m k q low.0 (omega arith) in
    record {
      follows = λ s p t.
          let passes = knob_passes (s.steps k) k q c.in-Some.steps (sym (ap (λ x. x.steps k) t.setup) ∙ sym c.in-Some.ensures.value) c.if-position-steps.false in
          panel-follows g.met.C.Chest.quiet (Turn k q) c.strobe.result c.args.self.now.keys c.turn.new.self c.strobe.new.self t passes refl c.strobe.ensures.after c.strobe.ensures.answer (knob_to p.panel k q) refl refl c.turn.ensures.after (done ∙ ap (λ (f : Panel). with_panel m (knob_to f k q)) t.agrees.panel);
      same = tt;
    }

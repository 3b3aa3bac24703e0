-- The answers for `Console::recall`.
use Rattle.std.proofs.Common.{ℕ, cond, get_or, is_some, Ok, Err, Option, sym, refl, ap, ◌∙◌}
use Rattle.std.specs.Option.{option_map}
use Rattle.std.proofs.lemmas.Result.{err_from_is_err_and}
use Rattle.console.specs.declared.call.Call.TheVariants.{Recall}
use Rattle.console.specs.declared.fault.PlayFault.TheVariants.{NeverCaptured}
use Rattle.console.specs.Model.{piston_check, recalled, memory, Memory}
use Rattle.console.proofs.Steps.{refused_follows, unchanged, missing}
use Rattle.console.proofs.Follow.{panel-follows}
use Rattle.console.proofs.Panels.{recalled-is, memory_is}
use Rattle.console.proofs.console.Console.recall.Goals as goal

pub returns-in_err-frame-clause-same : goal.returns-in_err-frame-clause-same
returns-in_err-frame-clause-same g c = unchanged c.from_residual-in_err-frame.result c.args.self.now

pub returns-in_err-frame-clause-follows : goal.returns-in_err-frame-clause-follows
returns-in_err-frame-clause-follows g c = λ s p t.
    let q = c.args.piston in
    let e = err_from_is_err_and c.from_residual-in_err-frame.result c.from_residual-in_err-frame.ensures.1 in
    let fault = missing c.frame.result c.in_err-frame.field-0.0 (NeverCaptured q) c.in_err-frame.ensures.value in
    let scope = sym (ap (λ x. x.scope q) t.setup) ∙ sym c.scope.ensures ∙ c.in_ok-scope.ensures.ok_part in
    let never = sym (ap (λ (f : ℕ → Option Memory). f q) t.stored) ∙ ap (option_map (λ frame. memory s (λ k. get_or frame k 0) q)) (sym c.frame.ensures ∙ c.in_err-frame.ensures.ok_part) in
    refused_follows g.met.C.Chest.quiet (Recall q) (NeverCaptured q) _ t (e.1 ∙ ap Err (e.2 ∙ fault)) (λ i. piston_check (scope i) q (cond (is_some (never i)) (Ok tt) (Err (NeverCaptured q))))

pub returns : goal.returns
returns g c =
    let q = c.args.piston in
    let self = c.args.self.now in
    let m = g.C.Chest.meaning self.chest in
    let taken = c.in_ok-scope.scope in
    let frame = c.in_ok-frame.frame in
    record {
      follows = λ s p t.
          let scope = sym (ap (λ x. x.scope q) t.setup) ∙ sym c.scope.ensures ∙ c.in_ok-scope.ensures.ok_part in
          let stored = sym (ap (λ (f : ℕ → Option Memory). f q) t.stored) ∙ ap (option_map (λ frame. memory s (λ k. get_or frame k 0) q)) (sym c.frame.ensures ∙ c.in_ok-frame.ensures.ok_part) in
          let steps = ap (λ x. x.steps) t.setup in
          let same = memory_is s q self.knobs taken frame steps scope in
          let turned = c.recall_knobs.ensures (λ k n h. t.sane.stored q k n (memory s (λ k. get_or frame k 0) q) stored (sym (ap (λ (f : Memory). f k) same) ∙ h)) in
          panel-follows g.met.C.Chest.quiet (Recall q) c.strobe.result self.keys c.recall_knobs.new.chest c.strobe.new.self t (λ i. piston_check (scope i) q (cond (is_some (stored i)) (Ok tt) (Err (NeverCaptured q)))) refl c.strobe.ensures.after c.strobe.ensures.answer (recalled (p.stored q) p.panel) refl refl turned (recalled-is m s q self.knobs taken frame p.panel (p.stored q) steps scope stored t.agrees.panel);
      same = tt;
    }

-- The answers for `play`: no call yet, one call more, and all calls.
use Rattle.std.proofs.Common.{[], ◌∷◌, ◌++◌, get_or, sym, refl, ap, ◌∙◌, append_assoc, append-nil, arith}
use Rattle.std.proofs.lemmas.List.{take_more, take_all}
use Rattle.console.specs.declared.call.Call.TheVariants.{Press}
use Rattle.console.proofs.Records.{recorded_none, recorded_more}
use Rattle.console.proofs.play.play.Goals as goal

pub loop-call-init : goal.loop-call-init
loop-call-init g c =
    (omega (arith, c.in_ok-reserve.ensures.ok), ([], sym (append-nil _), λ s p t. recorded_none t))

pub loop-call-preserved : goal.loop-call-preserved
loop-call-preserved g c =
    let calls = c.args.calls.now in
    let i = c.loop-call.call-index in
    let old = c.loop-call.invariant.1 in
    let items = c.push_reserved.ensures.items ∙ ap (λ xs. xs ++ c.perform.result ∷ []) old.1 ∙ append_assoc _ old.0 (c.perform.result ∷ []) in (
      omega (arith, c.push_reserved.ensures.len, c.push_reserved.ensures.capacity, c.loop-call.invariant.0),
      (
        old.0 ++ c.perform.result ∷ [],
        items,
        λ s p t.
            rw (take_more calls i (Press 0 0) c.loop-call-test.true) (recorded_more {d = c.loop-call.console} {e = c.perform.new.self} (get_or calls i (Press 0 0)) c.perform.result (old.2 s p t) c.perform.ensures.follows),
      ),
    )

pub returns : goal.returns
returns g c =
    let calls = c.args.calls.now in
    let all = c.loop-call.invariant.1 in
    record {
      plays = (
        all.0,
        all.1 ∙ ap (λ xs. xs ++ all.0) c.reserve.ensures.items,
        λ settled.
            let made = c.new-console.ensures settled in
            record { made = c.new-console.result; making = made.0; recorded = rw (take_all c.loop-call.call-index calls c.loop-call-test.false) at (all.2 _ _ made.1) },
      );
      same = tt;
      succeeds = λ h. refl;
    }

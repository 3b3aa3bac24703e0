-- Both boards are made, and each takes its wires.
use Rattle.std.proofs.Common.{◌≡◌, Ok, Err, sym, refl, ap, ◌∙◌, subst}
use Rattle.std.proofs.lemmas.Result.{err_from_is_err_and}
use Rattle.chest.specs.Reaches.{reach_of}
use Rattle.board.specs.Relay.{meaning_of}
use Rattle.board.proofs.Made.{made_bare}
use Rattle.organ.specs.Assembly.{Assembles, hang_all}
use Rattle.organ.specs.Pass.{earlier_of}
use Rattle.organ.proofs.Stacks.{Hangs, runs, hangs}
use Rattle.organ.proofs.assembly.hang.Goals as goal

pub returns-in_err-earlier : goal.returns-in_err-earlier
returns-in_err-earlier g c = λ start.
    let meaning = g.C.Chest.meaning in
    let settled = g.C.Chest.settled in
    let keys = reach_of c.args.reaches in
    let m = meaning c.args.bottom in
    let ws = c.args.wires.now in
    let s0 = c.new-stops.result in
    let s1 = c.fit_all-stop.new.board in
    let c0 = c.new-couplers.result in
    let c1 = c.fit_all-coupler.new.board in
    let f = runs keys m ws c.args.reaches s0 s1 c0 c1 refl (made_bare s0.coupling c.args.reaches (meaning s0.below) c.new-stops.ensures.items c.new-stops.ensures.bare) (c.new-stops.ensures.cleared start).1 (c.new-stops.ensures.after start).0 c.fit_all-stop.ensures.reach c.fit_all-stop.ensures.below c.fit_all-stop.ensures.settled (made_bare c0.coupling c.args.reaches (meaning_of meaning c0.below) c.new-couplers.ensures.items c.new-couplers.ensures.bare) c.new-couplers.ensures.cleared (λ s. (c.new-couplers.ensures.after s).0) c.fit_all-coupler.ensures.below c.fit_all-coupler.ensures.settled in
    let p = err_from_is_err_and c.from_residual.result c.from_residual.ensures.1 in
    let verdict : earlier_of c.fit_all-coupler.result c.fit_all-stop.result ≡ Err p.0 = sym c.earlier.ensures ∙ c.in_err-earlier.was ∙ ap Err (sym p.2) in
    subst (Assembles meaning settled keys m (hang_all keys m ws)) (sym p.1) (subst (Hangs meaning settled keys m (hang_all keys m ws) c1) verdict (hangs keys m ws c.args.reaches s0 s1 c0 c1 f c.fit_all-coupler.result c.fit_all-stop.result c.fit_all-coupler.ensures.cases c.fit_all-stop.ensures.cases))

pub returns : goal.returns
returns g c = λ start.
    let meaning = g.C.Chest.meaning in
    let settled = g.C.Chest.settled in
    let keys = reach_of c.args.reaches in
    let m = meaning c.args.bottom in
    let ws = c.args.wires.now in
    let s0 = c.new-stops.result in
    let s1 = c.fit_all-stop.new.board in
    let c0 = c.new-couplers.result in
    let c1 = c.fit_all-coupler.new.board in
    let f = runs keys m ws c.args.reaches s0 s1 c0 c1 refl (made_bare s0.coupling c.args.reaches (meaning s0.below) c.new-stops.ensures.items c.new-stops.ensures.bare) (c.new-stops.ensures.cleared start).1 (c.new-stops.ensures.after start).0 c.fit_all-stop.ensures.reach c.fit_all-stop.ensures.below c.fit_all-stop.ensures.settled (made_bare c0.coupling c.args.reaches (meaning_of meaning c0.below) c.new-couplers.ensures.items c.new-couplers.ensures.bare) c.new-couplers.ensures.cleared (λ s. (c.new-couplers.ensures.after s).0) c.fit_all-coupler.ensures.below c.fit_all-coupler.ensures.settled in
    let verdict : earlier_of c.fit_all-coupler.result c.fit_all-stop.result ≡ Ok tt = sym c.earlier.ensures ∙ c.in_ok-earlier.was in
    subst (Hangs meaning settled keys m (hang_all keys m ws) c1) verdict (hangs keys m ws c.args.reaches s0 s1 c0 c1 f c.fit_all-coupler.result c.fit_all-stop.result c.fit_all-coupler.ensures.cases c.fit_all-stop.ensures.cases)

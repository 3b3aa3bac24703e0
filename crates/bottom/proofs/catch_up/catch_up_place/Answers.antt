use Rattle.std.proofs.Common.{◌≡◌, true, inl, inr, rules, arith}
use Rattle.std.proofs.lemmas.Bool.Decides.{nat_tests}
use Rattle.chest.specs.Places.{differ}
use Rattle.bottom.specs.PipeTable.{shown}
use Rattle.bottom.proofs.CatchUpLemmas.{place_stays, place_drained, none_more}
use Rattle.bottom.proofs.catch_up.catch_up_place.Goals as goal
use Rattle.bottom.proofs.catch_up.catch_up_place.Goals.{then-has-speaks-via-then-has-speaks, then-has-speaks-via-else-has-speaks+then-out-lt-MESSAGE}

pub returns-then-has-speaks-clause-after : goal.returns-then-has-speaks-clause-after
returns-then-has-speaks-clause-after c = λ start buffer front u.
    none_more _ _ start buffer _ front _ (place_stays _ start buffer c.args.at.row c.args.at.place c.args.at.place_in _ front _ u (elim c.then-has-speaks.branch [
      | then-has-speaks-via-then-has-speaks w ↦ inl (grind (arith, nat_tests))
      | then-has-speaks-via-else-has-speaks+then-out-lt-MESSAGE w ↦ inr w.if-out-lt-MESSAGE.true
    ]))

pub returns-clause-after : goal.returns-clause-after
returns-clause-after c =
    let pending : differ (shown c.args.sent.now c.args.at.row c.args.at.place) (shown c.args.speaking.now c.args.at.row c.args.at.place) ≡ true = grind (arith, nat_tests) in
    λ start buffer front u.
    place_drained _ start buffer c.args.at.row c.args.at.place c.args.at.place_in _ front _ u _ _ (search rules) (search rules) pending c.if-out-lt-MESSAGE.false

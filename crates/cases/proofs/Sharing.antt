-- Two stops of one rank under two held keys. Assumes nothing.
use Rattle.std.proofs.Common.{◌≡◌, ℕ, true, false, [], ◌∷◌, ◌++◌, Ok, sym, refl, ap, ◌∙◌, arith}
use Rattle.std.proofs.lemmas.Bool.Decides.{nat_tests}
use Rattle.chest.specs.Places.{none, put, total, changed}
use Rattle.wires.specs.Wires.{landing}
use Rattle.console.specs.declared.call.Call.TheVariants.{Press, Lift, Turn}
use Rattle.cases.specs.Organ.{stack, setup}
use Rattle.cases.specs.Playing.{AnswersSo}
use Rattle.cases.specs.Worked.{played, speaking_after, two_stops}
use Rattle.cases.proofs.Held.{held}
use Rattle.cases.proofs.Answering.{answers_so}
use Rattle.cases.proofs.Relay.{speaks, quiet}

low_speaks : speaking_after (Turn 0 1 ∷ Turn 1 1 ∷ Press 0 0 ∷ []) ≡ held ((0, 0) ∷ (0, 12) ∷ [])
unfolding landing
low_speaks = speaks (played (Turn 0 1 ∷ Turn 1 1 ∷ Press 0 0 ∷ [])) ((0, 0) ∷ []) (λ d k. grind (arith, nat_tests))

both-speak : speaking_after two_stops ≡ held ((0, 12) ∷ (0, 24) ∷ (0, 0) ∷ (0, 12) ∷ [])
unfolding landing
both-speak = speaks (played two_stops) ((0, 12) ∷ (0, 0) ∷ []) (λ d k. grind (arith, nat_tests))

lifted-speaks : speaking_after (two_stops ++ Lift 0 12 ∷ []) ≡ held ((0, 0) ∷ (0, 12) ∷ [])
unfolding landing
lifted-speaks = speaks (played (two_stops ++ Lift 0 12 ∷ [])) ((0, 0) ∷ []) (λ d k. grind (arith, nat_tests))

pub shared_rank : speaking_after two_stops ≡ put (put (put none 0 0 true) 0 12 true) 0 24 true
shared_rank = both-speak ∙ λ i r p. at r p i where
  at : (r p : ℕ) → held ((0, 12) ∷ (0, 24) ∷ (0, 0) ∷ (0, 12) ∷ []) r p ≡ put (put (put none 0 0 true) 0 12 true) 0 24 true r p
  at r p = grind (arith, nat_tests)

pub one_stops : speaking_after (two_stops ++ Lift 0 12 ∷ []) ≡ put (speaking_after two_stops) 0 24 false
one_stops = lifted-speaks ∙ (λ i r p. at r p i) ∙ ap (λ s. put s 0 24 false) (sym both-speak) where
  at : (r p : ℕ) → held ((0, 0) ∷ (0, 12) ∷ []) r p ≡ put (held ((0, 12) ∷ (0, 24) ∷ (0, 0) ∷ (0, 12) ∷ [])) 0 24 false r p
  at r p = grind (arith, nat_tests)

pub one_changes : changed (speaking_after two_stops) (speaking_after (two_stops ++ Lift 0 12 ∷ [])) ≡ 1
unfolding total
one_changes = λ i. changed (both-speak i) (lifted-speaks i)

pub shared_answers : AnswersSo setup stack (two_stops ++ Lift 0 12 ∷ []) (Ok 0 ∷ Ok 0 ∷ Ok 2 ∷ Ok 1 ∷ Ok 1 ∷ [])
unfolding total
shared_answers =
    answers_so setup stack _ _ λ i.
    Ok (changed (quiet [] refl i) (quiet (Turn 0 1 ∷ []) refl i))
    ∷ Ok (changed (quiet (Turn 0 1 ∷ []) refl i) (quiet (Turn 0 1 ∷ Turn 1 1 ∷ []) refl i))
    ∷ Ok (changed (quiet (Turn 0 1 ∷ Turn 1 1 ∷ []) refl i) (low_speaks i))
    ∷ Ok (changed (low_speaks i) (both-speak i))
    ∷ Ok (one_changes i)
    ∷ []

-- A piston that swaps two stops which feed one held pipe. Assumes nothing.
use Rattle.std.proofs.Common.{◌≡◌, true, [], ◌∷◌, ◌++◌, Ok, refl, arith}
use Rattle.std.proofs.lemmas.Bool.Decides.{nat_tests}
use Rattle.chest.specs.Places.{none, put, total, changed}
use Rattle.wires.specs.Wires.{landing}
use Rattle.console.specs.declared.call.Call.TheVariants.{Turn, Capture, Recall}
use Rattle.cases.specs.Organ.{stack, setup}
use Rattle.cases.specs.Playing.{AnswersSo}
use Rattle.cases.specs.Worked.{played, speaking_after, before_swap}
use Rattle.cases.proofs.Answering.{answers_so}
use Rattle.cases.proofs.Relay.{speaks, quiet}

pub swap_from : speaking_after before_swap ≡ put none 0 5 true
unfolding landing
swap_from = speaks (played before_swap) ((0, 5) ∷ []) (λ d k. grind (arith, nat_tests))

pub swap_to : speaking_after (before_swap ++ Recall 0 ∷ []) ≡ put none 0 5 true
unfolding landing
swap_to = speaks (played (before_swap ++ Recall 0 ∷ [])) ((0, 5) ∷ []) (λ d k. grind (arith, nat_tests))

pub none-changes : changed (speaking_after before_swap) (speaking_after (before_swap ++ Recall 0 ∷ [])) ≡ 0
unfolding total
none-changes = λ i. changed (swap_from i) (swap_to i)

pub swap_answers : AnswersSo setup stack (before_swap ++ Recall 0 ∷ []) (Ok 0 ∷ Ok 0 ∷ Ok 0 ∷ Ok 0 ∷ Ok 1 ∷ Ok 0 ∷ [])
unfolding total
swap_answers =
    answers_so setup stack _ _ λ i.
    Ok (changed (quiet [] refl i) (quiet (Turn 2 1 ∷ []) refl i))
    ∷ Ok 0
    ∷ Ok (changed (quiet (Turn 2 1 ∷ Capture 0 ∷ []) refl i) (quiet (Turn 2 1 ∷ Capture 0 ∷ Turn 2 0 ∷ []) refl i))
    ∷ Ok (changed (quiet (Turn 2 1 ∷ Capture 0 ∷ Turn 2 0 ∷ []) refl i) (quiet (Turn 2 1 ∷ Capture 0 ∷ Turn 2 0 ∷ Turn 0 1 ∷ []) refl i))
    ∷ Ok (changed (quiet (Turn 2 1 ∷ Capture 0 ∷ Turn 2 0 ∷ Turn 0 1 ∷ []) refl i) (swap_from i))
    ∷ Ok (none-changes i)
    ∷ []

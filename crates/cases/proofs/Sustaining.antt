-- A key under the sustain, lifted and pressed again. Assumes nothing.
use Rattle.std.proofs.Common.{◌≡◌, ℕ, true, [], ◌∷◌, ◌++◌, Ok, refl, ◌∙◌, arith}
use Rattle.std.proofs.lemmas.Bool.Decides.{nat_tests}
use Rattle.chest.specs.Places.{Places, none, put, total, changed}
use Rattle.wires.specs.Wires.{landing}
use Rattle.chest.specs.Meaning.{Meaning}
use Rattle.chest.proofs.Counts.{changed-same}
use Rattle.console.specs.declared.call.Call.TheVariants.{Press, Sustain, Turn}
use Rattle.console.specs.Keys.{sounding}
use Rattle.console.specs.Record.{pipes_of}
use Rattle.cases.specs.Organ.{stack, setup}
use Rattle.cases.specs.Playing.{AnswersSo}
use Rattle.cases.specs.Worked.{played, speaking_after, let_go}
use Rattle.cases.proofs.Answering.{answers_so}
use Rattle.cases.proofs.Relay.{speaks, quiet}

let_go-at : (d k : ℕ) → sounding (played let_go).keys d k ≡ put none 0 5 true d k
let_go-at d k = grind (arith, nat_tests)

again_at : (d k : ℕ) → sounding (played (let_go ++ Press 0 5 ∷ [])).keys d k ≡ put none 0 5 true d k
again_at d k = grind (arith, nat_tests)

pub sounds_on : sounding (played let_go).keys ≡ put none 0 5 true
sounds_on = λ i d k. let_go-at d k i

-- the same keys sound under the same panel, so no pipe changes
pub none-changes : (m : Meaning) → changed (pipes_of m (played let_go)) (pipes_of m (played (let_go ++ Press 0 5 ∷ []))) ≡ 0
none-changes m = (λ i. changed (rule (λ d k. let_go-at d k i)) (rule (λ d k. again_at d k i))) ∙ changed-same (rule (put none 0 5 true)) where
  rule : Places → Places
  rule = m.rule (played let_go).panel

pressed-speaks : speaking_after (Turn 0 1 ∷ Press 0 5 ∷ []) ≡ put none 0 5 true
unfolding landing
pressed-speaks = speaks (played (Turn 0 1 ∷ Press 0 5 ∷ [])) ((0, 5) ∷ []) (λ d k. grind (arith, nat_tests))

held-speaks : speaking_after (Turn 0 1 ∷ Press 0 5 ∷ Sustain 0 true ∷ []) ≡ put none 0 5 true
unfolding landing
held-speaks = speaks (played (Turn 0 1 ∷ Press 0 5 ∷ Sustain 0 true ∷ [])) ((0, 5) ∷ []) (λ d k. grind (arith, nat_tests))

let_go-speaks : speaking_after let_go ≡ put none 0 5 true
unfolding landing
let_go-speaks = speaks (played let_go) ((0, 5) ∷ []) let_go-at

pub sustain_answers : AnswersSo setup stack (let_go ++ Press 0 5 ∷ []) (Ok 0 ∷ Ok 1 ∷ Ok 0 ∷ Ok 0 ∷ Ok 0 ∷ [])
unfolding total
sustain_answers =
    answers_so setup stack _ _ λ i.
    Ok (changed (quiet [] refl i) (quiet (Turn 0 1 ∷ []) refl i))
    ∷ Ok (changed (quiet (Turn 0 1 ∷ []) refl i) (pressed-speaks i))
    ∷ Ok (changed (pressed-speaks i) (held-speaks i))
    ∷ Ok (changed (held-speaks i) (let_go-speaks i))
    ∷ Ok (none-changes stack i)
    ∷ []

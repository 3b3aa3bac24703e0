-- The pipes of the small organ by the keys that sound. Assumes nothing.
use Rattle.std.proofs.Common.{◌≡◌, ℕ, List, [], ap, ◌∙◌}
use Rattle.chest.specs.Places.{none}
use Rattle.chest.specs.Meaning.{Panel}
use Rattle.wires.specs.Wires.{image}
use Rattle.console.specs.declared.call.Call.{Call}
use Rattle.console.specs.Keys.{sounding}
use Rattle.console.specs.Model.{Model, first}
use Rattle.console.specs.Record.{pipes_of}
use Rattle.cases.specs.Organ.{keys, ranks, hung, stack, setup}
use Rattle.cases.specs.Worked.{played, speaking_after}
use Rattle.cases.proofs.Held.{held, all_outlets, image-held}

-- the pipes to which the stack leads from keys
abbrev pub spoken : Panel → List (ℕ × ℕ) → List (ℕ × ℕ)
spoken panel ks = all_outlets ranks panel hung.stops (all_outlets keys panel hung.couplers ks)

-- where just these keys sound, just those pipes speak
pub speaks : (p : Model) (ks : List (ℕ × ℕ)) → ((d k : ℕ) → sounding p.keys d k ≡ held ks d k) → pipes_of stack p ≡ held (spoken p.panel ks)
speaks p ks e =
    (λ i. stack.rule p.panel (λ d k. e d k i))
    ∙ ap (image ranks hung.stops p.panel) (image-held keys p.panel hung.couplers ks)
    ∙ image-held ranks p.panel hung.stops (all_outlets keys p.panel hung.couplers ks)

-- no pipe speaks before a key is pressed
pub quiet : (calls : List Call) → (played calls).keys ≡ (first setup).keys → speaking_after calls ≡ none
quiet calls e = speaks (played calls) [] (λ d k. ap (λ x. sounding x d k) e)

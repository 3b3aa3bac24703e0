-- What a record answers, by the rule and the model alone. Assumes nothing.
use Rattle.std.proofs.Common.{◌≡◌, cond, List, [], ◌∷◌, map, refl, ap, ◌∙◌}
use Rattle.chest.specs.Places.{changed}
use Rattle.chest.specs.Meaning.{Meaning}
use Rattle.console.specs.declared.call.Call.{Call}
use Rattle.console.specs.Keys.{sounding}
use Rattle.console.specs.Model.{Setup, Model, first, check, after}
use Rattle.console.specs.Record.{Answer, Entry, RecordLaw, pipes_of, answer_of, strobing}
use Rattle.cases.specs.Playing.{AnswersSo}

module _ (s : Setup) (m : Meaning) where
  -- the fault of a call, or how many of the rule's pipes change at it; 0 at a capture
  abbrev pub answer_to : Model → Call → Answer
  answer_to p call =
      answer_of (check s p call) (cond (strobing call) (changed (pipes_of m p) (pipes_of m (after s p call))) 0)

  abbrev pub answers_to : Model → List Call → List Answer
  answers_to p [] = []
  answers_to p (c ∷ cs) = answer_to p c ∷ answers_to (after s p c) cs

  -- a chest with this rule in which the model's pipes speak answers so, and then stands so again
  from : (before : Meaning) (p : Model) (es : List Entry) → before.rule ≡ m.rule → before.speaking ≡ pipes_of m p → RecordLaw s before p es → map (λ e. e.answer) es ≡ answers_to p (map (λ e. e.call) es)
  from before p [] rule speaks law = refl
  from before p (e ∷ es) rule speaks law = λ i. one i ∷ from e.chest (after s p e.call) es (law.0.rule ∙ rule) then law.1 i where
    then : e.chest.speaking ≡ pipes_of m (after s p e.call)
    then = law.0.speaks ∙ ap (λ f. f (after s p e.call).panel (sounding (after s p e.call).keys)) rule

    one : e.answer ≡ answer_to p e.call
    one = law.0.answers ∙ λ i. answer_of (check s p e.call) (cond (strobing e.call) (changed (speaks i) (then i)) 0)

  pub answers_so : (calls : List Call) (answers : List Answer) → answers_to (first s) calls ≡ answers → AnswersSo s m calls answers
  answers_so calls answers so made es making law are =
      from made (first s) es making.rule making.speaks law ∙ ap (answers_to (first s)) are ∙ so

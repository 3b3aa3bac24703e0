-- One message more on a line that was answered so far. Assumes nothing.
use Rattle.std.proofs.Common.{◌≡◌, ℕ, List, [], ◌∷◌, ◌++◌, sym, refl, ap, ◌∙◌, subst, append_assoc, append-nil}
use Rattle.std.specs.List.{flat_map}
use Rattle.std.proofs.lemmas.List.{flat_map_more}
use Rattle.chest.specs.Meaning.{Meaning}
use Rattle.midi.specs.declared.message.Message.{Message}
use Rattle.console.specs.declared.call.Call.{Call}
use Rattle.console.specs.declared.console.Console.{Console}
use Rattle.console.specs.Model.{Setup, Model}
use Rattle.console.specs.Plays.{Recorded}
use Rattle.console.specs.Record.{Answer}
use Rattle.console.specs.Tracks.{Tracks}
use Rattle.console.proofs.Records.{recorded_none, recorded_more}
use Rattle.organ.specs.declared.action.Action.{Action}
use Rattle.organ.specs.declared.action.Action.TheVariants.{Nothing, Perform, LowNote}
use Rattle.organ.specs.Action.{action_of}
use Rattle.organ.specs.Responses.{Responds}
use Rattle.organ.specs.Answered.{Outcome, silent, low, did, IsOf, AreOf, call_in, answer_in, line_in, Answered}

are_push : (ms : List Message) (os : List Outcome) (m : Message) (o : Outcome) → AreOf ms os → IsOf (action_of m) o → AreOf (ms ++ m ∷ []) (os ++ o ∷ [])
are_push [] [] m o a i = (i, tt)
are_push [] (x ∷ os) m o a i = absurd a
are_push (y ∷ ms) [] m o a i = absurd a
are_push (y ∷ ms) (x ∷ os) m o a i = (a.0, are_push ms os m o a.1 i)

module _ {C : Type 0} {meaning : C → Meaning} {settled : C → Type 0} {c : Console C} {s : Setup} {p : Model} where
  -- a record that goes on without a call
  kept : {d e : Console C} (calls : List Call) (answers : List Answer) → e ≡ d → Recorded meaning settled c s p calls answers d → Recorded meaning settled c s p (calls ++ []) (answers ++ []) e
  kept {e = e} calls answers is old =
      subst (λ x. Recorded meaning settled c s p x (answers ++ []) e) (sym (append-nil calls)) (subst (λ x. Recorded meaning settled c s p calls x e) (sym (append-nil answers)) (subst (Recorded meaning settled c s p calls answers) (sym is) old))

  pub answered_none : (xs : List ℕ) → Tracks meaning settled c s p → Answered meaning settled c c s p [] xs xs
  answered_none xs t = record { outcomes = []; are = tt; recorded = recorded_none t; lines = sym (append-nil xs) }

  module _ {d e : Console C} {ms : List Message} {before mid after : List ℕ} (m : Message) (old : Answered meaning settled c d s p ms before mid) where
    -- an outcome more, with the record that goes with it
    push : (o : Outcome) → IsOf (action_of m) o → Recorded meaning settled c s p (flat_map call_in old.outcomes ++ call_in o) (flat_map answer_in old.outcomes ++ answer_in o) e → after ≡ mid ++ line_in o → Answered meaning settled c e s p (ms ++ m ∷ []) before after
    push o is recorded lines =
        let os = old.outcomes in
        record {
          outcomes = os ++ o ∷ [];
          are = are_push ms os m o old.are is;
          recorded = subst (λ x. Recorded meaning settled c s p x (flat_map answer_in (os ++ o ∷ [])) e) (flat_map_more call_in [] os o) (subst (λ x. Recorded meaning settled c s p (flat_map call_in os ++ call_in o) x e) (flat_map_more answer_in [] os o) recorded);
          lines = lines ∙ ap (λ xs. xs ++ line_in o) old.lines ∙ append_assoc before (flat_map line_in os) (line_in o) ∙ ap (λ xs. before ++ xs) (flat_map_more line_in [] os o);
        }

    more : (a : Action) → action_of m ≡ a → Responds meaning settled a d e mid after → Answered meaning settled c e s p (ms ++ m ∷ []) before after
    more Nothing is r = push silent (subst (λ x. IsOf x silent) (sym is) tt) (kept (flat_map call_in old.outcomes) (flat_map answer_in old.outcomes) r.0 old.recorded) (r.1 ∙ sym (append-nil mid))
    more (Perform call) is r =
        push (did call r.0) (subst (λ x. IsOf x (did call r.0)) (sym is) refl) (recorded_more {d = d} {e = e} call r.0 old.recorded r.1) r.2
    more (LowNote division note) is r = push (low division note) (subst (λ x. IsOf x (low division note)) (sym is) (refl, refl)) (kept (flat_map call_in old.outcomes) (flat_map answer_in old.outcomes) r.0 old.recorded) r.1

    pub answered_more : Responds meaning settled (action_of m) d e mid after → Answered meaning settled c e s p (ms ++ m ∷ []) before after
    answered_more = more (action_of m) refl

-- Records cut in two, and what done calls tell of them. Assumes nothing.
use Rattle.std.proofs.Common.{◌≡◌, ℕ, Bool, true, false, cond, not, ◌&&◌, ◌||◌, List, [], ◌∷◌, ◌++◌, is_ok, Ok, Err, Result, sym, refl, ap, ◌∙◌, arith}
use Rattle.std.proofs.lemmas.Bool.{eqb-true}
use Rattle.std.proofs.lemmas.Bool.Decides.{nat_tests}
use Rattle.chest.specs.Meaning.{Meaning}
use Rattle.console.specs.declared.call.Call.{Call}
use Rattle.console.specs.declared.call.Call.TheVariants.{Press, Lift, Sustain, Clear, Turn, Capture, Recall, Cancel}
use Rattle.console.specs.declared.fault.PlayFault.{PlayFault}
use Rattle.console.specs.Model.{Setup, Model, check, done, after}
use Rattle.console.specs.Record.{Entry, EntryLaw, RecordLaw, last_meaning, last_model, answer_of}
use Rattle.console.specs.DoneCalls.{some, since, is_capture}

-- a call was done exactly if the model does it
done_of : (r : Result Unit PlayFault) (n : ℕ) → is_ok (answer_of r n) ≡ is_ok r
done_of (Ok x) n = refl
done_of (Err e) n = refl

pub done_is : (s : Setup) (m : Meaning) (p : Model) (e : Entry) → EntryLaw s m p e → is_ok e.answer ≡ is_ok (check s p e.call)
done_is s m p e law = ap is_ok law.answers ∙ done_of (check s p e.call) _

-- the model after an entry, by its answer
pub after_is : (s : Setup) (m : Meaning) (p : Model) (e : Entry) → EntryLaw s m p e → after s p e.call ≡ cond (is_ok e.answer) (done s p e.call) p
after_is s m p e law = ap (λ v. cond v (done s p e.call) p) (sym (done_is s m p e law))

-- one entry more at the end
pub since-push : (begins ends : Entry → Bool) (es : List Entry) (e : Entry) → since begins ends (es ++ e ∷ []) ≡ (begins e || (since begins ends es && not (ends e)))
since-push begins ends [] e = by (begins e) (ends e) where
  by : (a b : Bool) → ((a && true) || false) ≡ (a || (false && not b))
  by true b = refl
  by false b = refl
since-push begins ends (x ∷ es) e =
    (λ i. (begins x && not (some-push es i)) || since-push begins ends es e i) ∙ by (begins x) (some ends es) (ends e) (begins e) (since begins ends es)
  where
    some-push : (xs : List Entry) → some ends (xs ++ e ∷ []) ≡ (some ends xs || ends e)
    some-push [] = grind (arith, nat_tests)
    some-push (y ∷ xs) = ap (λ b. ends y || b) (some-push xs) ∙ together (ends y) (some ends xs) (ends e) where
      together : (a b c : Bool) → (a || (b || c)) ≡ ((a || b) || c)
      together true b c = refl
      together false b c = refl

    by : (a b c d f : Bool) → ((a && not (b || c)) || (d || (f && not c))) ≡ (d || (((a && not b) || f) && not c))
    by a b c d f = grind (arith, nat_tests)

-- the law of a record in two parts
pub law_front : (s : Setup) (m : Meaning) (p : Model) (front rest : List Entry) → RecordLaw s m p (front ++ rest) → RecordLaw s m p front
law_front s m p [] rest law = tt
law_front s m p (x ∷ front) rest law = (law.0, law_front s x.chest (after s p x.call) front rest law.1)

pub law_rest : (s : Setup) (m : Meaning) (p : Model) (front rest : List Entry) → RecordLaw s m p (front ++ rest) → RecordLaw s (last_meaning m front) (last_model s p front) rest
law_rest s m p [] rest law = law
law_rest s m p (x ∷ front) rest law = law_rest s x.chest (after s p x.call) front rest law.1

-- the model after both parts
pub last_model-append : (s : Setup) (p : Model) (front rest : List Entry) → last_model s p (front ++ rest) ≡ last_model s (last_model s p front) rest
last_model-append s p [] rest = refl
last_model-append s p (x ∷ front) rest = last_model-append s (after s p x.call) front rest

-- a chest keeps its rule over a record
pub rule_kept : (s : Setup) (m : Meaning) (p : Model) (es : List Entry) → RecordLaw s m p es → (last_meaning m es).rule ≡ m.rule
rule_kept s m p [] law = refl
rule_kept s m p (e ∷ es) law = rule_kept s e.chest (after s p e.call) es law.1 ∙ law.0.rule

-- which call a capture is
pub capture_is : (q : ℕ) (call : Call) → is_capture q call ≡ true → call ≡ Capture q
capture_is q (Press d k) h = cc
capture_is q (Lift d k) h = cc
capture_is q (Sustain d on) h = cc
capture_is q (Clear d) h = cc
capture_is q (Turn k p) h = cc
capture_is q (Capture r) h = ap Capture (sym (eqb-true q r h))
capture_is q (Recall r) h = cc
capture_is q Cancel h = cc

-- When a call of a record is refused, each condition by itself, and how often a call strobes. Assumes nothing.
use Rattle.std.proofs.Common.{◌≡◌, ℕ, ◌+◌, ◌%◌, Bool, true, false, cond, ◌&&◌, ltb, List, ◌∷◌, is_ok, Some, None, Option, Ok, Err, Result, sym, refl, ap, ◌∙◌, arith}
use Rattle.std.proofs.lemmas.Bool.Decides.{nat_tests}
use Rattle.chest.specs.Places.{Places, changed}
use Rattle.chest.specs.Meaning.{Meaning, next_strobe}
use Rattle.fittings.specs.declared.Scope.{Scope}
use Rattle.console.specs.declared.call.Call.{Call}
use Rattle.console.specs.declared.call.Call.TheVariants.{Press, Lift, Sustain, Clear, Turn, Capture, Recall, Cancel}
use Rattle.console.specs.declared.fault.PlayFault.{PlayFault}
use Rattle.console.specs.declared.fault.PlayFault.TheVariants.{Division, KeyDown, KeyUp, NeverCaptured}
use Rattle.console.specs.Model.{Setup, Model, first, check, after, key_check, knob_check, piston_check}
use Rattle.console.specs.Record.{Answer, Entry, RecordLaw, last_meaning, answer_of, strobing}
use Rattle.console.specs.DoneCalls.{some, is_down, captures}
use Rattle.console.specs.KeyLaw.{modelled}
use Rattle.console.specs.RefusalLaw.{RefusalLaw, RefusedExactly, Counts, Strobes, PressRefused, LiftRefused, DivisionRefused, TurnRefused, CaptureRefused, RecallRefused}
use Rattle.console.proofs.Records.{every_entry}
use Rattle.console.proofs.DoneCalls.{law_front}
use Rattle.console.proofs.KeyLaws.{keys_by}
use Rattle.console.proofs.KnobLaws.{stored_by}

module _ (s : Setup) (front : List Entry) (answer : Answer) (n : ℕ) where
  press_refused : (d k : ℕ) → answer ≡ answer_of (key_check s.reach d k (cond (is_down d k front) (Err (KeyDown d k)) (Ok tt))) n → PressRefused s front d k answer
  press_refused d k is =
      record {
        division = (λ e. grind (arith, nat_tests), λ h. grind (arith, nat_tests));
        key = (λ e. grind (arith, nat_tests), λ h. grind (arith, nat_tests));
        down = (λ e. grind (arith, nat_tests), λ h. grind (arith, nat_tests));
        done = (λ e. grind (arith, nat_tests), λ h. grind (arith, nat_tests));
      }

  lift_refused : (d k : ℕ) → answer ≡ answer_of (key_check s.reach d k (cond (is_down d k front) (Ok tt) (Err (KeyUp d k)))) n → LiftRefused s front d k answer
  lift_refused d k is =
      record {
        division = (λ e. grind (arith, nat_tests), λ h. grind (arith, nat_tests));
        key = (λ e. grind (arith, nat_tests), λ h. grind (arith, nat_tests));
        up = (λ e. grind (arith, nat_tests), λ h. grind (arith, nat_tests));
        done = (λ e. grind (arith, nat_tests), λ h. grind (arith, nat_tests));
      }

  division_refused : (d : ℕ) → answer ≡ answer_of (cond (ltb d 16) (Ok tt) (Err (Division d))) n → DivisionRefused s front d answer
  division_refused d is =
      record { division = (λ e. grind (arith, nat_tests), λ h. grind (arith, nat_tests)); done = (λ e. grind (arith, nat_tests), λ h. grind (arith, nat_tests)) }

  turn_refused : (k q : ℕ) (steps : Option ℕ) → s.steps k ≡ steps → answer ≡ answer_of (knob_check steps k q) n → TurnRefused s front k q answer
  turn_refused k q None is e =
      record {
        knob = (λ f. is, λ f. e);
        position = (λ f. cc, λ f. let z : ◌≡◌ {A = Option ℕ} (Some f.0) None = sym f.1 ∙ is in cc);
        done = (λ f. let z : ◌≡◌ {A = Bool} false true = sym (ap is_ok e) ∙ f in cc, λ f. let z : ◌≡◌ {A = Option ℕ} (Some f.0) None = sym f.1 ∙ is in cc);
      }
  turn_refused k q (Some steps) is e =
      record {
        knob = (λ f. grind (arith, nat_tests), λ f. let z : ◌≡◌ {A = Option ℕ} (Some steps) None = sym is ∙ f in cc);
        position = (λ f. (steps, is, grind (arith, nat_tests)), λ f. let same : ◌≡◌ {A = Option ℕ} (Some f.0) (Some steps) = sym f.1 ∙ is in let n : f.0 ≡ steps = cc in grind (arith, nat_tests));
        done = (λ f. (steps, is, grind (arith, nat_tests)), λ f. let same : ◌≡◌ {A = Option ℕ} (Some f.0) (Some steps) = sym f.1 ∙ is in let n : f.0 ≡ steps = cc in grind (arith, nat_tests));
      }

  capture_refused : (q : ℕ) (scope : Option Scope) → s.scope q ≡ scope → answer ≡ answer_of (piston_check scope q (Ok tt)) n → CaptureRefused s front q answer
  capture_refused q None is e =
      record {
        piston = (λ f. is, λ f. e);
        done = (λ f. let z : ◌≡◌ {A = Bool} false true = sym (ap is_ok e) ∙ f in cc, λ f. let z : ◌≡◌ {A = Option Scope} (Some f.0) None = sym f.1 ∙ is in cc);
      }
  capture_refused q (Some scope) is e =
      record {
        piston = (λ f. cc, λ f. let z : ◌≡◌ {A = Option Scope} (Some scope) None = sym is ∙ f in cc);
        done = (λ f. (scope, is), λ f. ap is_ok e);
      }

  recall_refused : (q : ℕ) (scope : Option Scope) → s.scope q ≡ scope → answer ≡ answer_of (piston_check scope q (cond (some (captures q) front) (Ok tt) (Err (NeverCaptured q)))) n → RecallRefused s front q answer
  recall_refused q None is e =
      record {
        piston = (λ f. is, λ f. e);
        never = (λ f. cc, λ f. let z : ◌≡◌ {A = Option Scope} (Some f.0) None = sym f.1 ∙ is in cc);
        done = (λ f. let z : ◌≡◌ {A = Bool} false true = sym (ap is_ok e) ∙ f in cc, λ f. let z : ◌≡◌ {A = Option Scope} (Some f.0) None = sym f.1 ∙ is in cc);
      }
  recall_refused q (Some scope) is e =
      record {
        piston = (λ f. grind (arith, nat_tests), λ f. let z : ◌≡◌ {A = Option Scope} (Some scope) None = sym is ∙ f in cc);
        never = (λ f. (scope, is, grind (arith, nat_tests)), λ f. grind (arith, nat_tests));
        done = (λ f. (scope, is, grind (arith, nat_tests)), λ f. grind (arith, nat_tests));
      }

module _ (s : Setup) (m : Meaning) (front : List Entry) (law : RecordLaw s m (first s) front) (n : ℕ) (answer : Answer) where
  -- a call is refused by what the calls before it tell
  refused_by : (call : Call) → answer ≡ answer_of (check s (modelled s front) call) n → RefusedExactly s front call answer
  refused_by (Press d k) e =
      press_refused s front answer n d k (e ∙ ap (λ b. answer_of (key_check s.reach d k (cond b (Err (KeyDown d k)) (Ok tt))) n) (keys_by s d k m front law))
  refused_by (Lift d k) e =
      lift_refused s front answer n d k (e ∙ ap (λ b. answer_of (key_check s.reach d k (cond b (Ok tt) (Err (KeyUp d k)))) n) (keys_by s d k m front law))
  refused_by (Sustain d on) e = division_refused s front answer n d e
  refused_by (Clear d) e = division_refused s front answer n d e
  refused_by (Turn k q) e = turn_refused s front answer n k q (s.steps k) refl e
  refused_by (Capture q) e = capture_refused s front answer n q (s.scope q) refl e
  refused_by (Recall q) e =
      recall_refused s front answer n q (s.scope q) refl (e ∙ ap (λ b. answer_of (piston_check (s.scope q) q (cond b (Ok tt) (Err (NeverCaptured q)))) n) (stored_by s m front law q))
  refused_by Cancel e = ap is_ok e

module _ (answer : Answer) (r : Result Unit PlayFault) (before after changes : ℕ) where
  -- a call that strobes if it is done
  strobed : answer ≡ answer_of r changes → after ≡ cond (is_ok r && true) (next_strobe before) before → (is_ok answer ≡ false → after ≡ before) × (is_ok answer ≡ true → after ≡ (before + 1) % 4294967296)
  strobed is count = by r is count where
    by : (r : Result Unit PlayFault) → answer ≡ answer_of r changes → after ≡ cond (is_ok r && true) (next_strobe before) before → (is_ok answer ≡ false → after ≡ before) × (is_ok answer ≡ true → after ≡ (before + 1) % 4294967296)
    by (Ok x) is count = (λ f. let z : ◌≡◌ {A = Bool} true false = sym (ap is_ok is) ∙ f in cc, λ f. count)
    by (Err x) is count = (λ f. count, λ f. let z : ◌≡◌ {A = Bool} false true = sym (ap is_ok is) ∙ f in cc)

  not_strobed : answer ≡ answer_of r 0 → after ≡ cond (is_ok r && false) (next_strobe before) before → (after ≡ before) × (is_ok answer ≡ true → answer ≡ Ok 0)
  not_strobed is count = by r is count where
    by : (r : Result Unit PlayFault) → answer ≡ answer_of r 0 → after ≡ cond (is_ok r && false) (next_strobe before) before → (after ≡ before) × (is_ok answer ≡ true → answer ≡ Ok 0)
    by (Ok x) is count = (count, λ f. is)
    by (Err x) is count = (count, λ f. let z : ◌≡◌ {A = Bool} false true = sym (ap is_ok is) ∙ f in cc)

-- what is answered where a call is done
counted : (answer : Answer) (r : Result Unit PlayFault) (n : ℕ) → answer ≡ answer_of r n → is_ok answer ≡ true → answer ≡ Ok n
counted answer (Ok x) n is done = is
counted answer (Err x) n is done = let z : ◌≡◌ {A = Bool} false true = sym (ap is_ok is) ∙ done in cc

pub refusal_law : RefusalLaw
refusal_law =
    record {
      refused = λ s m front e rest law. refused_by s m front (law_front s m (first s) front (e ∷ rest) law) _ e.answer e.call (every_entry s m (first s) front e rest law).answers;
      strobes = λ s m front e rest law. strobes_by s (last_meaning m front) (modelled s front) e.call e.answer e.chest.strobes _ (every_entry s m (first s) front e rest law).answers (every_entry s m (first s) front e rest law).strobes;
      counts = λ s m front e rest law. counts_by s (modelled s front) e.call e.answer (last_meaning m front).speaking e.chest.speaking (every_entry s m (first s) front e rest law).answers;
      makes = λ s before made making. (making.strobes, λ rank pipe. ap (λ (x : Places). x rank pipe) making.silence);
      no_knob = λ reach knobs pistons k h. grind (arith, nat_tests);
      no_piston = λ reach knobs pistons q h. grind (arith, nat_tests);
    }
  where
    counts_by : (s : Setup) (p : Model) (call : Call) (answer : Answer) (before after : Places) → answer ≡ answer_of (check s p call) (cond (strobing call) (changed before after) 0) → Counts call answer before after
    counts_by s p (Press d k) answer before after is = counted answer (check s p (Press d k)) (changed before after) is
    counts_by s p (Lift d k) answer before after is = counted answer (check s p (Lift d k)) (changed before after) is
    counts_by s p (Sustain d on) answer before after is = counted answer (check s p (Sustain d on)) (changed before after) is
    counts_by s p (Clear d) answer before after is = counted answer (check s p (Clear d)) (changed before after) is
    counts_by s p (Turn k q) answer before after is = counted answer (check s p (Turn k q)) (changed before after) is
    counts_by s p (Capture q) answer before after is = tt
    counts_by s p (Recall q) answer before after is = counted answer (check s p (Recall q)) (changed before after) is
    counts_by s p Cancel answer before after is = counted answer (check s p Cancel) (changed before after) is

    strobes_by : (s : Setup) (before : Meaning) (p : Model) (call : Call) (answer : Answer) (after changes : ℕ) → answer ≡ answer_of (check s p call) (cond (strobing call) changes 0) → after ≡ cond (is_ok (check s p call) && strobing call) (next_strobe before.strobes) before.strobes → Strobes call answer before.strobes after
    strobes_by s before p (Press d k) answer after changes is count = strobed answer (check s p (Press d k)) before.strobes after changes is count
    strobes_by s before p (Lift d k) answer after changes is count = strobed answer (check s p (Lift d k)) before.strobes after changes is count
    strobes_by s before p (Sustain d on) answer after changes is count = strobed answer (check s p (Sustain d on)) before.strobes after changes is count
    strobes_by s before p (Clear d) answer after changes is count = strobed answer (check s p (Clear d)) before.strobes after changes is count
    strobes_by s before p (Turn k q) answer after changes is count = strobed answer (check s p (Turn k q)) before.strobes after changes is count
    strobes_by s before p (Capture q) answer after changes is count = not_strobed answer (check s p (Capture q)) before.strobes after 0 is count
    strobes_by s before p (Recall q) answer after changes is count = strobed answer (check s p (Recall q)) before.strobes after changes is count
    strobes_by s before p Cancel answer after changes is count = strobed answer (check s p Cancel) before.strobes after changes is count

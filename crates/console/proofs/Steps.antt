-- One call, over meanings and models: what a refused call and a done call show of the entry's law. Assumes nothing.
use Rattle.std.proofs.Common.{◌≡◌, ℕ, true, false, cond, ◌&&◌, is_ok, IfErr, Some, None, Ok, Err, Option, Result, sym, refl, ap, ◌∙◌, subst, arith}
use Rattle.std.specs.Option.{ok_or}
use Rattle.std.proofs.lemmas.Bool.Decides.{nat_tests}
use Rattle.chest.specs.Places.{Places, none, differ, changed}
use Rattle.chest.specs.Meaning.{Meaning, Panel, Becomes, next_strobe, strobe_after}
use Rattle.console.specs.declared.call.Call.{Call}
use Rattle.console.specs.declared.console.Console.{Console}
use Rattle.console.specs.declared.fault.PlayFault.{PlayFault}
use Rattle.console.specs.declared.key_table.KeyTable.{KeyTable}
use Rattle.console.specs.Keys.{sounding}
use Rattle.console.specs.KeyTable.{keys_of}
use Rattle.console.specs.Model.{Setup, Model, check, done, after}
use Rattle.console.specs.Record.{Answer, EntryLaw, AtRest, pipes_of, strobing, answer_of}
use Rattle.console.specs.Tracks.{Agrees, Sane, Tracks, setup_of}

-- a call that changes nothing says so, whatever it answers
pub unchanged : {A B X : Type 0} (r : Result A B) (x : X) → IfErr r (λ e. x ≡ x)
unchanged (Ok a) x = tt
unchanged (Err e) x = refl

-- the fault of what is missing
pub missing : {A : Type 0} (o : Option A) (fault e : PlayFault) → Err fault ≡ ok_or o e → fault ≡ e
missing None fault e is = cc
missing (Some x) fault e is = cc

-- at rest no key sounds
rest-none : (p : Model) → Sane p → AtRest p → sounding p.keys ≡ none
rest-none p sane rest = λ i d k. one d k i where
  one : (d k : ℕ) → sounding p.keys d k ≡ false
  one d k =
      let down = rest.down d k in
      let off = rest.sustain d in
      let held = sane.held d k in
      grind (arith, nat_tests)

-- a meaning with its keys and knobs as a model has them, not yet strobed
abbrev pub held : Meaning → Model → Meaning
held m p =
    record { reach = m.reach; register = sounding p.keys; panel = p.panel; speaking = m.speaking; strobes = m.strobes; rule = m.rule }

module _ (s : Setup) (p : Model) (call : Call) where
  stays : (e : PlayFault) → check s p call ≡ Err e → after s p call ≡ p
  stays e f = ap (λ v. cond (is_ok v) (done s p call) p) f

  pub goes : check s p call ≡ Ok tt → after s p call ≡ done s p call
  goes f = ap (λ v. cond (is_ok v) (done s p call) p) f

module _ (m n : Meaning) (s : Setup) (p : Model) (call : Call) (quiet : (panel : Panel) → m.rule panel none ≡ none) (was : Agrees m p) (is : Agrees n (after s p call)) (sane : Sane (after s p call)) (rule : n.rule ≡ m.rule) (reach : n.reach ≡ m.reach) where
  speaks : n.speaking ≡ pipes_of m (after s p call)
  speaks = is.speaks ∙ ap (λ (f : Panel → Places → Places). f (after s p call).panel (sounding (after s p call).keys)) rule

  -- the law at an entry, once the chest after it agrees with the model after it
  pub entry : (r : Answer) → r ≡ answer_of (check s p call) (cond (strobing call) (changed m.speaking n.speaking) 0) → n.strobes ≡ cond (is_ok (check s p call) && strobing call) (next_strobe m.strobes) m.strobes → EntryLaw s m p (record { call = call; answer = r; chest = n })
  entry r answers strobes =
      record {
        speaks = speaks;
        changes = λ r k. (λ i. differ (was.speaks i r k) (speaks i r k));
        answers = answers;
        strobes = strobes;
        silence = λ rest. speaks ∙ ap (m.rule (after s p call).panel) (rest-none (after s p call) sane rest) ∙ quiet (after s p call).panel;
        rule = rule;
        reach = reach;
      }

module _ {C : Type 0} {meaning : C → Meaning} {settled : C → Type 0} (quiet : (c : C) (panel : Panel) → (meaning c).rule panel none ≡ none) where
  -- a call that is refused, by a console that is left as it was
  pub refused_follows : {c : Console C} {s : Setup} {p : Model} (call : Call) (e : PlayFault) (r : Answer) (t : Tracks meaning settled c s p) → r ≡ Err e → check s p call ≡ Err e → Tracks meaning settled c s (after s p call) × EntryLaw s (meaning c.chest) p (record { call = call; answer = r; chest = meaning c.chest })
  refused_follows {c} {s} {p} call e r t is f =
      let m = meaning c.chest in
      let same : p ≡ after s p call = sym (stays s p call e f) in
      let now : Tracks meaning settled c s (after s p call) = subst (Tracks meaning settled c s) same t in
      (now, entry m m s p call (quiet c.chest) t.agrees now.agrees now.sane refl refl r (is ∙ sym (ap (λ v. answer_of v (cond (strobing call) (changed m.speaking m.speaking) 0)) f)) (sym (ap (λ v. cond (is_ok v && strobing call) (next_strobe m.strobes) m.strobes) f)))

  module _ {c : Console C} {s : Setup} {p : Model} (call : Call) (n : ℕ) (keys : KeyTable) (mid last : C) (t : Tracks meaning settled c s p) (f : check s p call ≡ Ok tt) (strobes : strobing call ≡ true) where
    -- the console after a done call: its chest was strobed last
    abbrev pub next : Console C
    next = record { chest = last; knobs = c.knobs; pistons = c.pistons; keys = keys }

    -- a done call sets the keys and knobs as the model has them, and strobes
    pub done-follows : settled mid × (meaning mid ≡ held (meaning c.chest) (done s p call)) → Becomes meaning settled mid last (strobe_after (meaning mid)) → n ≡ changed (meaning mid).speaking (meaning last).speaking → keys_of keys ≡ (done s p call).keys → (done s p call).stored ≡ p.stored → Sane (done s p call) → Tracks meaning settled next s (after s p call) × EntryLaw s (meaning c.chest) p (record { call = call; answer = Ok n; chest = meaning last })
    done-follows set strobe count is-keys is-stored sane =
        let m = meaning c.chest in
        let then = strobe set.0 in
        let is : meaning last ≡ strobe_after (held m (done s p call)) = then.1 ∙ ap strobe_after set.1 in
        let agreed : Agrees (strobe_after (held m (done s p call))) (done s p call) = record { register = refl; panel = refl; speaks = refl } in
        let reach : (meaning last).reach ≡ m.reach = ap (λ x. x.reach) is in
        let now : Tracks meaning settled next s (done s p call) = record { steady = then.0; setup = ap (λ x. setup_of x c.knobs c.pistons) reach ∙ t.setup; keys = is-keys; stored = t.stored ∙ sym is-stored; agrees = subst (λ x. Agrees x (done s p call)) (sym is) agreed; sane = sane } in
        let moved : Tracks meaning settled next s (after s p call) = subst (Tracks meaning settled next s) (sym (goes s p call f)) now in
        let number : n ≡ changed m.speaking (meaning last).speaking = count ∙ ap (λ x. changed x.speaking (meaning last).speaking) set.1 in
        let answered : Ok n ≡ answer_of (check s p call) (cond (strobing call) (changed m.speaking (meaning last).speaking) 0) = ap Ok number ∙ sym ((λ i. answer_of (f i) (cond (strobes i) (changed m.speaking (meaning last).speaking) 0))) in
        let once : (meaning last).strobes ≡ cond (is_ok (check s p call) && strobing call) (next_strobe m.strobes) m.strobes = ap (λ x. x.strobes) is ∙ sym ((λ i. cond (is_ok (f i) && strobes i) (next_strobe m.strobes) m.strobes)) in
        (moved, entry m (meaning last) s p call (quiet c.chest) t.agrees moved.agrees moved.sane (ap (λ x. x.rule) is) reach (Ok n) answered once)

-- The record law: at any one entry, at a record with one more entry, and at a chain of a host's calls. Assumes nothing.
use Rattle.std.proofs.Common.{◌≡◌, ℕ, Bool, true, cond, ◌&&◌, List, [], ◌∷◌, ◌++◌, map, is_ok, Ok, Err, Result, sym, refl, ap, ◌∙◌, subst, arith}
use Rattle.std.proofs.lemmas.List.{map-append}
use Rattle.chest.specs.Meaning.{Meaning, next_strobe}
use Rattle.console.specs.declared.call.Call.{Call}
use Rattle.console.specs.declared.console.Console.{Console}
use Rattle.console.specs.declared.fault.PlayFault.{PlayFault}
use Rattle.console.specs.Model.{Setup, Model, check, after}
use Rattle.console.specs.Record.{Answer, Entry, EntryLaw, RecordLaw, EveryEntry, last_meaning, last_model, strobing, answer_of}
use Rattle.console.specs.Tracks.{Tracks, Follows}
use Rattle.console.specs.Plays.{Recorded, Step, Chain, HostsLaw, Touches, entry_of}

-- what is promised of a call is promised of an equal one
pub called : {C : Type 0} (meaning : C → Meaning) (settled : C → Type 0) {c d : Console C} {r : Answer} {one two : Call} → one ≡ two → Follows meaning settled c two r d → Follows meaning settled c one r d
called meaning settled {c} {d} {r} e h = subst (λ x. Follows meaning settled c x r d) (sym e) h

pub every_entry : EveryEntry
every_entry s m p [] e rest law = law.0
every_entry s m p (x ∷ front) e rest law = every_entry s x.chest (after s p x.call) front e rest law.1

-- the law over a chain from a console that tracks a model
chain_law : {C : Type 0} (meaning : C → Meaning) (settled : C → Type 0) (c : Console C) (s : Setup) (p : Model) (ts : List (Step {C = C} meaning settled)) → Tracks meaning settled c s p → Chain meaning settled c ts → RecordLaw s (meaning c.chest) p (map (entry_of meaning settled) ts)
chain_law meaning settled c s p [] t chain = tt
chain_law meaning settled c s p (x ∷ xs) t chain =
    let one = chain.0 s p t in
    (one.1, chain_law meaning settled x.after s (after s p x.call) xs one.0 chain.1)

-- a number that answers a done call goes with a strobe number that is another
strobe_moves : (f : Result Unit PlayFault) (b : Bool) (n k one two : ℕ) → Ok n ≡ answer_of f k → b ≡ true → two ≡ cond (is_ok f && b) (next_strobe one) one → two ≡ one → ⊥
strobe_moves (Ok x) b n k one two r on h e =
    let is : two ≡ next_strobe one = h ∙ ap (λ v. cond v (next_strobe one) one) on in
    omega arith
strobe_moves (Err x) b n k one two r on h e = let z : ◌≡◌ {A = ℕ} 0 1 = cc in omega arith

module _ {C : Type 0} {meaning : C → Meaning} {settled : C → Type 0} where
  pub hosts_law : HostsLaw meaning settled
  hosts_law chest knobs pistons c ts start makes chain =
      let made = makes start in
      (made.0, chain_law meaning settled c _ _ ts made.1 chain)

  pub touches : Touches meaning settled
  touches c d s p call n tracks follows on same =
      let law = (follows s p tracks).1 in
      strobe_moves (check s p call) (strobing call) n _ _ _ law.answers on law.strobes same

-- one more entry at the end
law_push : (s : Setup) (m : Meaning) (p : Model) (es : List Entry) (e : Entry) → RecordLaw s m p es → EntryLaw s (last_meaning m es) (last_model s p es) e → RecordLaw s m p (es ++ e ∷ [])
law_push s m p [] e law last = (last, tt)
law_push s m p (x ∷ es) e law last = (law.0, law_push s x.chest (after s p x.call) es e law.1 last)

last_meaning-push : (m : Meaning) (es : List Entry) (e : Entry) → last_meaning m (es ++ e ∷ []) ≡ e.chest
last_meaning-push m [] e = refl
last_meaning-push m (x ∷ es) e = last_meaning-push x.chest es e

last_model-push : (s : Setup) (p : Model) (es : List Entry) (e : Entry) → last_model s p (es ++ e ∷ []) ≡ after s (last_model s p es) e.call
last_model-push s p [] e = refl
last_model-push s p (x ∷ es) e = last_model-push s (after s p x.call) es e

module _ {C : Type 0} {meaning : C → Meaning} {settled : C → Type 0} {c : Console C} {s : Setup} {p : Model} where
  -- the record of no calls
  pub recorded_none : Tracks meaning settled c s p → Recorded meaning settled c s p [] [] c
  recorded_none t = record { entries = []; calls_are = refl; answers_are = refl; law = tt; ends = refl; tracks = t }

  -- a record with one call more
  pub recorded_more : {calls : List Call} {answers : List Answer} {d e : Console C} (call : Call) (r : Answer) → Recorded meaning settled c s p calls answers d → Follows meaning settled d call r e → Recorded meaning settled c s p (calls ++ call ∷ []) (answers ++ r ∷ []) e
  recorded_more {d = d} {e = e} call r old follows =
      let last : Entry = record { call = call; answer = r; chest = meaning e.chest } in
      let es = old.entries in
      let m = meaning c.chest in
      let new = follows s (last_model s p es) old.tracks in
      record {
        entries = es ++ last ∷ [];
        calls_are = map-append (λ x. x.call) es (last ∷ []) ∙ ap (λ xs. xs ++ call ∷ []) old.calls_are;
        answers_are = map-append (λ x. x.answer) es (last ∷ []) ∙ ap (λ xs. xs ++ r ∷ []) old.answers_are;
        law = law_push s m p es last old.law (subst (λ x. EntryLaw s x (last_model s p es) last) (sym old.ends) new.1);
        ends = last_meaning-push m es last;
        tracks = subst (Tracks meaning settled e s) (sym (last_model-push s p es last)) new.0;
      }

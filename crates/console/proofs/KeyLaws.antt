-- Which keys are down and which a sustain holds, by the calls of a record alone. Assumes nothing.
use Rattle.std.proofs.Common.{◌≡◌, ℕ, Bool, true, false, cond, not, ◌&&◌, ◌||◌, eqb, List, [], ◌∷◌, ◌++◌, is_ok, sym, refl, ap, ◌∙◌, subst, arith}
use Rattle.std.proofs.lemmas.Bool.Decides.{nat_tests}
use Rattle.chest.specs.Meaning.{Meaning, Panel}
use Rattle.chest.specs.Places.{Places}
use Rattle.console.specs.declared.call.Call.{Call}
use Rattle.console.specs.declared.call.Call.TheVariants.{Press, Lift, Sustain, Clear, Turn, Capture, Recall, Cancel}
use Rattle.console.specs.Keys.{sounding}
use Rattle.console.specs.Model.{Setup, Model, first, done, after}
use Rattle.console.specs.Record.{Entry, RecordLaw, last_model}
use Rattle.console.specs.DoneCalls.{some, none, is_press, is_lift, is_clear, is_sustain_on, is_sustain_off, presses, releases, sustains, unsustains, is_down, is_on, holds, is_held}
use Rattle.console.specs.KeyLaw.{KeyLaw, modelled}
use Rattle.console.proofs.DoneCalls.{after_is, since-push, rule_kept, law_front, last_model-append}
use Rattle.console.proofs.Records.{every_entry}

-- what one call makes of a key and of a sustain, where it is done and where it is not
module _ (s : Setup) (p : Model) (d k : ℕ) where
  down_then : (v : Bool) (call : Call) → (cond v (done s p call) p).keys.down d k ≡ ((v && is_press d k call) || (p.keys.down d k && not (v && (is_lift d k call || is_clear d call))))
  down_then false call = grind (arith, nat_tests)
  down_then true (Press e j) = grind (arith, nat_tests)
  down_then true (Lift e j) = grind (arith, nat_tests)
  down_then true (Sustain e true) = by (p.keys.sustain e) where
    by : (b : Bool) → (cond b p.keys (record { down = p.keys.down; sustained = λ f j. cond (eqb f e) (p.keys.sustained f j || p.keys.down f j) (p.keys.sustained f j); sustain = λ f. cond (eqb f e) true (p.keys.sustain f) })).down d k ≡ (p.keys.down d k && true)
    by true = grind (arith, nat_tests)
    by false = grind (arith, nat_tests)
  down_then true (Sustain e false) = grind (arith, nat_tests)
  down_then true (Clear e) = grind (arith, nat_tests)
  down_then true (Turn j q) = grind (arith, nat_tests)
  down_then true (Capture q) = grind (arith, nat_tests)
  down_then true (Recall q) = grind (arith, nat_tests)
  down_then true Cancel = grind (arith, nat_tests)

  on_then : (v : Bool) (call : Call) → (cond v (done s p call) p).keys.sustain d ≡ ((v && is_sustain_on d call) || (p.keys.sustain d && not (v && (is_sustain_off d call || is_clear d call))))
  on_then false call = grind (arith, nat_tests)
  on_then true (Press e j) = grind (arith, nat_tests)
  on_then true (Lift e j) = grind (arith, nat_tests)
  on_then true (Sustain e true) = by (p.keys.sustain e) refl where
    by : (b : Bool) → p.keys.sustain e ≡ b → (cond b p.keys (record { down = p.keys.down; sustained = λ f j. cond (eqb f e) (p.keys.sustained f j || p.keys.down f j) (p.keys.sustained f j); sustain = λ f. cond (eqb f e) true (p.keys.sustain f) })).sustain d ≡ ((eqb d e && true) || (p.keys.sustain d && not ((eqb d e && false) || false)))
    by true h =
        let same : d ≡ e → p.keys.sustain d ≡ true = λ (u : d ≡ e). ap p.keys.sustain u ∙ h in
        grind (arith, nat_tests)
    by false h = grind (arith, nat_tests)
  on_then true (Sustain e false) = grind (arith, nat_tests)
  on_then true (Clear e) = grind (arith, nat_tests)
  on_then true (Turn j q) = grind (arith, nat_tests)
  on_then true (Capture q) = grind (arith, nat_tests)
  on_then true (Recall q) = grind (arith, nat_tests)
  on_then true Cancel = grind (arith, nat_tests)

or_false : (b : Bool) → (b || false) ≡ b
or_false true = refl
or_false false = refl

-- an entry's part in what is begun and ended, and that of the entries after it
joined : (begins ends now later now_later : Bool) → (now_later || ((begins || (now && not ends)) && not later)) ≡ (((begins && not later) || now_later) || (now && not (ends || later)))
joined begins ends now later now_later = grind (arith, nat_tests)

regrouped : (press on off x u w pressed ended more : Bool) → (on ≡ true → off ≡ false) → (more || ((((x || ((press && u) || (on && w))) && not off) || ((on || (u && not off)) && pressed)) && not ended)) ≡ (((on && (not ended && (w || pressed))) || more) || ((x || (u && (press || pressed))) && not (off || ended)))
regrouped press on off x u w pressed ended more h = grind (arith, nat_tests)

-- a sustain that is on holds every key that is down
abbrev Holds : Model → ℕ → ℕ → Type 0
Holds p d k = p.keys.sustain d ≡ true → p.keys.down d k ≡ true → p.keys.sustained d k ≡ true

module _ (s : Setup) (p : Model) (d k : ℕ) (holds : Holds p d k) where
  -- what a done call leaves held
  abbrev Kept : Call → Bool → Type 0
  Kept call now =
      now ≡ ((p.keys.sustained d k || ((is_press d k call && p.keys.sustain d) || (is_sustain_on d call && p.keys.down d k))) && not (is_sustain_off d call || is_clear d call))

  held_done : (call : Call) → Kept call ((done s p call).keys.sustained d k)
  held_done (Press e j) = by (p.keys.sustain e) refl where
    by : (b : Bool) → p.keys.sustain e ≡ b → Kept (Press e j) (cond b (λ f i. cond (eqb f e && eqb i j) true (p.keys.sustained f i)) p.keys.sustained d k)
    by true h =
        let same : d ≡ e → p.keys.sustain d ≡ true = λ (u : d ≡ e). ap p.keys.sustain u ∙ h in
        grind (arith, nat_tests)
    by false h =
        let same : d ≡ e → p.keys.sustain d ≡ false = λ (u : d ≡ e). ap p.keys.sustain u ∙ h in
        grind (arith, nat_tests)
  held_done (Lift e j) = grind (arith, nat_tests)
  held_done (Sustain e true) = by (p.keys.sustain e) refl where
    by : (b : Bool) → p.keys.sustain e ≡ b → Kept (Sustain e true) ((cond b p.keys (record { down = p.keys.down; sustained = λ f j. cond (eqb f e) (p.keys.sustained f j || p.keys.down f j) (p.keys.sustained f j); sustain = λ f. cond (eqb f e) true (p.keys.sustain f) })).sustained d k)
    by true h =
        let same : d ≡ e → p.keys.sustain d ≡ true = λ (u : d ≡ e). ap p.keys.sustain u ∙ h in
        grind (arith, nat_tests, holds)
    by false h = grind (arith, nat_tests)
  held_done (Sustain e false) = grind (arith, nat_tests)
  held_done (Clear e) = grind (arith, nat_tests)
  held_done (Turn j q) = grind (arith, nat_tests)
  held_done (Capture q) = grind (arith, nat_tests)
  held_done (Recall q) = grind (arith, nat_tests)
  held_done Cancel = grind (arith, nat_tests)

  held_then : (v : Bool) (call : Call) → (cond v (done s p call) p).keys.sustained d k ≡ ((p.keys.sustained d k || (((v && is_press d k call) && p.keys.sustain d) || ((v && is_sustain_on d call) && p.keys.down d k))) && not (v && (is_sustain_off d call || is_clear d call)))
  held_then false call = grind (arith, nat_tests)
  held_then true call = held_done call

  -- a call that puts a sustain on neither puts it off nor presses a key
  one_way : (call : Call) → is_sustain_on d call ≡ true → ((is_sustain_off d call || is_clear d call) ≡ false) × (is_press d k call ≡ false)
  one_way (Press e j) h = cc
  one_way (Lift e j) h = cc
  one_way (Sustain e true) h = (grind (arith, nat_tests), refl)
  one_way (Sustain e false) h = (grind (arith, nat_tests), refl)
  one_way (Clear e) h = cc
  one_way (Turn j q) h = cc
  one_way (Capture q) h = cc
  one_way (Recall q) h = cc
  one_way Cancel h = cc

  -- and it goes on holding every key that is down
  holds_then : (v : Bool) (call : Call) → Holds (cond v (done s p call) p) d k
  holds_then v call on down =
      let a = on_then s p d k v call in
      let b = down_then s p d k v call in
      let c = held_then v call in
      let o = one_way call in
      by v (is_press d k call) (is_lift d k call) (is_clear d call) (is_sustain_on d call) (is_sustain_off d call) (p.keys.sustain d) (p.keys.down d k) (p.keys.sustained d k) holds o _ _ _ a b c on down
    where
      by : (v press lift clear begin end u w x : Bool) → (u ≡ true → w ≡ true → x ≡ true) → (begin ≡ true → ((end || clear) ≡ false) × (press ≡ false)) → (u' w' x' : Bool) → u' ≡ ((v && begin) || (u && not (v && (end || clear)))) → w' ≡ ((v && press) || (w && not (v && (lift || clear)))) → x' ≡ ((x || (((v && press) && u) || ((v && begin) && w))) && not (v && (end || clear))) → u' ≡ true → w' ≡ true → x' ≡ true
      by v press lift clear begin end u w x h o u' w' x' a b c on down = grind (arith, nat_tests)

-- over a record, from a console that held every key that was down where its sustain was on
module _ (s : Setup) (d k : ℕ) where
  on_from : (m : Meaning) (p : Model) (es : List Entry) → RecordLaw s m p es → (last_model s p es).keys.sustain d ≡ (is_on d es || (p.keys.sustain d && none (unsustains d) es))
  on_from m p [] law = by (p.keys.sustain d) where
    by : (u : Bool) → u ≡ (u && true)
    by true = refl
    by false = refl
  on_from m p (e ∷ es) law =
      on_from e.chest (after s p e.call) es law.1
      ∙ ap (λ (q : Model). is_on d es || (q.keys.sustain d && none (unsustains d) es)) (after_is s m p e law.0)
      ∙ ap (λ b. is_on d es || (b && none (unsustains d) es)) (on_then s p d k (is_ok e.answer) e.call)
      ∙ joined (sustains d e) (unsustains d e) (p.keys.sustain d) (some (unsustains d) es) (is_on d es)

  down_from : (m : Meaning) (p : Model) (es : List Entry) → RecordLaw s m p es → (last_model s p es).keys.down d k ≡ (is_down d k es || (p.keys.down d k && none (releases d k) es))
  down_from m p [] law = by (p.keys.down d k) where
    by : (u : Bool) → u ≡ (u && true)
    by true = refl
    by false = refl
  down_from m p (e ∷ es) law =
      down_from e.chest (after s p e.call) es law.1
      ∙ ap (λ (q : Model). is_down d k es || (q.keys.down d k && none (releases d k) es)) (after_is s m p e law.0)
      ∙ ap (λ b. is_down d k es || (b && none (releases d k) es)) (down_then s p d k (is_ok e.answer) e.call)
      ∙ joined (presses d k e) (releases d k e) (p.keys.down d k) (some (releases d k) es) (is_down d k es)

  held_from : (m : Meaning) (p : Model) (before es : List Entry) → RecordLaw s m p es → Holds p d k → p.keys.down d k ≡ is_down d k before → (last_model s p es).keys.sustained d k ≡ (holds d k before es || ((p.keys.sustained d k || (p.keys.sustain d && some (presses d k) es)) && none (unsustains d) es))
  held_from m p before [] law keeps is = by (p.keys.sustained d k) (p.keys.sustain d) where
    by : (x u : Bool) → x ≡ ((x || (u && false)) && true)
    by true u = refl
    by false true = refl
    by false false = refl
  held_from m p before (e ∷ es) law keeps is =
      let v = is_ok e.answer in
      let q = cond v (done s p e.call) p in
      let same : after s p e.call ≡ q = after_is s m p e law.0 in
      let down : q.keys.down d k ≡ is_down d k (before ++ e ∷ []) = down_then s p d k v e.call ∙ ap (λ b. presses d k e || (b && not (releases d k e))) is ∙ sym (since-push (presses d k) (releases d k) before e) in
      let then : Holds (after s p e.call) d k = subst (λ x. Holds x d k) (sym same) (holds_then s p d k keeps v e.call) in
      let rest = held_from e.chest (after s p e.call) (before ++ e ∷ []) es law.1 then (ap (λ (x : Model). x.keys.down d k) same ∙ down) in
      rest
      ∙ ap (λ (x : Model). holds d k (before ++ e ∷ []) es || ((x.keys.sustained d k || (x.keys.sustain d && some (presses d k) es)) && none (unsustains d) es)) same
      ∙ (λ i. holds d k (before ++ e ∷ []) es || ((held_then s p d k keeps v e.call i || (on_then s p d k v e.call i && some (presses d k) es)) && none (unsustains d) es))
      ∙ (λ i. holds d k (before ++ e ∷ []) es || ((((p.keys.sustained d k || ((presses d k e && p.keys.sustain d) || (sustains d e && is i))) && not (unsustains d e)) || ((sustains d e || (p.keys.sustain d && not (unsustains d e))) && some (presses d k) es)) && none (unsustains d) es))
      ∙ regrouped (presses d k e) (sustains d e) (unsustains d e) (p.keys.sustained d k) (p.keys.sustain d) (is_down d k before) (some (presses d k) es) (some (unsustains d) es) (holds d k (before ++ e ∷ []) es) (not_both v)
    where
      not_both : (v : Bool) → (v && is_sustain_on d e.call) ≡ true → (v && (is_sustain_off d e.call || is_clear d e.call)) ≡ false
      not_both true h = (one_way s p d k keeps e.call h).0
      not_both false h = refl

  pub keys_by : (m : Meaning) (es : List Entry) → RecordLaw s m (first s) es → (last_model s (first s) es).keys.down d k ≡ is_down d k es
  keys_by m es law = down_from m (first s) es law ∙ or_false (is_down d k es)

  pub on_by : (m : Meaning) (es : List Entry) → RecordLaw s m (first s) es → (last_model s (first s) es).keys.sustain d ≡ is_on d es
  on_by m es law = on_from m (first s) es law ∙ or_false (is_on d es)

  pub held_by : (m : Meaning) (es : List Entry) → RecordLaw s m (first s) es → (last_model s (first s) es).keys.sustained d k ≡ is_held d k es
  held_by m es law = held_from m (first s) [] es law (λ on down. cc) refl ∙ or_false (is_held d k es)

pub key_law : KeyLaw
key_law =
    record {
      keys = λ s m es law. record { down = λ d k. keys_by s d k m es law; sustain = λ d. on_by s d 0 m es law; sustained = λ d k. held_by s d k m es law };
      speaks = speaks;
    }
  where
    speaks : (s : Setup) (m : Meaning) (es : List Entry) (e : Entry) → RecordLaw s m (first s) (es ++ e ∷ []) → e.chest.speaking ≡ m.rule (modelled s (es ++ e ∷ [])).panel (λ d k. is_down d k (es ++ e ∷ []) || is_held d k (es ++ e ∷ []))
    speaks s m es e law =
        (every_entry s m (first s) es e [] law).speaks
        ∙ ap (λ (f : Panel → Places → Places). f p.panel (sounding p.keys)) (rule_kept s m (first s) es (law_front s m (first s) es (e ∷ []) law))
        ∙ ap (λ (q : Model). m.rule q.panel (sounding q.keys)) (sym (last_model-append s (first s) es (e ∷ [])))
        ∙ (λ i. m.rule (modelled s (es ++ e ∷ [])).panel (λ d k. keys_by s d k m (es ++ e ∷ []) law i || held_by s d k m (es ++ e ∷ []) law i))
      where
        p : Model
        p = after s (last_model s (first s) es) e.call

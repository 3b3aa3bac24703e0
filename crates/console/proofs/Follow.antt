-- Each kind of done call, from what its walk over the chest leaves to the model's next state. Assumes nothing.
use Rattle.std.proofs.Common.{◌≡◌, ℕ, ◌<◌, Bool, true, false, cond, Ok, Err, Result, sym, ap, ◌∙◌, subst, arith}
use Rattle.std.proofs.lemmas.Bool.Decides.{nat_tests}
use Rattle.chest.specs.Places.{none, changed}
use Rattle.chest.specs.Meaning.{Meaning, Panel, Bounded, Becomes, set_after, strobe_after, with_panel as with-panel-of}
use Rattle.chest.specs.Walks.{row_shown}
use Rattle.console.specs.declared.call.Call.{Call}
use Rattle.console.specs.declared.console.Console.{Console}
use Rattle.console.specs.declared.fault.PlayFault.{PlayFault}
use Rattle.console.specs.declared.key_table.KeyTable.{KeyTable}
use Rattle.console.specs.Keys.{Keys, sounding, pressed, lifted, sustain_begun, sustain_ended, cleared}
use Rattle.console.specs.KeyTable.{keys_of}
use Rattle.console.specs.Model.{Setup, Model, with_keys, with_panel, key_check, check, done, after}
use Rattle.console.specs.Record.{Answer, EntryLaw, strobing}
use Rattle.console.specs.Tracks.{Sane, Tracks}
use Rattle.console.proofs.Steps.{held, refused_follows, done-follows}
use Rattle.console.proofs.Keyed.{key_held, row_held, panel-held, key_err}

-- only a sustain that is on holds keys
abbrev pub Held : Keys → Type 0
Held s = (d k : ℕ) → s.sustained d k ≡ true → s.sustain d ≡ true

pub held-pressed : (s : Keys) (d k : ℕ) → Held s → Held (pressed s d k)
held-pressed s d k old e j h =
    let was = old e j in
    let at : e ≡ d → s.sustain e ≡ s.sustain d = λ u. ap s.sustain u in
    grind (arith, nat_tests)

pub others_pressed : (s : Keys) (d k e j : ℕ) → ((e ≡ d) × (j ≡ k) → ⊥) → sounding (pressed s d k) e j ≡ sounding s e j
others_pressed s d k e j ne = grind (arith, nat_tests)

pub sounds_pressed : (s : Keys) (d k : ℕ) → true ≡ sounding (pressed s d k) d k
sounds_pressed s d k = grind (arith, nat_tests)

pub others_lifted : (s : Keys) (d k e j : ℕ) → ((e ≡ d) × (j ≡ k) → ⊥) → sounding (lifted s d k) e j ≡ sounding s e j
others_lifted s d k e j ne = grind (arith, nat_tests)

-- what a sustain or a clear leaves of the keys
pub held-sustain : (s : Keys) (d : ℕ) (on : Bool) → Held s → Held (cond on (sustain_begun s d) (sustain_ended s d))
held-sustain s d true old e j h =
    let was = old e j in
    let at : e ≡ d → s.sustain e ≡ s.sustain d = λ u. ap s.sustain u in
    grind (arith, nat_tests)
held-sustain s d false old e j h = let was = old e j in grind (arith, nat_tests)

pub others_sustain : (s : Keys) (d : ℕ) (on : Bool) (e j : ℕ) → (e ≡ d → ⊥) → sounding (cond on (sustain_begun s d) (sustain_ended s d)) e j ≡ sounding s e j
others_sustain s d true e j ne = grind (arith, nat_tests)
others_sustain s d false e j ne = grind (arith, nat_tests)

pub fewer_sustain : (s : Keys) (d : ℕ) (on : Bool) (j : ℕ) → sounding (cond on (sustain_begun s d) (sustain_ended s d)) d j ≡ true → sounding s d j ≡ true
fewer_sustain s d true j h = grind (arith, nat_tests)
fewer_sustain s d false j h = grind (arith, nat_tests)

pub held-cleared : (s : Keys) (d : ℕ) → Held s → Held (cleared s d)
held-cleared s d old e j h = let was = old e j in grind (arith, nat_tests)

pub others_cleared : (s : Keys) (d e j : ℕ) → (e ≡ d → ⊥) → sounding (cleared s d) e j ≡ sounding s e j
others_cleared s d e j ne = grind (arith, nat_tests)

pub fewer_cleared : (s : Keys) (d j : ℕ) → sounding (cleared s d) d j ≡ true → sounding s d j ≡ true
fewer_cleared s d j h = grind (arith, nat_tests)

sane_keys : {p : Model} (keys : Keys) → Sane p → Held keys → Sane (with_keys p keys)
sane_keys keys sane held = record { held = held; stored = sane.stored }

module _ {C : Type 0} {meaning : C → Meaning} {settled : C → Type 0} (quiet : (c : C) (panel : Panel) → (meaning c).rule panel none ≡ none) where
  -- a division or a key that is none
  pub key_refused : {c : Console C} {s : Setup} {p : Model} (call : Call) (d k : ℕ) (then : Result Unit PlayFault) (e : PlayFault) (r : Answer) (t : Tracks meaning settled c s p) → check s p call ≡ key_check s.reach d k then → r ≡ Err e → key_check (meaning c.chest).reach d k (Ok tt) ≡ Err e → Tracks meaning settled c s (after s p call) × EntryLaw s (meaning c.chest) p (record { call = call; answer = r; chest = meaning c.chest })
  key_refused {c} {s} call d k then e r t is answered given =
      let reach = ap (λ x. x.reach) t.setup in
      refused_follows quiet call e r t answered (is ∙ ap (λ x. key_check x d k then) (sym reach) ∙ key_err (meaning c.chest).reach d k e then given)

  module _ {c : Console C} {s : Setup} {p : Model} (call : Call) (n : ℕ) (keys : KeyTable) (mid last : C) (t : Tracks meaning settled c s p) (f : check s p call ≡ Ok tt) (strobes : strobing call ≡ true) (strobe : Becomes meaning settled mid last (strobe_after (meaning mid))) (count : n ≡ changed (meaning mid).speaking (meaning last).speaking) where
    -- one key: set as it sounds, then strobed
    pub key_follows : (to : Keys) (d k : ℕ) (on : Bool) → done s p call ≡ with_keys p to → keys_of keys ≡ to → Held to → d < 16 → k < (meaning c.chest).reach d → on ≡ sounding to d k → ((e j : ℕ) → ((e ≡ d) × (j ≡ k) → ⊥) → sounding to e j ≡ sounding p.keys e j) → Becomes meaning settled c.chest mid (set_after (meaning c.chest) d k on) → Tracks meaning settled (record { chest = last; knobs = c.knobs; pistons = c.pistons; keys = keys }) s (after s p call) × EntryLaw s (meaning c.chest) p (record { call = call; answer = Ok n; chest = meaning last })
    key_follows to d k on is tables holds hd hk sounds others set =
        let at = set t.steady in
        let mid-is = at.1 ∙ key_held t.agrees to d k on hd hk sounds others ∙ ap (held (meaning c.chest)) (sym is) in
        done-follows quiet call n keys mid last t f strobes (at.0, mid-is) strobe count (tables ∙ sym (ap (λ q. q.keys) is)) (ap (λ q. q.stored) is) (subst Sane (sym is) (sane_keys to t.sane holds))

    -- a division: its keys set as they sound, then strobed
    pub row_follows : (to : Keys) (d : ℕ) → Bounded (meaning c.chest) → done s p call ≡ with_keys p to → keys_of keys ≡ to → Held to → ((e j : ℕ) → (e ≡ d → ⊥) → sounding to e j ≡ sounding p.keys e j) → ((j : ℕ) → sounding to d j ≡ true → sounding p.keys d j ≡ true) → Becomes meaning settled c.chest mid (row_shown (meaning c.chest) (sounding (keys_of keys)) d ((meaning c.chest).reach d)) → Tracks meaning settled (record { chest = last; knobs = c.knobs; pistons = c.pistons; keys = keys }) s (after s p call) × EntryLaw s (meaning c.chest) p (record { call = call; answer = Ok n; chest = meaning last })
    row_follows to d bounded is tables holds others fewer set =
        let m = meaning c.chest in
        let at = set t.steady in
        let mid-is = at.1 ∙ ap (λ x. row_shown m (sounding x) d (m.reach d)) tables ∙ row_held t.agrees to bounded d others fewer ∙ ap (held m) (sym is) in
        done-follows quiet call n keys mid last t f strobes (at.0, mid-is) strobe count (tables ∙ sym (ap (λ q. q.keys) is)) (ap (λ q. q.stored) is) (subst Sane (sym is) (sane_keys to t.sane holds))

    -- knobs: turned, then strobed
    pub panel-follows : (to : Panel) {x : Meaning} → done s p call ≡ with_panel p to → keys ≡ c.keys → Becomes meaning settled c.chest mid x → x ≡ with-panel-of (meaning c.chest) to → Tracks meaning settled (record { chest = last; knobs = c.knobs; pistons = c.pistons; keys = keys }) s (after s p call) × EntryLaw s (meaning c.chest) p (record { call = call; answer = Ok n; chest = meaning last })
    panel-follows to is kept turned shown =
        let m = meaning c.chest in
        let set = turned t.steady in
        let mid-is = set.1 ∙ shown ∙ panel-held t.agrees to ∙ ap (held m) (sym is) in
        done-follows quiet call n keys mid last t f strobes (set.0, mid-is) strobe count (ap keys_of kept ∙ t.keys ∙ sym (ap (λ q. q.keys) is)) (ap (λ q. q.stored) is) (subst Sane (sym is) (record { held = t.sane.held; stored = t.sane.stored }))

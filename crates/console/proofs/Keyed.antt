-- What the calls on keys and knobs set in a chest, in the model's words. Assumes nothing.
use Rattle.std.proofs.Common.{◌≡◌, ℕ, ◌<◌, Bool, true, Ok, Err, Result, sym, ap, ◌∙◌, arith}
use Rattle.std.proofs.lemmas.Bool.Decides.{nat_tests}
use Rattle.chest.specs.Places.{Places, put}
use Rattle.chest.specs.Meaning.{Meaning, Panel, Bounded, set_after, with_panel}
use Rattle.chest.specs.Walks.{row_shown}
use Rattle.chest.proofs.Calls.{set-done}
use Rattle.console.specs.declared.fault.PlayFault.{PlayFault}
use Rattle.console.specs.Keys.{Keys, sounding}
use Rattle.console.specs.Model.{Model, with_keys, with_panel as model-panel, key_check}
use Rattle.console.specs.Tracks.{Agrees}
use Rattle.console.proofs.Steps.{held}

-- a key that fails its checks fails those that come after too
pub key_err : (reach : ℕ → ℕ) (d k : ℕ) (e : PlayFault) (then : Result Unit PlayFault) → key_check reach d k (Ok tt) ≡ Err e → key_check reach d k then ≡ Err e
key_err reach d k e then is = grind (arith, nat_tests)

-- one key set as it sounds
module _ {m : Meaning} {p : Model} (agrees : Agrees m p) (keys : Keys) where
  abbrev both : Places → Panel → Meaning
  both s f = record { reach = m.reach; register = s; panel = f; speaking = m.speaking; strobes = m.strobes; rule = m.rule }

  pub key_held : (d k : ℕ) (on : Bool) → d < 16 → k < m.reach d → on ≡ sounding keys d k → ((e j : ℕ) → ((e ≡ d) × (j ≡ k) → ⊥) → sounding keys e j ≡ sounding p.keys e j) → set_after m d k on ≡ held m (with_keys p keys)
  key_held d k on hd hk is others =
      set-done m d k on hd hk ∙ (λ i. both (λ e j. one e j i) (agrees.panel i))
    where
      one : (e j : ℕ) → put m.register d k on e j ≡ sounding keys e j
      one e j =
          let old : m.register e j ≡ sounding p.keys e j = ap (λ (s : Places). s e j) agrees.register in
          let there : e ≡ d → j ≡ k → sounding keys e j ≡ on = λ (u : e ≡ d) (v : j ≡ k). (λ i. sounding keys (u i) (v i)) ∙ sym is in
          let rest = others e j in
          grind (arith, nat_tests)

  -- a division's keys set as they sound
  pub row_held : Bounded m → (d : ℕ) → ((e j : ℕ) → (e ≡ d → ⊥) → sounding keys e j ≡ sounding p.keys e j) → ((j : ℕ) → sounding keys d j ≡ true → sounding p.keys d j ≡ true) → row_shown m (sounding keys) d (m.reach d) ≡ held m (with_keys p keys)
  row_held bounded d others fewer = λ i. both (λ e j. one e j i) (agrees.panel i) where
    one : (e j : ℕ) → (row_shown m (sounding keys) d (m.reach d)).register e j ≡ sounding keys e j
    one e j =
        let old : m.register e j ≡ sounding p.keys e j = ap (λ (s : Places). s e j) agrees.register in
        let inside = bounded.register e j in
        let rest = others e j in
        let less = fewer j in
        let at : e ≡ d → sounding keys e j ≡ sounding keys d j = λ (u : e ≡ d). ap (λ n. sounding keys n j) u in
        let was : e ≡ d → sounding p.keys e j ≡ sounding p.keys d j = λ (u : e ≡ d). ap (λ n. sounding p.keys n j) u in
        let reach : e ≡ d → m.reach e ≡ m.reach d = λ (u : e ≡ d). ap m.reach u in
        grind (arith, nat_tests)

-- knobs turned
pub panel-held : {m : Meaning} {p : Model} (agrees : Agrees m p) (to : Panel) → with_panel m to ≡ held m (model-panel p to)
panel-held {m} agrees to =
    λ i. record { reach = m.reach; register = agrees.register i; panel = to; speaking = m.speaking; strobes = m.strobes; rule = m.rule }

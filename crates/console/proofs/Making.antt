-- A making, over meanings: what stands once the rows are out, the knobs at home and the chest strobed. Assumes nothing.
use Rattle.std.proofs.Common.{◌≡◌, ℕ, Bool, true, false, get_or, Some, None, Option, sym, refl, ap, ◌∙◌, subst, arith}
use Rattle.std.specs.Option.{option_map}
use Rattle.std.proofs.lemmas.Bool.Decides.{nat_tests}
use Rattle.chest.specs.Places.{none}
use Rattle.chest.specs.Meaning.{Meaning, Panel, Bounded, Becomes, strobe_after, with_register}
use Rattle.console.specs.declared.key_table.KeyTable.{KeyTable}
use Rattle.console.specs.declared.knob_table.KnobTable.{KnobTable}
use Rattle.console.specs.declared.piston_table.PistonTable.{PistonTable}
use Rattle.console.specs.Keys.{no_keys}
use Rattle.console.specs.KeyTable.{keys_of}
use Rattle.console.specs.KnobTable.{home_of}
use Rattle.console.specs.PistonTable.{scope_of, frame_of}
use Rattle.console.specs.Model.{Setup, Memory, first, all_home, memory}
use Rattle.console.specs.Record.{Making}
use Rattle.console.specs.Tracks.{Agrees, Sane, Makes, setup_of, stored_of}
use Rattle.console.specs.Walks.{knobs_turned}

-- every knob is at home, and at 0 where it is undefined
panel-all : (m : Meaning) (reach : ℕ → ℕ) (knobs : KnobTable) (pistons : PistonTable) → Bounded m → (knobs_turned m (λ k. Some (home_of knobs k)) 64).panel ≡ all_home (setup_of reach knobs pistons)
panel-all m reach knobs pistons bounded = λ i k. one k i where
  one : (k : ℕ) → (knobs_turned m (λ k. Some (home_of knobs k)) 64).panel k ≡ all_home (setup_of reach knobs pistons) k
  one k = let past = bounded.knobs k in grind (arith, nat_tests)

-- the first model keeps what every model keeps
first-sane : (s : Setup) → Sane (first s)
first-sane s = record { held = λ d k h. absurd (off h); stored = λ q k n m h e. absurd (no_memory m h) } where
  off : ◌≡◌ {A = Bool} false true → ⊥
  off h = let z : ◌≡◌ {A = ℕ} 0 1 = cc in omega arith

  no_memory : (m : Memory) → ◌≡◌ {A = Option Memory} None (Some m) → ⊥
  no_memory m h = let z : ◌≡◌ {A = ℕ} 0 1 = cc in omega arith

module _ {C : Type 0} {meaning : C → Meaning} {settled : C → Type 0} (quiet : (c : C) (panel : Panel) → (meaning c).rule panel none ≡ none) where
  -- cleared, turned home and strobed, the console stands as the first model
  pub makes : (chest last : C) (knobs : KnobTable) (pistons released : PistonTable) (keys : KeyTable) → Bounded (meaning chest) → Becomes meaning settled chest last (strobe_after (knobs_turned (with_register (meaning chest) none) (λ k. Some (home_of knobs k)) 64)) → ((q : ℕ) → scope_of released q ≡ scope_of pistons q) → ((q : ℕ) → frame_of released q ≡ None) → keys_of keys ≡ no_keys → Makes meaning settled chest knobs pistons (record { chest = last; knobs = knobs; pistons = released; keys = keys })
  makes chest last knobs pistons released keys bounded walked scopes frames is-keys start =
      let m = meaning chest in
      let s = setup_of m.reach knobs pistons in
      let at = walked start in
      let made : Meaning = strobe_after (knobs_turned (with_register m none) (λ k. Some (home_of knobs k)) 64) in
      let panel = panel-all m m.reach knobs pistons bounded in
      let speaks : made.speaking ≡ m.rule (all_home s) none = λ i. m.rule (panel i) none in
      let agrees : Agrees made (first s) = record { register = refl; panel = panel; speaks = speaks } in
      let now : Meaning → Type 0 = λ x. Making s m x × Agrees x (first s) in
      let both : now made = (record { speaks = speaks; silence = speaks ∙ quiet chest (all_home s); strobes = refl; rule = refl; reach = refl }, agrees) in
      let done = subst now (sym at.1) both in
      let reach : (meaning last).reach ≡ m.reach = ap (λ x. x.reach) at.1 in
      let setup : setup_of (meaning last).reach knobs released ≡ s = λ i. record { reach = reach i; steps = s.steps; home = s.home; scope = λ q. scopes q i } in
      let stored : stored_of s released ≡ (λ q. None) = λ i q. option_map (λ frame. memory s (λ k. get_or frame k 0) q) (frames q i) in
      (done.0, record { steady = at.0; setup = setup; keys = is-keys; stored = stored; agrees = done.1; sane = first-sane s })

-- What turn, cancel, recall and capture come to in the model. Assumes nothing.
use Rattle.std.proofs.Common.{◌≡◌, ℕ, ◌<◌, ◌≤◌, cond, ◌&&◌, ltb, List, get_or, is_some, Some, None, Ok, Err, Option, unwrap_or, sym, ap, ◌∙◌, arith}
use Rattle.std.proofs.lemmas.Bool.Decides.{nat_tests}
use Rattle.fittings.specs.declared.Scope.{Scope}
use Rattle.chest.specs.Meaning.{Meaning, Panel, with_panel}
use Rattle.console.specs.declared.fault.PlayFault.TheVariants.{Position}
use Rattle.console.specs.declared.knob_table.KnobTable.{KnobTable}
use Rattle.console.specs.KnobTable.{steps_of, home_of, homes_of}
use Rattle.console.specs.Model.{Setup, Memory, knob_check, homed, memory, recalled}
use Rattle.console.specs.PistonTable.{in_scope}
use Rattle.console.specs.Walks.{knobs_turned, frame_in}

pub knob_passes : (o : Option ℕ) (k q n : ℕ) → o ≡ Some n → q < n → knob_check o k q ≡ Ok tt
knob_passes o k q n e h = ap (λ x. knob_check x k q) e ∙ passes where
  passes : knob_check (Some n) k q ≡ Ok tt
  passes = grind (arith, nat_tests)

pub knob_fails : (o : Option ℕ) (k q n : ℕ) → o ≡ Some n → n ≤ q → knob_check o k q ≡ Err (Position k q)
knob_fails o k q n e h = ap (λ x. knob_check x k q) e ∙ fails where
  fails : knob_check (Some n) k q ≡ Err (Position k q)
  fails = grind (arith, nat_tests)

-- only a knob below 64 has a home or is taken
homes_past : (knobs : KnobTable) (k : ℕ) → cond (ltb k 64) (homes_of knobs k) None ≡ homes_of knobs k
homes_past knobs k = grind (arith, nat_tests)

frame_past : (knobs : KnobTable) (scope : Scope) (frame : List ℕ) (k : ℕ) → cond (ltb k 64) (frame_in knobs scope frame k) None ≡ frame_in knobs scope frame k
frame_past knobs scope frame k = grind (arith, nat_tests)

-- the walk of a cancel
pub homed-is : (m : Meaning) (s : Setup) (knobs : KnobTable) (panel : Panel) → steps_of knobs ≡ s.steps → home_of knobs ≡ s.home → m.panel ≡ panel → knobs_turned m (homes_of knobs) 64 ≡ with_panel m (homed s panel)
homed-is m s knobs panel is-steps is_home is-panel = λ i. with_panel m (λ k. one k i) where
  one : (k : ℕ) → (knobs_turned m (homes_of knobs) 64).panel k ≡ homed s panel k
  one k =
      let a : is_some (steps_of knobs k) ≡ is_some (s.steps k) = ap (λ (f : ℕ → Option ℕ). is_some (f k)) is-steps in
      let b : home_of knobs k ≡ s.home k = ap (λ (f : ℕ → ℕ). f k) is_home in
      let c : m.panel k ≡ panel k = ap (λ (f : ℕ → ℕ). f k) is-panel in
      let d = homes_past knobs k in
      grind (arith, nat_tests)

-- the walk of a recall
pub memory_is : (s : Setup) (q : ℕ) (knobs : KnobTable) (scope : Scope) (frame : List ℕ) → steps_of knobs ≡ s.steps → s.scope q ≡ Some scope → frame_in knobs scope frame ≡ memory s (λ k. get_or frame k 0) q
memory_is s q knobs scope frame is-steps is-scope =
    let taken : Some scope ≡ s.scope q = sym is-scope in
    λ i k. cond (is_some (is-steps i k) && in_scope (taken i) k) (Some (get_or frame k 0)) None

pub recalled-is : (m : Meaning) (s : Setup) (q : ℕ) (knobs : KnobTable) (scope : Scope) (frame : List ℕ) (panel : Panel) (o : Option Memory) → steps_of knobs ≡ s.steps → s.scope q ≡ Some scope → o ≡ Some (memory s (λ k. get_or frame k 0) q) → m.panel ≡ panel → knobs_turned m (frame_in knobs scope frame) 64 ≡ with_panel m (recalled o panel)
recalled-is m s q knobs scope frame panel o is-steps is-scope is-stored is-panel =
    (λ i. with_panel m (λ k. unwrap_or (frame_past knobs scope frame k i) (is-panel i k)))
    ∙ (λ i. with_panel m (λ k. unwrap_or (memory_is s q knobs scope frame is-steps is-scope i k) (panel k)))
    ∙ (λ i. with_panel m (recalled (sym is-stored i) panel))

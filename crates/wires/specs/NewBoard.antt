-- What a board of wires is when it is made over a chest. Assumes nothing.
use Rattle.std.specs.Prelude.{◌≡◌, ℕ, ◌<◌, ◌≤◌, false, List, [], slice_index}
use Rattle.chest.specs.Places.{Places, none}
use Rattle.chest.specs.Meaning.{Meaning, Panel, with_register}
use Rattle.wires.specs.Wired.{bare_wired, bare_meaning}

-- over a chest that means m, with a table of reaches
pub record NewBoard (reaches : List ℕ) (m : Meaning) : Type 0 where
  -- no key is set and no wire is fitted
  pub register : (r p : ℕ) → (bare_meaning reaches m).register r p ≡ false
  pub wires : (bare_wired reaches m).wires ≡ []
  -- it has the keys that it was asked to have, up to 128 in each of 16 rows
  pub below : (r : ℕ) → r < 16 → slice_index reaches r ≤ 128 → (bare_meaning reaches m).reach r ≡ slice_index reaches r
  pub above : (r : ℕ) → r < 16 → 128 < slice_index reaches r → (bare_meaning reaches m).reach r ≡ 128
  pub past : (r : ℕ) → 16 ≤ r → (bare_meaning reaches m).reach r ≡ 0
  -- the knobs stand as they stood, what speaks goes on, and nothing strobed
  pub panel : (bare_meaning reaches m).panel ≡ m.panel
  pub speaking : (bare_meaning reaches m).speaking ≡ m.speaking
  pub strobes : (bare_meaning reaches m).strobes ≡ m.strobes
  -- whatever keys are set, without a wire the chest below is asked for nothing
  pub rule : (panel : Panel) (s : Places) → (bare_meaning reaches m).rule panel s ≡ m.rule panel none
  -- of the chest below just the register is cleared
  pub cleared : (r p : ℕ) → (with_register m none).register r p ≡ false
  pub reach_below : (with_register m none).reach ≡ m.reach
  pub panel_below : (with_register m none).panel ≡ m.panel
  pub speaking_below : (with_register m none).speaking ≡ m.speaking
  pub strobes_below : (with_register m none).strobes ≡ m.strobes
  pub rule_below : (with_register m none).rule ≡ m.rule

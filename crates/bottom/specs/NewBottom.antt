-- What a bottom chest is when it is made, and its rule ever after. Assumes nothing.
use Rattle.std.specs.Prelude.{◌≡◌, ℕ, ◌<◌, ◌≤◌, false, List, slice_index}
use Rattle.chest.specs.Places.{Places}
use Rattle.chest.specs.Meaning.{Panel}
use Rattle.bottom.specs.declared.magnet_chest.MagnetChest.{MagnetChest}
use Rattle.bottom.specs.declared.midi_chest.MidiChest.{MidiChest}
use Rattle.bottom.specs.Foot.{new_bottom}
use Rattle.bottom.specs.MagnetChest.{magnet_meaning}
use Rattle.bottom.specs.MidiChest.{midi_meaning}

-- a new one: no place of it is set, no pipe speaks, each knob stands at 0, and it was never strobed
pub record NewBottom (reaches : List ℕ) : Type 0 where
  pub register : (r p : ℕ) → (new_bottom reaches).register r p ≡ false
  pub speaking : (r p : ℕ) → (new_bottom reaches).speaking r p ≡ false
  pub panel : (k : ℕ) → (new_bottom reaches).panel k ≡ 0
  pub strobes : (new_bottom reaches).strobes ≡ 0
  -- it has the places that it was asked to have, up to 128 in each of 16 rows
  pub below : (r : ℕ) → r < 16 → slice_index reaches r ≤ 128 → (new_bottom reaches).reach r ≡ slice_index reaches r
  pub above : (r : ℕ) → r < 16 → 128 < slice_index reaches r → (new_bottom reaches).reach r ≡ 128
  pub past : (r : ℕ) → 16 ≤ r → (new_bottom reaches).reach r ≡ 0

-- the pipes of its rule are the places that are set, however the knobs stand
pub record GivesBack : Type 0 where
  pub magnets : (c : MagnetChest) (panel : Panel) (s : Places) → (magnet_meaning c).rule panel s ≡ s
  pub midi : (c : MidiChest) (panel : Panel) (s : Places) → (midi_meaning c).rule panel s ≡ s

-- What a stack is when it is put together over a bottom chest. Assumes nothing.
use Rattle.std.specs.Prelude.{◌≡◌, ℕ, false}
use Rattle.chest.specs.Meaning.{Meaning}

pub record NewStack (keys : ℕ → ℕ) (foot made : Meaning) : Type 0 where
  -- its rows are the divisions, and no key is set
  pub reach : (division : ℕ) → made.reach division ≡ keys division
  pub register : (division key : ℕ) → made.register division key ≡ false
  -- the knobs stand as they stood, what speaks goes on, and nothing strobed
  pub panel : made.panel ≡ foot.panel
  pub speaking : made.speaking ≡ foot.speaking
  pub strobes : made.strobes ≡ foot.strobes

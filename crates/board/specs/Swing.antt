-- What becomes of a way, and of a wire where a knob turns. Assumes nothing.
use Rattle.std.specs.Prelude.{ℕ, Bool, true, false, cond, Some, None, Option, ◌==◌}
use Rattle.wires.specs.declared.lead.Lead.{Lead}
use Rattle.wires.specs.declared.lead.Wait.{Wait}
use Rattle.board.specs.declared.swing.Swing.{Swing}
use Rattle.board.specs.declared.swing.Swing.TheVariants.{Starts, Stops}

abbrev pub starts : Swing → Bool
starts Starts = true
starts Stops = false

-- what becomes of a wire where a knob goes from one position to another: it starts to be live, or stops, or neither
abbrev pub swing_of : Option Wait → ℕ → ℕ → ℕ → Option Swing
swing_of None knob from to = None
swing_of (Some s) knob from to =
    cond (s.knob == knob) (cond (s.position == from) (Some Stops) (cond (s.position == to) (Some Starts) None)) None

abbrev pub swing : Lead → ℕ → ℕ → ℕ → Option Swing
swing w knob from to = swing_of w.setting knob from to

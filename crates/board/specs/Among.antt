-- Which wires of a list do something, by their numbers in it. Assumes nothing.
use Rattle.std.specs.Prelude.{ℕ, Bool, false, ◌&&◌, List, map, Some, None, Option, is_some, ◌==◌, nat_le, slice_index_or}
use Rattle.sets.specs.Numbers.{Numbers}
use Rattle.wires.specs.declared.lead.Lead.{Lead}
use Rattle.wires.specs.declared.lead.Wait.{Wait}
use Rattle.coupling.specs.Layout.{Reaches}
use Rattle.wires.specs.Wires.{landing}

-- the numbers of the wires of which something is true
abbrev pub among : (Lead → Bool) → List Lead → Numbers
among f ws i = slice_index_or (map f ws) i false

-- whether a wire leads from keys of a row, and whether a key of that number lands somewhere through it
abbrev pub leads_from : ℕ → Lead → Bool
leads_from row w = row == w.from

abbrev pub lands : Reaches → ℕ → Lead → Bool
lands reach key w =
    (nat_le w.lowest key && nat_le key w.highest) && is_some (landing w.raise (reach w.to) key)

-- whether it waits for a knob
abbrev pub waits_for : ℕ → Option Wait → Bool
waits_for knob None = false
waits_for knob (Some s) = s.knob == knob

abbrev pub waits : ℕ → Lead → Bool
waits knob w = waits_for knob w.setting

-- a wire that leads nowhere
abbrev pub blank : Lead
blank = record { from = 0; lowest = 0; highest = 0; to = 0; raise = 0; setting = None }

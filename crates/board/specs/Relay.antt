-- What a relay is as a coupling, and a board of it as a chest. Assumes nothing.
use Rattle.std.specs.Prelude.{◌≡◌}
use Rattle.chest.specs.Meaning.{Meaning}
use Rattle.coupling.specs.declared.board.Board.{Board}
use Rattle.coupling.specs.Layout.{Layout, Sound}
use Rattle.coupling.proofs.Desks.{desk_sound}
use Rattle.coupling.specs.Board as board
use Rattle.fittings.specs.declared.Wire.{Wire}
use Rattle.wires.specs.Wired.{Wired, image_with, wired_layout, with_wire}
use Rattle.wires.specs.Fitting.{lead_of}
use Rattle.board.specs.declared.relay.Relay.{Relay}
use Rattle.wires.proofs.Images.{wires_silent}
use Rattle.board.specs.Wiring.{wired, wires}

-- its wires, reaches, keys and positions
abbrev pub wired_of : Relay → Wired
wired_of r = wired r.wiring

-- what it wants below is the image of its wires
abbrev pub relay_layout : Relay → Layout
relay_layout r = wired_layout (wired_of r)

-- a wire more at the end, and no way more: no key is set
abbrev pub TakesWire : Relay → Wire → Relay → Type 0
TakesWire r w r' = (wired_of r' ≡ with_wire (wired_of r) (lead_of w)) × (r'.ways ≡ r.ways)

pub relay_sound : (r : Relay) → Sound (relay_layout r)
relay_sound r = desk_sound r.wiring.desk (image_with (wires r.wiring)) (wires_silent (wires r.wiring))

-- a board of it over any chest, what that means, and when it is settled
abbrev pub RelayBoard : Type 0 → Type 0
RelayBoard C = Board Relay C

module _ {C : Type 0} (meaning : C → Meaning) where
  abbrev pub meaning_of : RelayBoard C → Meaning
  meaning_of = board.meaning_of relay_layout meaning

  abbrev pub Settled : (C → Type 0) → RelayBoard C → Type 0
  Settled = board.Settled relay_layout meaning

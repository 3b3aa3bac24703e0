-- A board of a relay as it is made. Assumes nothing.
use Rattle.std.specs.Prelude.{◌≡◌, ℕ, List, []}
use Rattle.chest.specs.Meaning.{Meaning}
use Rattle.coupling.specs.Making.{new_over}
use Rattle.wires.specs.Wired.{image_with, bare_wired}
use Rattle.board.specs.declared.relay.Relay.{Relay}
use Rattle.board.specs.Wiring.{wires}
use Rattle.board.specs.Relay.{wired_of, relay_layout}

-- it has no wire
pub made_bare : (r : Relay) (reaches : List ℕ) (m : Meaning) → relay_layout r ≡ new_over (image_with []) reaches m → wires r.wiring ≡ [] → wired_of r ≡ bare_wired reaches m
made_bare r reaches m lay bare =
    λ i. record { reach = (lay i).reach; below = (lay i).below; wires = bare i; panel = (lay i).panel; register = (lay i).register }

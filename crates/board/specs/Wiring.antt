-- What the tables of a relay hold. Assumes nothing.
use Rattle.std.specs.Prelude.{List}
use Rattle.chest.specs.Places.{Places}
use Rattle.chest.specs.Meaning.{Panel}
use Rattle.coupling.specs.Layout.{Reaches}
use Rattle.coupling.specs.KeyDesk as desk
use Rattle.wires.specs.declared.lead.Lead.{Lead}
use Rattle.wires.specs.Wired.{Wired}
use Rattle.board.specs.declared.wiring.Wiring.{Wiring}

-- the reaches of the chest below
abbrev pub beneath : Wiring → Reaches
beneath h = desk.beneath h.desk

-- the keys that are set
abbrev pub register : Wiring → Places
register h = desk.register h.desk

abbrev pub panel : Wiring → Panel
panel h = desk.panel h.desk

-- the wires that are fitted, in their order
abbrev pub wires : Wiring → List Lead
wires h = h.leads.items

-- all of it
abbrev pub wired : Wiring → Wired
wired h =
    record { reach = desk.own h.desk; below = beneath h; wires = wires h; panel = panel h; register = register h }

-- What a key desk holds. Assumes nothing.
use Rattle.std.specs.Prelude.{slice_index_or}
use Rattle.sets.specs.NumberSet.{members, empty}
use Rattle.chest.specs.Places.{Places}
use Rattle.chest.specs.Meaning.{Panel}
use Rattle.chest.specs.Positions.{positions_of}
use Rattle.chest.specs.Reaches.{reaches_of}
use Rattle.coupling.specs.declared.key_desk.KeyDesk.{KeyDesk}
use Rattle.coupling.specs.Layout.{Reaches, Image, Layout}

-- the board's own reaches, and those of the chest below
abbrev pub own : KeyDesk → Reaches
own d = reaches_of d.reaches

abbrev pub beneath : KeyDesk → Reaches
beneath d = reaches_of d.below

-- the keys that are set, and the positions of the knobs
abbrev pub register : KeyDesk → Places
register d r = members (slice_index_or d.keys r empty)

abbrev pub panel : KeyDesk → Panel
panel d = positions_of d.positions

-- the layout of a coupling that stands on a key desk and has this image
abbrev pub layout_of : KeyDesk → Image → Layout
layout_of d image =
    record { reach = own d; below = beneath d; panel = panel d; register = register d; image = image }

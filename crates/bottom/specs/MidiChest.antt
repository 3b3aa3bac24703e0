-- What a MIDI chest means, and the set of pipes that it has sent; it is always settled. Assumes nothing.
use Rattle.std.specs.Prelude.{◌≡◌, ℕ}
use Rattle.chest.specs.Places.{Places}
use Rattle.chest.specs.Meaning.{Meaning}
use Rattle.bottom.specs.declared.foot.Foot.{Foot}
use Rattle.bottom.specs.declared.midi_chest.MidiChest.{MidiChest}
use Rattle.bottom.specs.Drain.{Drained, drained}
use Rattle.bottom.specs.Foot.{foot_meaning}
use Rattle.bottom.specs.PipeTable.{shown}

abbrev pub midi_meaning : MidiChest → Meaning
midi_meaning c = foot_meaning c.foot

abbrev pub MidiSettled : MidiChest → Type 0
MidiSettled c = Unit {0}

-- the pipes that speak as far as its receiver was told
abbrev pub midi_sent : MidiChest → Places
midi_sent c = shown c.sent

-- what both bottom chests keep
abbrev pub foot_of : MidiChest → Foot
foot_of c = c.foot

-- from one chest to another nothing is sent
abbrev pub NothingSent : MidiChest → MidiChest → Type 0
NothingSent c d = d.sent ≡ c.sent

-- its drain into a buffer of so many bytes
abbrev pub midi_drained : MidiChest → ℕ → Drained
midi_drained c room = drained (midi_sent c) (midi_meaning c).speaking room

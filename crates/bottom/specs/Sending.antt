-- What one sending of a MIDI chest is: all that its drain promises. Assumes nothing.
use Rattle.std.specs.Prelude.{◌≡◌, ℕ, List, ◌++◌, length, take, drop}
use Rattle.bottom.specs.declared.midi_chest.MidiChest.{MidiChest}
use Rattle.bottom.specs.MidiChest.{midi_meaning, midi_sent, foot_of, midi_drained}
use Rattle.bottom.specs.Receiver.{DrainLaw}
use Rattle.bottom.specs.Notes.{NotesSent}
use Rattle.bottom.specs.Run.{Run}

-- a chest and a buffer before, the number of bytes written, and the buffer and the chest after
pub record MidiSends (c : MidiChest) (before : List ℕ) (count : ℕ) (after : List ℕ) (d : MidiChest) : Type 0 where
  pub answer : count ≡ length (midi_drained c (length before)).bytes
  pub items : after ≡ (midi_drained c (length before)).bytes ++ drop count before
  pub sent : midi_sent d ≡ (midi_drained c (length before)).sent
  pub foot : foot_of d ≡ foot_of c
  pub law : DrainLaw (midi_meaning c).speaking (midi_sent c) (midi_sent d) (length before) (take count after)
  pub notes : NotesSent (midi_meaning c).speaking (midi_sent c) (midi_sent d) before after count
  pub run : (line : List ℕ) → Run c line → Run d (line ++ take count after)

-- The runs of a MIDI chest, from its making on, and what its receiver has after each. Assumes nothing.
use Rattle.std.specs.Prelude.{◌≡◌, ℕ, Bool, false, List, [], ◌++◌}
use Rattle.chest.specs.Places.{none, differ}
use Rattle.chest.specs.Meaning.{set_after, turn_after, strobe_after}
use Rattle.bottom.specs.declared.midi_chest.MidiChest.{MidiChest}
use Rattle.bottom.specs.Foot.{new_bottom}
use Rattle.bottom.specs.MidiChest.{midi_meaning, midi_sent, midi_drained}
use Rattle.bottom.specs.Receiver.{notes_after, DrainLaw}

-- a chest after a run, and the line that its drains have written; every call goes on from any run
pub data Run : MidiChest → List ℕ → Type 0 where
  makes : {c : MidiChest} (reaches : List ℕ) → midi_meaning c ≡ new_bottom reaches → midi_sent c ≡ none → Run c []
  sets : {c d : MidiChest} {line : List ℕ} (row place : ℕ) (on : Bool) → Run c line → midi_meaning d ≡ set_after (midi_meaning c) row place on → midi_sent d ≡ midi_sent c → Run d line
  turns : {c d : MidiChest} {line : List ℕ} (knob position : ℕ) → Run c line → midi_meaning d ≡ turn_after (midi_meaning c) knob position → midi_sent d ≡ midi_sent c → Run d line
  strobes : {c d : MidiChest} {line : List ℕ} → Run c line → midi_meaning d ≡ strobe_after (midi_meaning c) → midi_sent d ≡ midi_sent c → Run d line
  drains : {c d : MidiChest} {line : List ℕ} (room : ℕ) → Run c line → midi_meaning d ≡ midi_meaning c → midi_sent d ≡ (midi_drained c room).sent → Run d (line ++ (midi_drained c room).bytes)

-- a receiver that started with no notes and read the line
pub record ReceiverLaw (c : MidiChest) (line : List ℕ) : Type 0 where
  -- it has exactly the pipes sent
  pub has : notes_after line ≡ midi_sent c
  -- and where nothing is pending, exactly those that speak
  pub caught_up : ((r p : ℕ) → differ (midi_sent c r p) ((midi_meaning c).speaking r p) ≡ false) → notes_after line ≡ (midi_meaning c).speaking
  -- whatever drain comes next: each of its messages changes one note, whose pipe was pending, to how it speaks
  pub next : (room : ℕ) → DrainLaw (midi_meaning c).speaking (notes_after line) (notes_after (line ++ (midi_drained c room).bytes)) room (midi_drained c room).bytes

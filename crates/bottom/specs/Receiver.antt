-- Who hears the line of a MIDI chest: a receiver that has a set of notes, by channel and key; and what a drain is to it.
-- Assumes nothing.
use Rattle.std.specs.Prelude.{◌≡◌, ℕ, ◌+◌, ◌<◌, true, false, ◌⊎◌, List, [], ◌∷◌, ◌++◌, length, nat_lt}
use Rattle.chest.specs.Places.{Places, none, put, differ}
use Rattle.midi.specs.declared.message.Message.{Message}
use Rattle.midi.specs.declared.message.Message.TheVariants.{NoteOff, NoteOn, KeyPressure, Controller, Program, ChannelPressure, Bend}
use Rattle.midi.specs.Reading.{reading, ReadsAs}

-- a note on puts its note on, at velocity 0 off; a note off puts it off; no other message changes the notes
abbrev pub hears : Places → Message → Places
hears notes (NoteOn c k v) = put notes c k (nat_lt 0 v)
hears notes (NoteOff c k v) = put notes c k false
hears notes (KeyPressure c k p) = notes
hears notes (Controller c n v) = notes
hears notes (Program c p) = notes
hears notes (ChannelPressure c p) = notes
hears notes (Bend c v) = notes

-- one message after another
abbrev pub heard : Places → List Message → Places
heard notes [] = notes
heard notes (m ∷ ms) = heard (hears notes m) ms

-- the notes that a receiver has that started with none and read this line, by MIDI's own reading
abbrev pub notes_after : List ℕ → Places
notes_after line = heard none (reading line)

-- one note changes, which did not stand as its pipe speaks, and now does
pub record Nearer (speaking before after : Places) : Type 0 where
  pub row : ℕ
  pub place : ℕ
  pub pending : differ (before row place) (speaking row place) ≡ true
  pub one : after ≡ put before row place (speaking row place)

-- each message takes the receiver nearer to what speaks, and all of them from one set of notes to another
abbrev pub Towards : Places → Places → List Message → Places → Type 0
Towards speaking notes [] after = after ≡ notes
Towards speaking notes (m ∷ ms) after = Nearer speaking notes (hears notes m) × Towards speaking (hears notes m) ms after

-- what was sent before and is sent after a drain into a buffer of so many bytes, of which it wrote these
pub record DrainLaw (speaking before after : Places) (room : ℕ) (bytes : List ℕ) : Type 0 where
  -- a receiver that had what was sent has what is sent, whatever line brought it there
  pub has : (line : List ℕ) → notes_after line ≡ before → notes_after (line ++ bytes) ≡ after
  -- the messages that it reads change one pending pipe each, to how it speaks
  pub messages : List Message
  pub reads : ReadsAs bytes messages
  pub towards : Towards speaking before messages after
  -- it stops only where nothing is pending, or three more bytes do not fit
  pub stops : (after ≡ speaking) ⊎ (room < length bytes + 3)

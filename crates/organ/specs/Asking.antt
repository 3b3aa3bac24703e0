-- Which calls a MIDI line can ask for, and which messages ask for each, by their numbers. Assumes nothing.
use Rattle.std.specs.Prelude.{◌≡◌, ◌≢◌, ◌⊎◌, ◌↔◌, ℕ, ◌+◌, ◌<◌, ◌≤◌, true, false, cond, codes}
use Rattle.midi.specs.declared.message.Message.{Message}
use Rattle.midi.specs.declared.message.Message.TheVariants.{NoteOff, NoteOn, Controller, Program}
use Rattle.midi.specs.Reading.{InRange}
use Rattle.console.specs.declared.fault.PlayFault.TheVariants.{Key}
use Rattle.console.specs.declared.call.Call.{Call}
use Rattle.console.specs.declared.call.Call.TheVariants.{Press, Lift, Sustain, Clear, Turn, Capture, Recall, Cancel}
use Rattle.organ.specs.declared.action.Action.TheVariants.{Perform, LowNote}
use Rattle.organ.specs.declared.line.Line.TheVariants.{Fault}
use Rattle.organ.specs.Action.{action_of, low_note}
use Rattle.organ.specs.Line.{line_bytes}

-- keys 0 to 91 of divisions 0 to 14, and the sustains and clears of these; knobs 0 to 63, to positions up to 127;
-- captures on pistons up to 126 and recalls of pistons up to 127, of which only 0 to 39 can be there; and a cancel
abbrev pub Askable : Call → Type 0
Askable (Press division key) = (division < 15) × (key < 92)
Askable (Lift division key) = (division < 15) × (key < 92)
Askable (Sustain division on) = division < 15
Askable (Clear division) = division < 15
Askable (Turn knob position) = (knob < 64) × (position < 128)
Askable (Capture piston) = piston < 127
Askable (Recall piston) = piston < 128
Askable Cancel = Unit {0}

-- a message that asks for each of these: note on with velocity 64, note off, controllers 64 and 123 of the division;
-- of channel 15 the controller of the knob, the note or the program of the piston, and note 127
abbrev pub asker : Call → Message
asker (Press division key) = NoteOn division (key + 36) 64
asker (Lift division key) = NoteOff division (key + 36) 64
asker (Sustain division on) = Controller division 64 (cond on 127 0)
asker (Clear division) = Controller division 123 0
asker (Turn knob position) = Controller 15 knob position
asker (Capture piston) = NoteOn 15 piston 64
asker (Recall piston) = Program 15 piston
asker Cancel = NoteOn 15 127 64

-- every message that asks for a call: of the division's channel a note on of note key + 36 whose velocity is not 0 presses;
-- a note off of that note, or a note on of velocity 0, lifts; controller 64 is the sustain, on from 64; 123 clears.
-- Of channel 15 a controller from 0 to 63 turns its knob, a note on of any note but 127 whose velocity is not 0 captures, a
-- program recalls, and a note on of note 127 whose velocity is not 0 cancels
abbrev pub AskedBy : Call → Message → Type 0
AskedBy (Press division key) m = (division ≤ 14) × (velocity : ℕ) × (1 ≤ velocity) × (m ≡ NoteOn division (key + 36) velocity)
AskedBy (Lift division key) m =
    (division ≤ 14) × ((m ≡ NoteOn division (key + 36) 0) ⊎ ((velocity : ℕ) × (m ≡ NoteOff division (key + 36) velocity)))
AskedBy (Sustain division true) m = (division ≤ 14) × (value : ℕ) × (64 ≤ value) × (m ≡ Controller division 64 value)
AskedBy (Sustain division false) m = (division ≤ 14) × (value : ℕ) × (value ≤ 63) × (m ≡ Controller division 64 value)
AskedBy (Clear division) m = (division ≤ 14) × (value : ℕ) × (m ≡ Controller division 123 value)
AskedBy (Turn knob position) m = (knob ≤ 63) × (m ≡ Controller 15 knob position)
AskedBy (Capture piston) m = (piston ≢ 127) × (velocity : ℕ) × (1 ≤ velocity) × (m ≡ NoteOn 15 piston velocity)
AskedBy (Recall piston) m = m ≡ Program 15 piston
AskedBy Cancel m = (velocity : ℕ) × (1 ≤ velocity) × (m ≡ NoteOn 15 127 velocity)

-- and every message that is a note too low for a key: a note on or off of a note from 0 to 35, of a division's channel
abbrev pub TooLow : ℕ → ℕ → Message → Type 0
TooLow division note m =
    (division ≤ 14) × (note ≤ 35) × (velocity : ℕ) × ((m ≡ NoteOn division note velocity) ⊎ (m ≡ NoteOff division note velocity))

-- a message asks for a call
abbrev pub Asks : Message → Call → Type 0
Asks m call = action_of m ≡ Perform call

pub record AskingLaw : Type 0 where
  -- a message that MIDI can say asks for no other call
  pub only : (m : Message) (call : Call) → InRange m → Asks m call → Askable call
  -- and for one at most
  pub one : (m : Message) (call other : Call) → Asks m call → Asks m other → call ≡ other
  -- for each of these calls the message above asks for it
  pub each : (call : Call) → Askable call → InRange (asker call) × Asks (asker call) call
  -- exactly the messages above ask for it
  pub exactly : (m : Message) (call : Call) → InRange m → Asks m call ↔ AskedBy call m
  -- and exactly these are notes too low for a key
  pub exactly_low : (m : Message) (division note : ℕ) → InRange m → (action_of m ≡ LowNote division note) ↔ TooLow division note m
  -- a note below 36 of a division asks for none, whatever its velocity, and is answered by the line of fault 2
  pub low : (division note velocity : ℕ) → division < 15 → note < 36 → (action_of (NoteOn division note velocity) ≡ LowNote division note) × (action_of (NoteOff division note velocity) ≡ LowNote division note)
  -- its fault is that of a key which the division does not have, and has the division and the note
  pub low_fault : (division note : ℕ) → low_note division note ≡ Key division note
  pub low_line : (division note : ℕ) → line_bytes (Fault (low_note division note)) ≡ codes "(fault 2)\n"

-- What a message of the MIDI line asks of the console. Assumes nothing.
use Rattle.std.specs.Prelude.{ℕ, ◌-◌, cond, ◌==◌, nat_le, nat_lt}
use Rattle.midi.specs.declared.message.Message.{Message}
use Rattle.midi.specs.declared.message.Message.TheVariants.{NoteOff, NoteOn, KeyPressure, Controller, Program, ChannelPressure, Bend}
use Rattle.console.specs.declared.call.Call.TheVariants.{Press, Lift, Sustain, Clear, Turn, Capture, Recall, Cancel}
use Rattle.console.specs.declared.fault.PlayFault.{PlayFault}
use Rattle.console.specs.declared.fault.PlayFault.TheVariants.{Key}
use Rattle.organ.specs.declared.action.Action.{Action}
use Rattle.organ.specs.declared.action.Action.TheVariants.{Nothing, Perform, LowNote}

-- channels 0 to 14 are divisions, channel 15 is for knobs and pistons
abbrev pub on_channel : ℕ → Action → Action → Action
on_channel channel division settings = cond (channel == 15) settings division

-- a note below that of key 0 is refused as a key that its division does not have; the fault carries the note itself
abbrev pub low_note : ℕ → ℕ → PlayFault
low_note division note = Key division note

-- a note of a division: key 0 has note 36, and velocity 0 lifts
abbrev pub key_action : ℕ → ℕ → ℕ → Action
key_action division note velocity =
    cond (nat_lt note 36) (LowNote division note) (cond (nat_lt 0 velocity) (Perform (Press division (note - 36))) (Perform (Lift division (note - 36))))

-- a note-on of channel 15: note 127 cancels, another captures the piston of its number; velocity 0 does nothing
abbrev pub note_setting : ℕ → ℕ → Action
note_setting note velocity =
    cond (velocity == 0) Nothing (cond (note == 127) (Perform Cancel) (Perform (Capture note)))

-- a controller: of a division 64 is its sustain, on from value 64, and 123 clears it; of channel 15 those below 64 are knobs
abbrev pub controller_action : ℕ → ℕ → ℕ → Action
controller_action channel controller value =
    on_channel channel
    (cond (controller == 64) (Perform (Sustain channel (nat_le 64 value))) (cond (controller == 123) (Perform (Clear channel)) Nothing))
    (cond (nat_lt controller 64) (Perform (Turn controller value)) Nothing)

-- a note of either kind
abbrev pub note_action : ℕ → ℕ → ℕ → Action
note_action channel note velocity =
    on_channel channel (key_action channel note velocity) (note_setting note velocity)

-- a note-off is a note-on with velocity 0
abbrev pub action_of : Message → Action
action_of (NoteOff channel note velocity) = note_action channel note 0
action_of (NoteOn channel note velocity) = note_action channel note velocity
action_of (KeyPressure channel note pressure) = Nothing
action_of (Controller channel controller value) = controller_action channel controller value
action_of (Program channel program) = on_channel channel Nothing (Perform (Recall program))
action_of (ChannelPressure channel pressure) = Nothing
action_of (Bend channel value) = Nothing

-- What a reader does at each byte, and how that is held to the reading of the whole line. Assumes nothing.
use Rattle.std.specs.Prelude.{◌≡◌, ℕ, ◌+◌, ◌-◌, ◌*◌, Bool, true, cond, ◌&&◌, List, [], ◌∷◌, ◌++◌, Some, None, Option, nat_lt}
use Rattle.std.specs.Option.{option_to_list}
use Rattle.midi.specs.declared.message.Message.{Message}
use Rattle.midi.specs.declared.message.Message.TheVariants as message
use Rattle.midi.specs.declared.state.Short.{Short}
use Rattle.midi.specs.declared.state.Short.TheVariants as short
use Rattle.midi.specs.declared.state.Long.{Long}
use Rattle.midi.specs.declared.state.Long.TheVariants as long
use Rattle.midi.specs.declared.state.State.{State}
use Rattle.midi.specs.declared.state.State.TheVariants.{Idle, OneByte, TwoBytes, Half}
use Rattle.midi.specs.Reading.{reading, first_status, first_real_time}

-- a message by its kind, its channel and its data bytes
abbrev pub short_message : Short → ℕ → ℕ → Message
short_message short.Program = message.Program
short_message short.ChannelPressure = message.ChannelPressure

abbrev pub long_message : Long → ℕ → ℕ → ℕ → Message
long_message long.NoteOff = message.NoteOff
long_message long.NoteOn = message.NoteOn
long_message long.KeyPressure = message.KeyPressure
long_message long.Controller = message.Controller
long_message long.Bend = λ c low high. message.Bend c (low + 128 * high)

-- the state that a status byte puts the reader in, whatever it was in
abbrev pub running : ℕ → State
running b =
    cond (nat_lt b 0x90) (TwoBytes long.NoteOff (b - 0x80))
    (cond (nat_lt b 0xa0) (TwoBytes long.NoteOn (b - 0x90))
    (cond (nat_lt b 0xb0) (TwoBytes long.KeyPressure (b - 0xa0))
    (cond (nat_lt b 0xc0) (TwoBytes long.Controller (b - 0xb0))
    (cond (nat_lt b 0xd0) (OneByte short.Program (b - 0xc0))
    (cond (nat_lt b 0xe0) (OneByte short.ChannelPressure (b - 0xd0))
    (cond (nat_lt b 0xf0) (TwoBytes long.Bend (b - 0xe0))
    Idle))))))

-- a state that bytes can lead to: its channel is below 16, and the byte that it holds is a data byte
abbrev pub sound : State → Bool
sound Idle = true
sound (OneByte k c) = nat_lt c 16
sound (TwoBytes k c) = nat_lt c 16
sound (Half k c a) = nat_lt c 16 && nat_lt a first_status

-- a data byte
abbrev pub data_step : State → ℕ → Option Message × State
data_step Idle b = (None, Idle)
data_step (OneByte k c) b = (Some (short_message k c b), OneByte k c)
data_step (TwoBytes k c) b = (None, Half k c b)
data_step (Half k c a) b = (Some (long_message k c a b), TwoBytes k c)

-- any byte: the message that it ends, and the state after it
abbrev pub step : State → ℕ → Option Message × State
step s b = cond (nat_lt b first_real_time) (cond (nat_lt b first_status) (data_step s b) (None, running b)) (None, s)

-- the messages that a list of bytes ends, and the state after it
abbrev pub handed : State → List ℕ → List Message
handed s [] = []
handed s (b ∷ bs) = option_to_list (step s b).0 ++ handed (step s b).1 bs

abbrev pub state_after : State → List ℕ → State
state_after s [] = s
state_after s (b ∷ bs) = state_after (step s b).1 bs

-- a reader in state s has been fed just this line since it was new
abbrev pub HasRead : State → List ℕ → Type 0
HasRead s line = s ≡ state_after Idle line

-- a reader that was in one state was fed these bytes, handed out these messages and is now in another:
-- whatever line it had read, it has now read the bytes too, and the messages are what they add to the reading
pub record Feeds (before : State) (bytes : List ℕ) (messages : List Message) (after : State) : Type 0 where
  pub reads : (line : List ℕ) → HasRead before line → HasRead after (line ++ bytes)
  pub adds : (line : List ℕ) → HasRead before line → reading (line ++ bytes) ≡ reading line ++ messages

-- a reader has read this line, and a list of messages holds old ones and after them just the reading of the line
pub record CaughtUp (old : List Message) (line : List ℕ) (s : State) (messages : List Message) : Type 0 where
  pub state : HasRead s line
  pub items : messages ≡ old ++ reading line

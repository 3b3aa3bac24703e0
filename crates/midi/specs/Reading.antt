-- What MIDI 1.0 reads from a line, in its own words: nothing here knows of a reader or its state. Assumes nothing.
use Rattle.std.specs.Prelude.{◌≡◌, ℕ, ◌+◌, ◌-◌, ◌*◌, ◌<◌, cond, List, [], ◌∷◌, ◌++◌, map, nat_lt}
use Rattle.std.specs.List.{flat_map}
use Rattle.midi.specs.declared.message.Message.{Message}
use Rattle.midi.specs.declared.message.Message.TheVariants.{NoteOff, NoteOn, KeyPressure, Controller, Program, ChannelPressure, Bend}

-- bytes below 80 are data, those from 80 on are status bytes
abbrev pub first_status : ℕ
first_status = 0x80

-- the status bytes from F8 on are real-time: they may stand anywhere and belong to no message
abbrev pub first_real_time : ℕ
first_real_time = 0xf8

-- a line without its real-time bytes
abbrev pub without_real_time : List ℕ → List ℕ
without_real_time [] = []
without_real_time (b ∷ bs) = cond (nat_lt b first_real_time) (b ∷ without_real_time bs) (without_real_time bs)

-- a piece of a line: a status byte, and the data bytes that follow it up to the next status byte
pub record Piece : Type 0 where
  pub status : ℕ
  pub bytes : List ℕ

-- the data bytes at the front of a line
abbrev pub leading_data : List ℕ → List ℕ
leading_data [] = []
leading_data (b ∷ bs) = cond (nat_lt b first_status) (b ∷ leading_data bs) []

-- a line cut at its status bytes; what stands before the first is in no piece
abbrev pub pieces : List ℕ → List Piece
pieces [] = []
pieces (b ∷ bs) = cond (nat_lt b first_status) (pieces bs) (record { status = b; bytes = leading_data bs } ∷ pieces bs)

-- the format of the messages after a status byte: one data byte each, or two; a system byte has none
pub data Format : Type 0 where
  one : (ℕ → Message) → Format
  two : (ℕ → ℕ → Message) → Format
  system : Format

-- the table of status bytes; a bend has its low seven bits first
abbrev pub format : ℕ → Format
format b =
    cond (nat_lt b 0x90) (two (NoteOff (b - 0x80)))
    (cond (nat_lt b 0xa0) (two (NoteOn (b - 0x90)))
    (cond (nat_lt b 0xb0) (two (KeyPressure (b - 0xa0)))
    (cond (nat_lt b 0xc0) (two (Controller (b - 0xb0)))
    (cond (nat_lt b 0xd0) (one (Program (b - 0xc0)))
    (cond (nat_lt b 0xe0) (one (ChannelPressure (b - 0xd0)))
    (cond (nat_lt b 0xf0) (two (λ low high. Bend (b - 0xe0) (low + 128 * high)))
    system))))))

-- data bytes two by two, each pair a message; one left over is dropped
abbrev pub pairs : (ℕ → ℕ → Message) → List ℕ → List Message
pairs m [] = []
pairs m (a ∷ []) = []
pairs m (a ∷ b ∷ ds) = m a b ∷ pairs m ds

-- data bytes cut into messages of the size that the status takes
abbrev pub cut : Format → List ℕ → List Message
cut (one m) ds = map m ds
cut (two m) ds = pairs m ds
cut system ds = []

abbrev pub piece_messages : Piece → List Message
piece_messages p = cut (format p.status) p.bytes

-- the messages of a line: those of its pieces, in order
abbrev pub reading : List ℕ → List Message
reading line = flat_map piece_messages (pieces (without_real_time line))

-- a message as MIDI can say it: a channel below 16, values below 128, and a bend's below 16384
abbrev pub InRange : Message → Type 0
InRange (NoteOff c k v) = (c < 16) × (k < 128) × (v < 128)
InRange (NoteOn c k v) = (c < 16) × (k < 128) × (v < 128)
InRange (KeyPressure c k p) = (c < 16) × (k < 128) × (p < 128)
InRange (Controller c n v) = (c < 16) × (n < 128) × (v < 128)
InRange (Program c p) = (c < 16) × (p < 128)
InRange (ChannelPressure c p) = (c < 16) × (p < 128)
InRange (Bend c v) = (c < 16) × (v < 16384)

-- bytes that, after any line, are read as just these messages
abbrev pub ReadsAs : List ℕ → List Message → Type 0
ReadsAs bytes messages = (line : List ℕ) → reading (line ++ bytes) ≡ reading line ++ messages

-- a note-on and a note-off written whole, with channel and values in MIDI's range, are read as themselves
abbrev pub NotesLaw : Type 0
NotesLaw =
    (channel key velocity : ℕ) →
    channel < 16 →
    key < 128 →
    velocity < 128 →
    ReadsAs ((0x90 + channel) ∷ key ∷ velocity ∷ []) (NoteOn channel key velocity ∷ []) × ReadsAs ((0x80 + channel) ∷ key ∷ velocity ∷ []) (NoteOff channel key velocity ∷ [])

-- The seven kinds of channel message: the status byte of each, and its data bytes again and again without a new status.
-- Assumes nothing.
use Rattle.std.specs.Prelude.{◌≡◌, ℕ, ◌+◌, ◌*◌, ◌<◌, ◌≤◌, List, [], ◌∷◌, ◌++◌, map}
use Rattle.std.specs.List.{flat_map, AllByRecursion}
use Rattle.midi.specs.declared.message.Message.{Message}
use Rattle.midi.specs.declared.message.Message.TheVariants.{NoteOff, NoteOn, KeyPressure, Controller, Program, ChannelPressure, Bend}
use Rattle.midi.specs.StatusBytes.{Reads, AllData}

-- pairs of data bytes
abbrev pub DataPairs : List (ℕ × ℕ) → Type 0
DataPairs ps = AllByRecursion (λ p. (p.0 < 0x80) × (p.1 < 0x80)) ps

-- their bytes in a row
abbrev pub in_a_row : List (ℕ × ℕ) → List ℕ
in_a_row ps = flat_map (λ p. p.0 ∷ p.1 ∷ []) ps

-- a status byte that takes two data bytes a message, after any line
pub record TwoByTwo (reads : Reads) (status : ℕ) (says : ℕ → ℕ → Message) : Type 0 where
  -- however many pairs follow it, each is one message
  pub pairs : (line : List ℕ) (ps : List (ℕ × ℕ)) → DataPairs ps → reads (line ++ status ∷ in_a_row ps) ≡ reads line ++ map (λ p. says p.0 p.1) ps
  -- a data byte left over says nothing yet
  pub over : (line : List ℕ) (ps : List (ℕ × ℕ)) (a : ℕ) → DataPairs ps → a < 0x80 → reads (line ++ status ∷ (in_a_row ps ++ a ∷ [])) ≡ reads line ++ map (λ p. says p.0 p.1) ps
  -- and a status byte, 80 to F7, drops the message that was begun
  pub dropped : (line rest : List ℕ) (a s : ℕ) → a < 0x80 → 0x80 ≤ s → s ≤ 0xf7 → reads (line ++ status ∷ a ∷ s ∷ rest) ≡ reads (line ++ s ∷ rest)

-- a status byte that takes one data byte a message, after any line: however many follow it, each is one
abbrev pub OneByOne : Reads → ℕ → (ℕ → Message) → Type 0
OneByOne reads status says =
    (line ds : List ℕ) → AllData ds → reads (line ++ status ∷ ds) ≡ reads line ++ map says ds

-- what the status bytes of each kind take and say, on channel 0 to 15
pub record KindsLaw (reads : Reads) : Type 0 where
  -- 80 to 8F: a key and a velocity
  pub note_off : (c : ℕ) → c < 16 → TwoByTwo reads (0x80 + c) (λ key velocity. NoteOff c key velocity)
  -- 90 to 9F: the same
  pub note_on : (c : ℕ) → c < 16 → TwoByTwo reads (0x90 + c) (λ key velocity. NoteOn c key velocity)
  -- A0 to AF: a key and its pressure
  pub key_pressure : (c : ℕ) → c < 16 → TwoByTwo reads (0xa0 + c) (λ key pressure. KeyPressure c key pressure)
  -- B0 to BF: a controller and its value
  pub controller : (c : ℕ) → c < 16 → TwoByTwo reads (0xb0 + c) (λ controller value. Controller c controller value)
  -- C0 to CF: a program
  pub program : (c : ℕ) → c < 16 → OneByOne reads (0xc0 + c) (λ program. Program c program)
  -- D0 to DF: the pressure of a channel
  pub channel_pressure : (c : ℕ) → c < 16 → OneByOne reads (0xd0 + c) (λ pressure. ChannelPressure c pressure)
  -- E0 to EF: the low seven bits of a bend, and then the high ones
  pub bend : (c : ℕ) → c < 16 → TwoByTwo reads (0xe0 + c) (λ low high. Bend c (low + 128 * high))

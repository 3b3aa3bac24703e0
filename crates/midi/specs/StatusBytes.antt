-- What the bytes of a MIDI line do to how it is read: real-time, status and stray data bytes. Assumes nothing.
use Rattle.std.specs.Prelude.{◌≡◌, ℕ, ◌<◌, ◌≤◌, List, [], ◌∷◌, ◌++◌}
use Rattle.std.specs.List.{AllByRecursion}
use Rattle.midi.specs.declared.message.Message.{Message}

-- a way to read lines: the messages of each
abbrev pub Reads : Type 0
Reads = List ℕ → List Message

-- bytes below 80
abbrev pub AllData : List ℕ → Type 0
AllData ds = AllByRecursion (λ d. d < 0x80) ds

-- a real-time byte, F8 to FF, may stand anywhere, within a message too, and the line says the same without it
abbrev pub RealTimeLaw : Reads → Type 0
RealTimeLaw reads =
    (front back : List ℕ) (b : ℕ) → 0xf8 ≤ b → b ≤ 0xff → reads (front ++ b ∷ back) ≡ reads (front ++ back)

-- each other status byte, 80 to F7, starts afresh: what stands before it says what it says alone, and so does the rest
abbrev pub StatusLaw : Reads → Type 0
StatusLaw reads =
    (line rest : List ℕ) (s : ℕ) → 0x80 ≤ s → s ≤ 0xf7 → reads (line ++ s ∷ rest) ≡ reads line ++ reads (s ∷ rest)

-- data bytes that belong to no message
pub record StrayLaw (reads : Reads) : Type 0 where
  -- before any status byte they say nothing
  pub first : (ds : List ℕ) → AllData ds → reads ds ≡ []
  -- nor do they change what the first channel status, 80 to EF, and the bytes after it say
  pub first_passed : (ds rest : List ℕ) (s : ℕ) → AllData ds → 0x80 ≤ s → s ≤ 0xef → reads (ds ++ s ∷ rest) ≡ reads (s ∷ rest)
  -- after a system byte, F0 to F7, they say nothing
  pub system : (line ds : List ℕ) (b : ℕ) → 0xf0 ≤ b → b ≤ 0xf7 → AllData ds → reads (line ++ b ∷ ds) ≡ reads line
  -- and the next channel status and the bytes after it say what they say alone
  pub system_passed : (line ds rest : List ℕ) (b s : ℕ) → 0xf0 ≤ b → b ≤ 0xf7 → AllData ds → 0x80 ≤ s → s ≤ 0xef → reads (line ++ b ∷ (ds ++ s ∷ rest)) ≡ reads line ++ reads (s ∷ rest)

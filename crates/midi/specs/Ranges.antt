-- Which messages a MIDI line can say. Assumes nothing.
use Rattle.std.specs.Prelude.{◌≡◌, ℕ, ◌<◌, ◌↔◌, List, [], ◌∷◌}
use Rattle.std.specs.List.{AllByRecursion}
use Rattle.midi.specs.declared.message.Message.{Message}
use Rattle.midi.specs.Reading.{reading, InRange}

-- a message is in MIDI's range exactly if some line of bytes is read as it alone
abbrev pub RangeLaw : Type 0
RangeLaw =
    (m : Message) → InRange m ↔ ((line : List ℕ) × AllByRecursion (λ b. b < 0x100) line × (reading line ≡ m ∷ []))

-- That the laws of a MIDI line leave no choice. Assumes nothing.
use Rattle.std.specs.Prelude.{◌≡◌, ℕ, ◌<◌, List}
use Rattle.std.specs.List.{AllByRecursion}
use Rattle.midi.specs.Reading.{reading}
use Rattle.midi.specs.StatusBytes.{Reads, RealTimeLaw, StatusLaw, StrayLaw}
use Rattle.midi.specs.RunningStatus.{KindsLaw}

-- the laws together
pub record LineLaws (reads : Reads) : Type 0 where
  -- real-time bytes say nothing
  pub real_time : RealTimeLaw reads
  -- other status bytes start afresh
  pub status : StatusLaw reads
  -- data bytes of no message say nothing
  pub stray : StrayLaw reads
  -- those of a kind are its messages
  pub kinds : KindsLaw reads

-- whatever keeps them reads the same from every line of bytes
abbrev pub OneReadingLaw : Type 0
OneReadingLaw =
    (reads : Reads) → LineLaws reads → (line : List ℕ) → AllByRecursion (λ b. b < 0x100) line → reads line ≡ reading line

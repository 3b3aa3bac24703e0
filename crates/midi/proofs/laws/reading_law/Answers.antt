use Rattle.midi.proofs.StatusBytes as bytes
use Rattle.midi.proofs.RunningStatus as kinds
use Rattle.midi.proofs.OneReading.{one_reading_law}
use Rattle.midi.proofs.Ranges.{range_law}
use Rattle.midi.proofs.laws.reading_law.Goals as goal

pub returns : goal.returns
returns c =
    record {
      real_time = bytes.real_time_law;
      status = bytes.status_law;
      stray = bytes.stray_law;
      kinds = kinds.kinds_law;
      only = one_reading_law;
      range = range_law;
    }

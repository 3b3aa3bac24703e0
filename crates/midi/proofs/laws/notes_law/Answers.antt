use Rattle.midi.proofs.Notes.{note_on_reads, note_off_reads}
use Rattle.midi.proofs.laws.notes_law.Goals as goal

pub returns : goal.returns
returns c =
    record { law = λ channel key velocity c k v. (note_on_reads channel key velocity c k v, note_off_reads channel key velocity c k v) }

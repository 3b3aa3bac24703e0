use Rattle.bottom.proofs.HeardNotes.{heard_notes}
use Rattle.bottom.proofs.Runs.{run_law}
use Rattle.bottom.proofs.laws.receiver_law.Goals as goal

pub returns : goal.returns
returns c = record { law = run_law; hears = heard_notes }

use Rattle.std.proofs.Common.{refl}
use Rattle.bottom.proofs.Runs.{drain_law, drain_notes, drain_runs}
use Rattle.bottom.proofs.midi_chest.MidiChest.drain.Goals as goal

pub returns-clause-law : goal.returns-clause-law
returns-clause-law c = drain_law c.args.self.now _ _ _ _ c.catch_up.ensures.after

pub returns-clause-notes : goal.returns-clause-notes
returns-clause-notes c = drain_notes c.args.self.now _ _ _ _ c.catch_up.ensures.after c.catch_up.ensures.bound

pub returns-clause-run : goal.returns-clause-run
returns-clause-run c = drain_runs c.args.self.now _ _ _ _ c.catch_up.ensures.after _ refl refl

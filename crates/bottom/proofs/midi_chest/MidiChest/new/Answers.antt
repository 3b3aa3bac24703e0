use Rattle.bottom.specs.Run.{makes}
use Rattle.bottom.proofs.Tables.{shown-zeros}
use Rattle.bottom.proofs.midi_chest.MidiChest.new.Goals as goal

pub returns-clause-sent : goal.returns-clause-sent
returns-clause-sent c = shown-zeros

pub returns-clause-run : goal.returns-clause-run
returns-clause-run c = makes c.args.reaches c.new.ensures shown-zeros

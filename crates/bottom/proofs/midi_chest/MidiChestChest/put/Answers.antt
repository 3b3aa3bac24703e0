use Rattle.std.proofs.Common.{refl, rules}
use Rattle.bottom.specs.Run.{sets}
use Rattle.bottom.proofs.midi_chest.MidiChestChest.put.Goals as goal

pub returns-clause-run : goal.returns-clause-run
returns-clause-run c = λ line so_far. sets c.args.at.row c.args.at.place c.args.on so_far (search rules) refl

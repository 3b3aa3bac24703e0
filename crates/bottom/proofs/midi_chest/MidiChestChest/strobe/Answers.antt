use Rattle.std.proofs.Common.{refl, rules}
use Rattle.bottom.specs.Run.{strobes}
use Rattle.bottom.proofs.midi_chest.MidiChestChest.strobe.Goals as goal

pub returns-clause-run : goal.returns-clause-run
returns-clause-run c = λ line so_far. strobes so_far (search rules) refl

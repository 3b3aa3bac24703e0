use Rattle.std.proofs.Common.{refl, rules}
use Rattle.bottom.specs.Run.{turns}
use Rattle.bottom.proofs.midi_chest.MidiChestChest.turn.Goals as goal

pub returns-clause-run : goal.returns-clause-run
returns-clause-run c = λ line so_far. turns c.args.knob c.args.position so_far (search rules) refl

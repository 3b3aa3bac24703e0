use Rattle.sets.proofs.Bits.{bits_and}
use Rattle.sets.proofs.word.Word.both.Goals as goal

pub returns : goal.returns
returns c = bits_and c.args.self.bits c.args.other.bits

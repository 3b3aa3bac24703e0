use Rattle.std.proofs.Common.{arith}
use Rattle.std.proofs.lemmas.Bool.Decides.{nat_tests}
use Rattle.sets.proofs.Bits.{bits_first}
use Rattle.sets.proofs.word.Word.pop_first.Goals as goal

pub returns-clause-value : goal.returns-clause-value
returns-clause-value c =
    let least = bits_first c.args.self.now.bits (grind (arith, nat_tests, c.if-self-eq0.false)) c.args.self.now.fits in
    (least.0, least.1, c.put.ensures)

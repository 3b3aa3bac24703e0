use Rattle.std.proofs.Common.{◌-◌, arith}
use Rattle.std.proofs.lemmas.Bool.Decides.{nat_tests}
use Rattle.sets.proofs.Bits.{bits_past}
use Rattle.sets.proofs.number_set.NumberSet.has.Goals as goal

pub returns-else-number : goal.returns-else-number
returns-else-number c =
    let self = c.args.self in
    let past = bits_past self.high.bits (c.args.number - 64) self.high.fits (omega (arith, c.if-number.false)) in
    grind (arith, nat_tests, c.if-number.false)

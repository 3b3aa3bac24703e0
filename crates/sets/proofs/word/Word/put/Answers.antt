use Rattle.std.proofs.Common.{◌<◌, ◌*◌, ◌%◌, ◌^◌, w64, lit<, sym, ap, ◌∙◌, subst, arith}
use Rattle.std.specs.Int.{bit_not}
use Rattle.std.proofs.lemmas.Nat.{or_lt, and_le_l, mod_below}
use Rattle.sets.specs.Numbers.{bits_of, with_number}
use Rattle.sets.proofs.Bits.{bits_in, bits_out}
use Rattle.sets.proofs.word.Word.put.Goals as goal
use Rattle.sets.proofs.word.Word.put.Goals.{then-on, else-on}

pub invariant_of-self : goal.invariant_of-self
invariant_of-self c =
    let n = c.args.self.now.bits in
    let flag = 1 * 2 ^ c.args.number % 2 ^ 64 in
    elim c.if-on.branch [
      | then-on w ↦ record { fits = subst (λ x. x < 2 ^ 64) (sym w.self-is) (or_lt 64 n flag c.args.self.now.fits (mod_below (1 * 2 ^ c.args.number) (2 ^ 64) (lit< tt))) }
      | else-on w ↦ record { fits = subst (λ x. x < 2 ^ 64) (sym w.self-is) (omega (arith, and_le_l n (bit_not w64 flag), c.args.self.now.fits)) }
    ]

pub returns : goal.returns
returns c =
    let n = c.args.self.now.bits in
    let k = c.args.number in
    elim c.if-on.branch [
      | then-on w ↦ ap bits_of w.self-is ∙ bits_in n k c.requires ∙ ap (with_number (bits_of n) k) (sym w.if-on.true)
      | else-on w ↦ ap bits_of w.self-is ∙ bits_out n k c.args.self.now.fits c.requires ∙ ap (with_number (bits_of n) k) (sym w.if-on.false)
    ]

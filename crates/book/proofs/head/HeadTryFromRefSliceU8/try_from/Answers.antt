use Rattle.std.proofs.Common.{◌≡◌, codes, sym, ap, arith}
use Rattle.std.proofs.lemmas.Slice.Eq.{text_from_reads}
use Rattle.book.specs.Head.{head_of}
use Rattle.book.proofs.head.HeadTryFromRefSliceU8.try_from.Goals as goal

pub returns-in-piston : goal.returns-in-piston
returns-in-piston c =
    let is : c.args.word.now ≡ codes "piston" =
    text_from_reads _ (codes "piston") (omega arith) (omega arith, (omega arith, (omega arith, (omega arith, (omega arith, (omega arith, tt))))))
    in
    sym (ap head_of is)

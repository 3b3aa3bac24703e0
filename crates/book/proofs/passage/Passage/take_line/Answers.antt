use Rattle.std.proofs.Common.{◌+◌, sym, refl, subst}
use Rattle.std.proofs.lemmas.List.{take_rest}
use Rattle.book.specs.Passage.{Comes}
use Rattle.book.proofs.Course.{cut_first, cut_last}
use Rattle.book.proofs.passage.Passage.take_line.Goals as goal

pub returns-in_err-end : goal.returns-in_err-end
returns-in_err-end c =
    subst (λ r. Comes c.args.self.now r c.args.self.now) (sym c.from_residual.ensures) (refl, cut_last _ c.in_err-end.ensures)

pub returns : goal.returns
returns c = (refl, refl, cut_first _ _ _ c.in_ok-end.ensures (take_rest c.args.self.now.text.now (c.in_ok-end.end + 1)))

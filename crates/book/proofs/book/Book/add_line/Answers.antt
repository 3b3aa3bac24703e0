use Rattle.std.proofs.Common.{Ok, sym, ap, ◌∙◌}
use Rattle.book.proofs.Lining.{line_in-range}
use Rattle.book.proofs.book.Book.add_line.Goals as goal

pub put-requires : goal.put-requires
put-requires c = line_in-range c.args.passage.line c.args.passage.text.now _ (ap Ok (sym c.in-Some.is) ∙ c.in_ok-form.ensures)

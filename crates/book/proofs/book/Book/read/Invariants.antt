use Rattle.std.proofs.Common.{length}
use Rattle.book.proofs.Course.{Reading}
use Rattle.book.proofs.book.Book.read.Given as goal

abbrev pub invariant-loop-line : goal.invariant-loop-line
invariant-loop-line l = Reading l.book l.text l.rest.text.now l.rest.line

abbrev pub decreases-loop-line : goal.decreases-loop-line
decreases-loop-line l = length l.rest.text.now

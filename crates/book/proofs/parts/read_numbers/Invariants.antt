use Rattle.std.proofs.Common.{length}
use Rattle.book.proofs.Counting.{Sofar}
use Rattle.book.proofs.parts.read_numbers.Given as goal

abbrev pub invariant-loop-text : goal.invariant-loop-text
invariant-loop-text l = Sofar l.numbers l.fn.rest.text.now l.rest.text.now

abbrev pub decreases-loop-text : goal.decreases-loop-text
decreases-loop-text l = length l.rest.text.now

use Rattle.std.proofs.Common.{◌≡◌, ℕ, ◌<◌, true, get_or}
use Rattle.book.specs.Bytes.{allowed}
use Rattle.book.proofs.passage.Passage.first_outside.Given as goal

abbrev pub invariant-loop-at : goal.invariant-loop-at
invariant-loop-at l = (k : ℕ) → k < l.at → allowed (get_or l.self.text.now k 0) ≡ true

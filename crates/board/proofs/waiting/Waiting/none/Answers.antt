use Rattle.std.proofs.Common.{◌≡◌}
use Rattle.fittings.proofs.Filled.{replicated}
use Rattle.sets.specs.Numbers.{nothing}
use Rattle.sets.specs.NumberSet.{members, empty}
use Rattle.sets.proofs.Joined.{members_empty}
use Rattle.board.proofs.waiting.Waiting.none.Goals as goal

pub returns : goal.returns
returns c = λ k. replicated (λ s. members s ≡ nothing) 64 k c.none.result empty c.none.ensures members_empty

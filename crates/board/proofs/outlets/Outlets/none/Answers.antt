use Rattle.std.proofs.Common.{◌≡◌}
use Rattle.fittings.proofs.Filled.{replicated}
use Rattle.sets.specs.Numbers.{nothing}
use Rattle.sets.specs.NumberSet.{members, empty}
use Rattle.sets.proofs.Joined.{members_empty}
use Rattle.board.proofs.outlets.Outlets.none.Goals as goal

pub returns : goal.returns
returns c =
    record {
      rows = λ r. replicated (λ s. members s ≡ nothing) 16 r c.none.result empty c.none.ensures members_empty;
      keys = λ p. replicated (λ s. members s ≡ nothing) 128 p c.none-2.result empty c.none-2.ensures members_empty;
    }

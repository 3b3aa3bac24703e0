-- Which wires wait for a knob. Assumes nothing.
use Rattle.std.specs.Prelude.{ℕ, slice_index_or}
use Rattle.sets.specs.Numbers.{Numbers}
use Rattle.sets.specs.NumberSet.{members, empty}
use Rattle.board.specs.declared.waiting.Waiting.{Waiting}

abbrev pub waiting_of : Waiting → ℕ → Numbers
waiting_of t k = members (slice_index_or t.table k empty)

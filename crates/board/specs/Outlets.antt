-- Which wires lead from a row, and which a key lands through. Assumes nothing.
use Rattle.std.specs.Prelude.{ℕ, slice_index_or}
use Rattle.sets.specs.Numbers.{Numbers}
use Rattle.sets.specs.NumberSet.{members, empty}
use Rattle.board.specs.declared.outlets.Outlets.{Outlets}

abbrev pub row_of : Outlets → ℕ → Numbers
row_of t r = members (slice_index_or t.rows r empty)

abbrev pub key_of : Outlets → ℕ → Numbers
key_of t p = members (slice_index_or t.keys p empty)

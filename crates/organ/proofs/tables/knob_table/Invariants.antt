-- So far the knobs before this one are as the book has them, and the others are undefined.
use Rattle.std.proofs.Common.{None}
use Rattle.console.specs.KnobTable.{steps_of, home_of}
use Rattle.organ.specs.Tables.{book_steps, book_home}
use Rattle.organ.proofs.Filling.{Filled}
use Rattle.organ.proofs.tables.knob_table.Given as goal

abbrev pub invariant-loop-k : goal.invariant-loop-k
invariant-loop-k l =
    Filled (book_steps l.book) None (steps_of l.table) l.k × Filled (book_home l.book) 0 (home_of l.table) l.k

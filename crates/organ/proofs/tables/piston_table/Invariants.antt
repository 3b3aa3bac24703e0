-- So far the pistons before this one are as the book has them, and the others are undefined.
use Rattle.std.proofs.Common.{None}
use Rattle.console.specs.PistonTable.{scope_of}
use Rattle.organ.specs.Tables.{book_scope}
use Rattle.organ.proofs.Filling.{Filled}
use Rattle.organ.proofs.tables.piston_table.Given as goal

abbrev pub invariant-loop-q : goal.invariant-loop-q
invariant-loop-q l = Filled (book_scope l.book) None (scope_of l.table) l.q

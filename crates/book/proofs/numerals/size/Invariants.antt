use Rattle.std.proofs.Common.{◌≡◌, true, take}
use Rattle.std.specs.Str.Parse.{digits_value}
use Rattle.book.specs.Numerals.{digits_ok}
use Rattle.book.proofs.numerals.size.Given as goal

abbrev pub invariant-loop-b : goal.invariant-loop-b
invariant-loop-b l = (digits_ok l.digits ≡ true) × (l.n ≡ digits_value 10 (take l.b-index l.digits))

-- The numbers of a set. Assumes nothing.
use Rattle.std.specs.Prelude.{◌-◌, false, cond, Some, None, Option, nat_lt}
use Rattle.std.proofs.Common.{lit<}
use Rattle.sets.specs.declared.rest.Rest.{Rest}
use Rattle.sets.specs.declared.number_set.NumberSet.{NumberSet}
use Rattle.sets.specs.declared.word.Word.{Word}
use Rattle.sets.specs.Numbers.{Numbers, bits_of}

-- those below 64 in the low word, the others in the high one
abbrev pub members : NumberSet → Numbers
members s k = cond (nat_lt k 64) (bits_of s.low.bits k) (bits_of s.high.bits (k - 64))

-- the set of no number
abbrev pub empty : NumberSet
empty =
    record { low = record { bits = 0; fits = lit< tt }; high = record { bits = 0; fits = lit< tt } }

-- those that are left: of both words while the low one is walked, then of the high one
abbrev pub left_of : Word → Option Word → Numbers
left_of word (Some later) k = cond (nat_lt k 64) (bits_of word.bits k) (bits_of later.bits (k - 64))
left_of word None k = cond (nat_lt k 64) false (bits_of word.bits (k - 64))

abbrev pub remaining : Rest → Numbers
remaining r = left_of r.word r.later

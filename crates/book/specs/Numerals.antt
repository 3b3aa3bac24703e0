-- The number that a numeral writes. Assumes nothing.
use Rattle.std.specs.Prelude.{ℕ, Bool, cond, not, ◌&&◌, ◌||◌, List, length, drop, ℤ, pos, neg_ℤ, Some, None, Option, ◌==◌, nat_le, slice_index}
use Rattle.std.specs.Option.{option_map}
use Rattle.std.specs.Str.Parse.{digits_value}
use Rattle.std.specs.Str.{all_ascii_digits}
use Rattle.book.specs.Bytes.{minus}

-- one to four digits without a leading zero, or 0 alone
abbrev pub digits_ok : List ℕ → Bool
digits_ok ds = nat_le 1 (length ds) && (nat_le (length ds) 4 && ((nat_le (length ds) 1 || not (slice_index ds 0 == 48)) && all_ascii_digits ds))

abbrev pub size_of : List ℕ → Option ℕ
size_of ds = cond (digits_ok ds) (Some (digits_value 10 ds)) None

-- a minus does not stand before 0
abbrev pub below_zero : Option ℕ → Option ℤ
below_zero None = None
below_zero (Some n) = cond (n == 0) None (Some (neg_ℤ (pos n)))

abbrev pub numeral : List ℕ → Option ℤ
numeral bs = cond (slice_index bs 0 == minus) (below_zero (size_of (drop 1 bs))) (option_map pos (size_of bs))

-- The recitals, computed. Assumes nothing.
use Rattle.std.proofs.Common.{◌≡◌, refl}
use Rattle.std.specs.Fmt.{digits}
use Rattle.wires.specs.Wires.{landing}
use Rattle.recital.specs.Listings.{listing_of}
use Rattle.cases.specs.Recitals.{RecitalCases, small_book, small_line, small_listing, one_stop_book, one_stop_line, one_stop_listing}
use Rattle.cases.specs.SecondOrgan.{second_book, offered, expected}
use Rattle.cases.proofs.Listed.{listed}

small_organ : listing_of small_book small_line ≡ small_listing
unfolding landing digits
small_organ = listed small_book small_line small_listing refl

one_stop : listing_of one_stop_book one_stop_line ≡ one_stop_listing
unfolding landing digits
one_stop = listed one_stop_book one_stop_line one_stop_listing refl

second_organ : listing_of second_book offered ≡ expected
unfolding landing digits
second_organ = listed second_book offered expected refl

pub recital_cases : RecitalCases
recital_cases = record { small_organ = small_organ; one_stop = one_stop; second_organ = second_organ; kinds = refl }

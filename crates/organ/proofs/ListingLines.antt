-- Every line of a listing, byte for byte. Assumes nothing.
use Rattle.std.proofs.Common.{refl}
use Rattle.std.specs.Fmt.{digits}
use Rattle.organ.specs.ListingLines.{OfDone, OfFaults, OfBooks, ListingLines}

of_done : OfDone
unfolding digits
of_done = record { done = λ n. refl; none = refl; most = refl }

of_faults : OfFaults
unfolding digits
of_faults =
    record {
      division = λ d. refl;
      key = λ d k. refl;
      key_down = λ d k. refl;
      key_up = λ d k. refl;
      knob = λ k. refl;
      position = λ k q. refl;
      piston = λ q. refl;
      never_captured = λ q. refl;
    }

of_books : OfBooks
unfolding digits
of_books =
    record {
      too_long = refl;
      byte = λ n at. refl;
      shape = λ n. refl;
      form = λ n. refl;
      range = λ n. refl;
      repeat = λ n. refl;
      refused = λ n e. refl;
    }

pub listing_lines : ListingLines
listing_lines = record { done = of_done; faults = of_faults; books = of_books }

-- Bytes that come in, and bytes that are drained. Assumes nothing.
use Rattle.std.proofs.Common.{◌≡◌, ℕ, ◌/◌, ◌%◌, true, List, [], ◌∷◌, take, refl, ap}
use Rattle.std.specs.List.{flat_map}
use Rattle.chest.specs.Places.{Places, none, put}
use Rattle.midi.specs.declared.message.Message.TheVariants.{NoteOn}
use Rattle.midi.specs.Reading.{ReadsAs}
use Rattle.midi.proofs.Lines.{reading-append}
use Rattle.bottom.specs.Drain.{count_of_places, holds, pending, spelled, agreed, drained}
use Rattle.cases.specs.Worked.{two_pipes}

pub clock_inside : ReadsAs (0x90 ∷ 0xf8 ∷ 0x24 ∷ 0x40 ∷ []) (NoteOn 0 36 64 ∷ [])
clock_inside line = reading-append line (0x90 ∷ 0xf8 ∷ 0x24 ∷ 0x40 ∷ [])

pub system_inside : ReadsAs (0x90 ∷ 0xf1 ∷ 0x24 ∷ 0x40 ∷ []) []
system_inside line = reading-append line (0x90 ∷ 0xf1 ∷ 0x24 ∷ 0x40 ∷ [])

-- a drain by what is pending
by_pending : (sent speaking : Places) (room : ℕ) (ns : List ℕ) → pending sent speaking count_of_places ≡ ns → drained sent speaking room ≡ record { bytes = flat_map (spelled speaking) (take (room / 3) ns); sent = agreed sent speaking (take (room / 3) ns) }
by_pending sent speaking room ns e =
    ap (λ ps. record { bytes = flat_map (spelled speaking) (take (room / 3) ps); sent = agreed sent speaking (take (room / 3) ps) }) e

module _ (sent speaking : Places) (m n : ℕ) (e : pending sent speaking count_of_places ≡ m ∷ n ∷ []) where
  pub one_fits : drained sent speaking 5 ≡ record { bytes = spelled speaking m; sent = put sent (m / 128) (m % 128) (holds speaking m) }
  one_fits = by_pending sent speaking 5 (m ∷ n ∷ []) e

  pub none-fits : drained sent speaking 2 ≡ record { bytes = []; sent = sent }
  none-fits = by_pending sent speaking 2 (m ∷ n ∷ []) e

two_pending : pending none two_pipes count_of_places ≡ 12 ∷ 389 ∷ []
unfolding pending
two_pending = refl

one_pending : pending (put none 0 12 true) two_pipes count_of_places ≡ 389 ∷ []
unfolding pending
one_pending = refl

pub first-told : drained none two_pipes 5 ≡ record { bytes = 0x90 ∷ 12 ∷ 64 ∷ []; sent = put none 0 12 true }
first-told = one_fits none two_pipes 12 389 two_pending

pub none_told : drained none two_pipes 2 ≡ record { bytes = []; sent = none }
none_told = none-fits none two_pipes 12 389 two_pending

pub rest-told : drained (put none 0 12 true) two_pipes 5 ≡ record { bytes = 0x93 ∷ 5 ∷ 64 ∷ []; sent = two_pipes }
rest-told = by_pending (put none 0 12 true) two_pipes 5 (389 ∷ []) one_pending

pub all_told : pending two_pipes two_pipes count_of_places ≡ []
unfolding pending
all_told = refl

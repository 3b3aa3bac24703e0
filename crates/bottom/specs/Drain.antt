-- What a drain of a MIDI chest writes. Assumes nothing.
use Rattle.std.specs.Prelude.{ℕ, zero, suc, ◌+◌, ◌/◌, ◌%◌, Bool, cond, List, [], ◌∷◌, ◌++◌, take}
use Rattle.std.specs.List.{flat_map}
use Rattle.chest.specs.Places.{Places, put, differ}

-- the places of a chest have numbers, row by row: place p of row r has the number 128 × r + p
abbrev pub count_of_places : ℕ
count_of_places = 2048

abbrev pub holds : Places → ℕ → Bool
holds s n = s (n / 128) (n % 128)

-- the pending places with numbers below n: those at which what was sent and what speaks differ, rising
unfoldable pub pending : Places → Places → ℕ → List ℕ
pending sent speaking zero = []
pending sent speaking (suc n) =
    pending sent speaking n ++ cond (differ (holds sent n) (holds speaking n)) (n ∷ []) []

-- the velocity of every message
abbrev pub velocity : ℕ
velocity = 64

-- the three bytes for a place: a start, 90 + row, where it speaks, and a stop, 80 + row, where it does not
abbrev pub message_bytes : Bool → ℕ → ℕ → List ℕ
message_bytes speaks row place = (cond speaks 0x90 0x80 + row) ∷ place ∷ velocity ∷ []

abbrev pub spelled : Places → ℕ → List ℕ
spelled speaking n = message_bytes (holds speaking n) (n / 128) (n % 128)

-- the set that is sent once these places are written: it agrees on each of them with what speaks
abbrev pub agreed : Places → Places → List ℕ → Places
agreed sent speaking [] = sent
agreed sent speaking (n ∷ ns) = agreed (put sent (n / 128) (n % 128) (holds speaking n)) speaking ns

-- the places that a drain into a buffer of so many bytes writes, of those with numbers below n
abbrev pub written_below : ℕ → Places → Places → ℕ → List ℕ
written_below n sent speaking room = take (room / 3) (pending sent speaking n)

-- what a drain comes to
pub record Drained : Type 0 where
  pub bytes : List ℕ
  pub sent : Places

-- a drain into a buffer of so many bytes: what it writes, and what is sent after it
abbrev pub drained : Places → Places → ℕ → Drained
drained sent speaking room =
    record {
      bytes = flat_map (spelled speaking) (written_below count_of_places sent speaking room);
      sent = agreed sent speaking (written_below count_of_places sent speaking room);
    }

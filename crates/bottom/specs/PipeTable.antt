-- A set of places in 256 bytes: 16 rows of 128 places, a bit for each. Assumes nothing.
use Rattle.std.specs.Prelude.{ℕ, ◌+◌, ◌*◌, ◌/◌, ◌%◌, ◌^◌, Bool, ◌&&◌, List, ◌==◌, nat_lt, slice_index}
use Rattle.chest.specs.Places.{Places}

-- the bit k of a byte, the least significant first
abbrev pub bit_of : ℕ → ℕ → Bool
bit_of byte k = byte / 2 ^ k % 2 == 1

-- place p of row r is bit p mod 8 of byte 16 × r + p div 8
abbrev pub shown : List ℕ → Places
shown bytes r p = nat_lt r 16 && (nat_lt p 128 && bit_of (slice_index bytes (16 * r + p / 8)) (p % 8))

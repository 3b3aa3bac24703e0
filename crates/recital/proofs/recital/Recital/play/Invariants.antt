-- So far the bytes before this one are played, and there is room for the lines of the others.
use Rattle.std.proofs.Common.{◌+◌, ◌*◌, ◌≤◌, length, take, vec_items, vec_len, vec_capacity}
use Rattle.recital.specs.Recital.{GoesOn}
use Rattle.recital.proofs.recital.Recital.play.Given as goal

abbrev pub invariant-loop-byte : goal.invariant-loop-byte
invariant-loop-byte g l =
    (vec_len l.listing + 64 * length l.bytes ≤ vec_capacity l.listing + 64 * l.byte-index)
    × GoesOn g.C.Chest.meaning g.C.Chest.settled l.initial.self l.self (take l.byte-index l.bytes) (vec_items l.initial.listing) (vec_items l.listing)

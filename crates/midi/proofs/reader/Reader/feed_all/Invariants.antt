use Rattle.std.proofs.Common.{◌≡◌, ◌+◌, ◌-◌, ◌≤◌, ◌++◌, length, take, vec_items, vec_len, vec_capacity}
use Rattle.midi.specs.State.{handed, state_after}
use Rattle.midi.proofs.reader.Reader.feed_all.Given as goal

-- the bytes so far were fed, and there is room for a message a byte for the others
abbrev pub invariant-loop-byte : goal.invariant-loop-byte
invariant-loop-byte l =
    (vec_items l.out ≡ vec_items l.initial.out ++ handed l.initial.self.state (take l.byte-index l.bytes)) ×
    (l.self.state ≡ state_after l.initial.self.state (take l.byte-index l.bytes)) ×
    (vec_len l.out + (length l.bytes - l.byte-index) ≤ vec_capacity l.out)

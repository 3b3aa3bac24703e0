-- The keys before `key` have the wire.
use Rattle.std.proofs.Common.{◌≡◌, ℕ, ◌<◌, true, cond, ◌&&◌, eqb, ltb}
use Rattle.chest.specs.Reaches.{reaches_of}
use Rattle.board.specs.Among.{lands}
use Rattle.board.specs.Outlets.{key_of}
use Rattle.board.proofs.outlets.Outlets.add_keys.Given as goal

abbrev pub invariant-loop-key : goal.invariant-loop-key
invariant-loop-key l =
    ((p i : ℕ) → p < 128 → key_of l.self p i ≡ cond (eqb i l.number && (lands (reaches_of l.below) p l.w && ltb p l.key)) true (key_of l.initial.self p i))
    × (l.self.rows ≡ l.initial.self.rows)

-- How far the table of what was sent has caught up, for the functions inside a drain; no public contract cites this.
-- Assumes nothing.
use Rattle.std.specs.Prelude.{◌≡◌, ℕ, List, ◌++◌, length, take, drop}
use Rattle.std.specs.List.{flat_map}
use Rattle.chest.specs.Places.{Places}
use Rattle.bottom.specs.Drain.{spelled, agreed, written_below}

-- at the start this was sent and the buffer held this; by now these places are written to its front, and this is its rest
pub record Wrote (speaking start : Places) (buffer : List ℕ) (ns : List ℕ) (now_sent : Places) (front rest : List ℕ) : Type 0 where
  pub sent : now_sent ≡ agreed start speaking ns
  pub bytes : front ≡ flat_map (spelled speaking) ns
  pub untouched : rest ≡ drop (length front) buffer

-- all that the drain writes for the places with numbers below n is written, and no more
abbrev pub UpTo : ℕ → Places → Places → List ℕ → Places → List ℕ → List ℕ → Type 0
UpTo n speaking start buffer sent front rest =
    Wrote speaking start buffer (written_below n start speaking (length buffer)) sent front rest

-- from one number to another, whatever the start was, with so many bytes more at the front of what was the rest
abbrev pub GoesOn : ℕ → ℕ → Places → Places → List ℕ → Places → List ℕ → ℕ → Type 0
GoesOn m n speaking sent rest sent_after rest_after more =
    (start : Places) (buffer front : List ℕ) → UpTo m speaking start buffer sent front rest → UpTo n speaking start buffer sent_after (front ++ take more rest_after) (drop more rest_after)

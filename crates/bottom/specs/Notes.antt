-- What a drain sends, pipe by pipe: the notes of which pipes, in what order, and in what bytes. Assumes nothing.
use Rattle.std.specs.Prelude.{◌≡◌, ◌≢◌, ◌⊎◌, ℕ, ◌+◌, ◌*◌, ◌<◌, ◌≤◌, cond, List, [], ◌∷◌, ◌++◌, length, drop, All, Any, AllPairs, Contains, flat_map}
use Rattle.chest.specs.Places.{Places}

-- a pipe, by its row and place
abbrev pub Pipe : Type 0
Pipe = ℕ × ℕ

-- one pipe stands before another: in a lower row, or lower in the same row
abbrev pub Before : Pipe → Pipe → Type 0
Before p q = (p.0 < q.0) ⊎ ((p.0 ≡ q.0) × (p.1 < q.1))

-- a note on where it speaks, a note off where it does not, on the row's channel and at velocity 64
abbrev pub note_of : Places → Pipe → List ℕ
note_of speaking p = (cond (speaking p.0 p.1) 0x90 0x80 + p.0) ∷ p.1 ∷ 64 ∷ []

-- what speaks, what was sent before and is sent after, a buffer before and after, and how many of its bytes were written
pub record NotesSent (speaking before after : Places) (old new : List ℕ) (count : ℕ) : Type 0 where
  -- the pipes whose notes are sent
  pub pipes : List Pipe
  -- each is one of 128 places of 16 rows, and was sent otherwise than it speaks
  pub inside : All (λ p. (p.0 < 16) × (p.1 < 128)) pipes
  pub pending : All (λ p. before p.0 p.1 ≢ speaking p.0 p.1) pipes
  -- they rise row by row, and in a row place by place
  pub rising : AllPairs Before pipes
  -- and none that stands before one of them is left out
  pub whole : (r p : ℕ) → before r p ≢ speaking r p → Any (Before (r, p)) pipes → Contains pipes (r, p)
  -- three bytes are written for each, in this order, and the rest of the buffer stays
  pub answer : count ≡ 3 * length pipes
  pub room : count ≤ length old
  pub bytes : new ≡ flat_map (note_of speaking) pipes ++ drop count old
  -- each is sent then as it speaks, and any other as it was
  pub sent : All (λ p. after p.0 p.1 ≡ speaking p.0 p.1) pipes
  pub others : (r p : ℕ) → (Contains pipes (r, p) → ⊥) → after r p ≡ before r p
  -- and where one is left that is sent otherwise than it speaks, fewer than three bytes of the buffer are
  pub stops : (r p : ℕ) → after r p ≢ speaking r p → length old < count + 3

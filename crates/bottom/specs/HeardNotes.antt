-- Which notes a receiver has, by the bytes that it has heard. Assumes nothing.
use Rattle.std.specs.Prelude.{◌≡◌, ◌≢◌, ◌⊎◌, ℕ, ◌+◌, ◌<◌, true, false, List, [], ◌∷◌, ◌++◌}
use Rattle.bottom.specs.Receiver.{notes_after}

-- the bytes of a message that is no note leave every note
abbrev pub Leaves : List ℕ → Type 0
Leaves bytes = (line : List ℕ) → notes_after (line ++ bytes) ≡ notes_after line

pub record HeardNotes : Type 0 where
  -- none at first
  pub none : (r p : ℕ) → notes_after [] r p ≡ false
  -- after the bytes of a note on, 90 + channel, whose velocity is not 0, that note
  pub on : (line : List ℕ) (channel key velocity : ℕ) → channel < 16 → key < 128 → velocity < 128 → velocity ≢ 0 → notes_after (line ++ (0x90 + channel) ∷ key ∷ velocity ∷ []) channel key ≡ true
  -- after those of one whose velocity is 0, or of a note off, 80 + channel, not that note
  pub silent : (line : List ℕ) (channel key : ℕ) → channel < 16 → key < 128 → notes_after (line ++ (0x90 + channel) ∷ key ∷ 0 ∷ []) channel key ≡ false
  pub off : (line : List ℕ) (channel key velocity : ℕ) → channel < 16 → key < 128 → velocity < 128 → notes_after (line ++ (0x80 + channel) ∷ key ∷ velocity ∷ []) channel key ≡ false
  -- and every other note as before
  pub others : (line : List ℕ) (channel key velocity r p : ℕ) → channel < 16 → key < 128 → velocity < 128 → (r ≢ channel) ⊎ (p ≢ key) → (notes_after (line ++ (0x90 + channel) ∷ key ∷ velocity ∷ []) r p ≡ notes_after line r p) × (notes_after (line ++ (0x80 + channel) ∷ key ∷ velocity ∷ []) r p ≡ notes_after line r p)
  -- no message of another kind changes a note: key pressures, A0 + channel; controllers, B0; programs, C0; channel
  -- pressures, D0; bends, E0
  pub key_pressure : (channel a b : ℕ) → channel < 16 → a < 128 → b < 128 → Leaves ((0xa0 + channel) ∷ a ∷ b ∷ [])
  pub controller : (channel a b : ℕ) → channel < 16 → a < 128 → b < 128 → Leaves ((0xb0 + channel) ∷ a ∷ b ∷ [])
  pub program : (channel a : ℕ) → channel < 16 → a < 128 → Leaves ((0xc0 + channel) ∷ a ∷ [])
  pub channel_pressure : (channel a : ℕ) → channel < 16 → a < 128 → Leaves ((0xd0 + channel) ∷ a ∷ [])
  pub bend : (channel a b : ℕ) → channel < 16 → a < 128 → b < 128 → Leaves ((0xe0 + channel) ∷ a ∷ b ∷ [])

-- Coupler board over stop board over any chest. Assumes nothing.
use Rattle.chest.specs.Meaning.{Meaning}
use Rattle.board.specs.Relay.{RelayBoard, meaning_of, Settled}

abbrev pub Stack : Type 0 → Type 0
Stack C = RelayBoard (RelayBoard C)

-- what it means, and when it is settled
module _ {C : Type 0} (meaning : C → Meaning) where
  abbrev pub stacked : Stack C → Meaning
  stacked = meaning_of (meaning_of meaning)

  abbrev pub StackSettled : (C → Type 0) → Stack C → Type 0
  StackSettled settled = Settled (meaning_of meaning) (Settled meaning settled)

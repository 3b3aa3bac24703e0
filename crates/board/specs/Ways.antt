-- The chest below as the numbers of ways have it. Assumes nothing.
use Rattle.std.specs.Prelude.{◌≡◌, ℕ, ◌&&◌, List, nat_lt}
use Rattle.chest.specs.Places.{Places}
use Rattle.chest.specs.Meaning.{Meaning, Becomes, with_register}
use Rattle.coupling.specs.Layout.{Reaches}
use Rattle.board.specs.Counts.{at_place}

-- the places to which there is a way
abbrev pub standing : List ℕ → Places
standing ways b q = nat_lt b 16 && (nat_lt q 128 && nat_lt 0 (at_place ways b q))

-- a chest that stood so, with these reaches, stands so again, and nothing else of it changed
pub record Keeps {C : Type 0} (meaning : C → Meaning) (settled : C → Type 0) (reach : Reaches) (ways : List ℕ) (before : C) (ways' : List ℕ) (after : C) : Type 0 where
  pub stands : (meaning before).reach ≡ reach → (meaning before).register ≡ standing ways → Becomes meaning settled before after (with_register (meaning before) (standing ways'))

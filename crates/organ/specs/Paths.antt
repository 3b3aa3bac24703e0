-- How a key reaches a pipe of an assembled organ, in the words of the book's wires. Assumes nothing.
use Rattle.std.specs.Prelude.{◌≡◌, ◌⊎◌, ℕ, ◌<◌, ◌≤◌, true, List, length, pos, ◌+ℤ◌, Decides}
use Rattle.std.specs.List.{HoldsAt}
use Rattle.chest.specs.Places.{Places}
use Rattle.chest.specs.Meaning.{Meaning, Panel}
use Rattle.book.specs.declared.board.Board.{Board}
use Rattle.book.specs.declared.board.Board.TheVariants.{Coupler, Stop}
use Rattle.book.specs.declared.book.BookWire.{BookWire}

-- a wire of the book leads on this board from a key of a row to a place of a row: it is live, since its knob is 64 or stands
-- at its position, the key lies from its lowest to its highest, and its shift takes the key to the place
pub record WireLeads (panel : Panel) (board : Board) (row key to place : ℕ) (w : BookWire) : Type 0 where
  pub on : w.board ≡ board
  pub live : (w.wire.knob ≡ 64) ⊎ (panel w.wire.knob ≡ w.wire.position)
  pub from : w.wire.from ≡ row
  pub low : w.wire.lowest ≤ key
  pub high : key ≤ w.wire.highest
  pub to_row : w.wire.to ≡ to
  pub shifted : pos place ≡ pos key +ℤ w.wire.shift

-- some wire of the book does
abbrev pub SomeLeads : Panel → Board → (row key to place : ℕ) → List BookWire → Type 0
SomeLeads panel board row key to place ws = (i : ℕ) × (i < length ws) × HoldsAt (WireLeads panel board row key to place) ws i

-- a sounding key reaches a pipe: a live coupler wire leads from it to a key that there is, and a live stop wire from that key
-- to the pipe, which there is
pub record Path (keys ranks : ℕ → ℕ) (ws : List BookWire) (panel : Panel) (sounding : Places) (rank pipe : ℕ) : Type 0 where
  pub division : ℕ
  pub key : ℕ
  pub sounds : sounding division key ≡ true
  pub to_division : ℕ
  pub to_key : ℕ
  pub coupler : SomeLeads panel Coupler division key to_division to_key ws
  pub there : to_key < keys to_division
  pub stop : SomeLeads panel Stop to_division to_key rank pipe ws
  pub has : pipe < ranks rank

-- what a stack of these wires lets speak is what the chest at its foot lets speak for exactly the pipes that are reached
abbrev pub PathLaw : (keys : ℕ → ℕ) → Meaning → List BookWire → (Panel → Places → Places) → Type 0
PathLaw keys foot ws rule =
    (panel : Panel) (sounding : Places) → (pipes : Places) × (rule panel sounding ≡ foot.rule panel pipes) × ((rank pipe : ℕ) → Decides (pipes rank pipe) (Path keys foot.reach ws panel sounding rank pipe))

-- over a foot that lets speak just what is set, a pipe speaks exactly if it is reached
abbrev pub SpeaksByPaths : (keys ranks : ℕ → ℕ) → List BookWire → (Panel → Places → Places) → Type 0
SpeaksByPaths keys ranks ws rule =
    (panel : Panel) (sounding : Places) (rank pipe : ℕ) → Decides (rule panel sounding rank pipe) (Path keys ranks ws panel sounding rank pipe)

-- What each call of a chest is refused for and what it changes, by the numbers of rows, places, knobs and positions. Assumes nothing.
use Rattle.std.specs.Prelude.{◌≡◌, ◌↔◌, ◌⊎◌, ℕ, ◌+◌, ◌<◌, ◌≤◌, Bool, List, Ok, Err, slice_index}
use Rattle.chest.specs.declared.fault.ChestFault.TheVariants.{Row, Place, Knob, Position}
use Rattle.chest.specs.Positions.{panel_of}
use Rattle.chest.specs.Reaches.{reach_of}
use Rattle.chest.specs.Meaning.{Meaning, reach_answer, position_answer, set_answer, set_after, turn_answer, turn_after, strobe_after}

-- a set is judged by its row first, which is one of 16, and then by its place, which is one that the row has
pub record SetLaw (m : Meaning) (row place : ℕ) : Type 0 where
  -- its fault is that of the row, or that of the place, or it is done
  pub row_fault : (set_answer m row place ≡ Err (Row row)) ↔ (16 ≤ row)
  pub place_fault : (set_answer m row place ≡ Err (Place row place)) ↔ ((row < 16) × (m.reach row ≤ place))
  pub done : (set_answer m row place ≡ Ok tt) ↔ ((row < 16) × (place < m.reach row))
  -- one that is done leaves that place on or off as asked, and a refused one changes nothing
  pub here : (on : Bool) → row < 16 → place < m.reach row → (set_after m row place on).register row place ≡ on
  pub refused : (on : Bool) → (16 ≤ row) ⊎ (m.reach row ≤ place) → set_after m row place on ≡ m
  -- every other place, and all that is no place, stands
  pub elsewhere : (on : Bool) (r p : ℕ) → ((r ≡ row) × (p ≡ place) → ⊥) → (set_after m row place on).register r p ≡ m.register r p
  pub reach : (on : Bool) → (set_after m row place on).reach ≡ m.reach
  pub panel : (on : Bool) → (set_after m row place on).panel ≡ m.panel
  pub speaking : (on : Bool) → (set_after m row place on).speaking ≡ m.speaking
  pub strobes : (on : Bool) → (set_after m row place on).strobes ≡ m.strobes
  pub rule : (on : Bool) → (set_after m row place on).rule ≡ m.rule

-- a turn is judged by its knob first, which is one of 64, and then by its position, which is one of 16
pub record TurnLaw (m : Meaning) (knob position : ℕ) : Type 0 where
  -- its fault is that of the knob, or that of the position, or it is done
  pub knob_fault : (turn_answer knob position ≡ Err (Knob knob)) ↔ (64 ≤ knob)
  pub position_fault : (turn_answer knob position ≡ Err (Position knob position)) ↔ ((knob < 64) × (16 ≤ position))
  pub done : (turn_answer knob position ≡ Ok tt) ↔ ((knob < 64) × (position < 16))
  -- one that is done leaves that knob at the position, and a refused one changes nothing
  pub here : knob < 64 → position < 16 → (turn_after m knob position).panel knob ≡ position
  pub refused : (64 ≤ knob) ⊎ (16 ≤ position) → turn_after m knob position ≡ m
  -- every other knob, and all that is no knob, stands
  pub elsewhere : (k : ℕ) → (k ≡ knob → ⊥) → (turn_after m knob position).panel k ≡ m.panel k
  pub reach : (turn_after m knob position).reach ≡ m.reach
  pub register : (turn_after m knob position).register ≡ m.register
  pub speaking : (turn_after m knob position).speaking ≡ m.speaking
  pub strobes : (turn_after m knob position).strobes ≡ m.strobes
  pub rule : (turn_after m knob position).rule ≡ m.rule

-- a strobe: the pipes of the rule for the knobs and the places as they stand, and one strobe more, up to 4294967295
pub record StrobeLaw (m : Meaning) : Type 0 where
  pub speaking : (strobe_after m).speaking ≡ m.rule m.panel m.register
  pub more : m.strobes < 4294967295 → (strobe_after m).strobes ≡ m.strobes + 1
  pub last : m.strobes ≡ 4294967295 → (strobe_after m).strobes ≡ 0
  pub reach : (strobe_after m).reach ≡ m.reach
  pub register : (strobe_after m).register ≡ m.register
  pub panel : (strobe_after m).panel ≡ m.panel
  pub rule : (strobe_after m).rule ≡ m.rule

-- the two questions: the reach of one of 16 rows, and the position of one of 64 knobs
pub record AskLaw (m : Meaning) : Type 0 where
  pub row_fault : (row : ℕ) → (reach_answer m row ≡ Err (Row row)) ↔ (16 ≤ row)
  pub reach : (row : ℕ) → (reach_answer m row ≡ Ok (m.reach row)) ↔ (row < 16)
  pub knob_fault : (knob : ℕ) → (position_answer m knob ≡ Err (Knob knob)) ↔ (64 ≤ knob)
  pub position : (knob : ℕ) → (position_answer m knob ≡ Ok (m.panel knob)) ↔ (knob < 64)

-- reaches and positions as a table gives them: 128 at most of 16 rows, and those of 64 knobs
pub record TableLaw (table : List ℕ) : Type 0 where
  pub below : (r : ℕ) → r < 16 → slice_index table r ≤ 128 → reach_of table r ≡ slice_index table r
  pub above : (r : ℕ) → r < 16 → 128 < slice_index table r → reach_of table r ≡ 128
  pub past : (r : ℕ) → 16 ≤ r → reach_of table r ≡ 0
  pub position : (k : ℕ) → k < 64 → panel_of table k ≡ slice_index table k
  pub no_knob : (k : ℕ) → 64 ≤ k → panel_of table k ≡ 0

-- What a chest means, and what each call makes of that. Assumes nothing.
use Rattle.std.specs.Prelude.{◌≡◌, ℕ, ◌+◌, ◌%◌, ◌^◌, ◌<◌, ◌≤◌, Bool, true, cond, is_ok, Ok, Err, Result, ◌==◌, nat_lt}
use Rattle.chest.specs.declared.fault.ChestFault.{ChestFault}
use Rattle.chest.specs.declared.fault.ChestFault.TheVariants.{Knob, Position}
use Rattle.chest.specs.Places.{Places, put}
use Rattle.chest.specs.Positions.{position_in}
use Rattle.chest.specs.Reaches.{reach_in, place_in}

-- the position of each knob
abbrev pub Panel : Type 0
Panel = ℕ → ℕ

-- reach: how many places each row has; register: the places that are set; panel: the knobs' positions;
-- speaking: the pipes that speak at the foot of the stack; strobes: the number of strobes, modulo 2^32;
-- rule: the pipes that speak after a strobe, for every panel and register
pub record Meaning : Type 0 where
  pub reach : ℕ → ℕ
  pub register : Places
  pub panel : Panel
  pub speaking : Places
  pub strobes : ℕ
  pub rule : Panel → Places → Places

-- 16 rows of at most 128 places, 64 knobs of 16 positions, and nothing outside them
pub record Bounded (m : Meaning) : Type 0 where
  pub reaches : (r : ℕ) → m.reach r ≤ 128
  pub rows : (r : ℕ) → 16 ≤ r → m.reach r ≡ 0
  pub register : (r p : ℕ) → m.register r p ≡ true → p < m.reach r
  pub positions : (k : ℕ) → m.panel k < 16
  pub knobs : (k : ℕ) → 64 ≤ k → m.panel k ≡ 0
  pub pipes : (r p : ℕ) → m.speaking r p ≡ true → (r < 16) × (p < 128)
  pub strobes : m.strobes < 2 ^ 32

-- a chest that is settled stays so, and means this then
abbrev pub Becomes : {C : Type 0} → (C → Meaning) → (C → Type 0) → C → C → Meaning → Type 0
Becomes meaning settled before after m = settled before → settled after × (meaning after ≡ m)

abbrev pub with_register : Meaning → Places → Meaning
with_register m s =
    record { reach = m.reach; register = s; panel = m.panel; speaking = m.speaking; strobes = m.strobes; rule = m.rule }

abbrev pub with_panel : Meaning → Panel → Meaning
with_panel m f =
    record { reach = m.reach; register = m.register; panel = f; speaking = m.speaking; strobes = m.strobes; rule = m.rule }

-- the panel with one knob at another position
abbrev pub knob_to : Panel → ℕ → ℕ → Panel
knob_to panel knob position k = cond (k == knob) position (panel k)

-- the reach of a row, the position of a knob
abbrev pub reach_answer : Meaning → ℕ → Result ℕ ChestFault
reach_answer m = reach_in m.reach

abbrev pub position_answer : Meaning → ℕ → Result ℕ ChestFault
position_answer m = position_in m.panel

-- one place is put on or off
abbrev pub set_answer : Meaning → ℕ → ℕ → Result Unit ChestFault
set_answer m = place_in m.reach

abbrev pub set_after : Meaning → ℕ → ℕ → Bool → Meaning
set_after m row place on =
    cond (is_ok (set_answer m row place)) (with_register m (put m.register row place on)) m

-- one knob is turned to a position
abbrev pub turn_answer : ℕ → ℕ → Result Unit ChestFault
turn_answer knob position =
    cond (nat_lt knob 64) (cond (nat_lt position 16) (Ok tt) (Err (Position knob position))) (Err (Knob knob))

abbrev pub turn_after : Meaning → ℕ → ℕ → Meaning
turn_after m knob position =
    cond (is_ok (turn_answer knob position)) (with_panel m (knob_to m.panel knob position)) m

-- the number of strobes after one more
abbrev pub next_strobe : ℕ → ℕ
next_strobe n = (n + 1) % 2 ^ 32

-- the pipes of the rule speak
abbrev pub strobe_after : Meaning → Meaning
strobe_after m =
    record { reach = m.reach; register = m.register; panel = m.panel; speaking = m.rule m.panel m.register; strobes = next_strobe m.strobes; rule = m.rule }

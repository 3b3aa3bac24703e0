-- When a call of a record is refused, each condition by itself, and how often a call strobes. Assumes nothing.
use Rattle.std.specs.Prelude.{◌≡◌, ℕ, ◌+◌, ◌%◌, ◌<◌, ◌≤◌, true, false, List, ◌∷◌, ◌++◌, is_ok, Some, None, Ok, Err, ◌↔◌}
use Rattle.chest.specs.Places.{Places, changed}
use Rattle.chest.specs.Meaning.{Meaning}
use Rattle.fittings.specs.declared.Scope.{Scope}
use Rattle.console.specs.declared.call.Call.{Call}
use Rattle.console.specs.declared.call.Call.TheVariants.{Press, Lift, Sustain, Clear, Turn, Capture, Recall, Cancel}
use Rattle.console.specs.declared.fault.PlayFault.TheVariants.{Division, Key, KeyDown, KeyUp, Knob, Position, Piston, NeverCaptured}
use Rattle.console.specs.declared.knob_table.KnobTable.{KnobTable}
use Rattle.console.specs.declared.piston_table.PistonTable.{PistonTable}
use Rattle.console.specs.Model.{Setup, first}
use Rattle.console.specs.Record.{Answer, Entry, RecordLaw, Making, last_meaning}
use Rattle.console.specs.Tracks.{setup_of}
use Rattle.console.specs.DoneCalls.{some, is_down, captures}

module _ (s : Setup) (front : List Entry) where
  -- a press: no such division, else no such key, else the key is down
  pub record PressRefused (d k : ℕ) (answer : Answer) : Type 0 where
    pub division : (answer ≡ Err (Division d)) ↔ (16 ≤ d)
    pub key : (answer ≡ Err (Key d k)) ↔ ((d < 16) × (s.reach d ≤ k))
    pub down : (answer ≡ Err (KeyDown d k)) ↔ ((d < 16) × (k < s.reach d) × (is_down d k front ≡ true))
    pub done : (is_ok answer ≡ true) ↔ ((d < 16) × (k < s.reach d) × (is_down d k front ≡ false))

  -- a lift: no such division, else no such key, else the key is not down
  pub record LiftRefused (d k : ℕ) (answer : Answer) : Type 0 where
    pub division : (answer ≡ Err (Division d)) ↔ (16 ≤ d)
    pub key : (answer ≡ Err (Key d k)) ↔ ((d < 16) × (s.reach d ≤ k))
    pub up : (answer ≡ Err (KeyUp d k)) ↔ ((d < 16) × (k < s.reach d) × (is_down d k front ≡ false))
    pub done : (is_ok answer ≡ true) ↔ ((d < 16) × (k < s.reach d) × (is_down d k front ≡ true))

  -- a sustain or a clear: no such division
  pub record DivisionRefused (d : ℕ) (answer : Answer) : Type 0 where
    pub division : (answer ≡ Err (Division d)) ↔ (16 ≤ d)
    pub done : (is_ok answer ≡ true) ↔ (d < 16)

  -- a turn: an undefined knob, else a position that is not below its steps
  pub record TurnRefused (k q : ℕ) (answer : Answer) : Type 0 where
    pub knob : (answer ≡ Err (Knob k)) ↔ (s.steps k ≡ None)
    pub position : (answer ≡ Err (Position k q)) ↔ ((steps : ℕ) × (s.steps k ≡ Some steps) × (steps ≤ q))
    pub done : (is_ok answer ≡ true) ↔ ((steps : ℕ) × (s.steps k ≡ Some steps) × (q < steps))

  -- a capture: an undefined piston
  pub record CaptureRefused (q : ℕ) (answer : Answer) : Type 0 where
    pub piston : (answer ≡ Err (Piston q)) ↔ (s.scope q ≡ None)
    pub done : (is_ok answer ≡ true) ↔ ((scope : Scope) × (s.scope q ≡ Some scope))

  -- a recall: an undefined piston, else one on which no capture was done
  pub record RecallRefused (q : ℕ) (answer : Answer) : Type 0 where
    pub piston : (answer ≡ Err (Piston q)) ↔ (s.scope q ≡ None)
    pub never : (answer ≡ Err (NeverCaptured q)) ↔ ((scope : Scope) × (s.scope q ≡ Some scope) × (some (captures q) front ≡ false))
    pub done : (is_ok answer ≡ true) ↔ ((scope : Scope) × (s.scope q ≡ Some scope) × (some (captures q) front ≡ true))

  -- a call and its answer, after the calls of a record
  abbrev pub RefusedExactly : Call → Answer → Type 0
  RefusedExactly (Press d k) answer = PressRefused d k answer
  RefusedExactly (Lift d k) answer = LiftRefused d k answer
  RefusedExactly (Sustain d on) answer = DivisionRefused d answer
  RefusedExactly (Clear d) answer = DivisionRefused d answer
  RefusedExactly (Turn k q) answer = TurnRefused k q answer
  RefusedExactly (Capture q) answer = CaptureRefused q answer
  RefusedExactly (Recall q) answer = RecallRefused q answer
  RefusedExactly Cancel answer = is_ok answer ≡ true

-- how often a call strobes: a refused one and a capture, which answers 0, not at all, each other one once modulo 2^32
abbrev pub Strobes : Call → Answer → ℕ → ℕ → Type 0
Strobes (Capture q) answer before after = (after ≡ before) × (is_ok answer ≡ true → answer ≡ Ok 0)
Strobes call answer before after = (is_ok answer ≡ false → after ≡ before) × (is_ok answer ≡ true → after ≡ (before + 1) % 4294967296)

-- what a done call answers: at how many pipes what speaks has changed
abbrev pub Counts : Call → Answer → Places → Places → Type 0
Counts (Capture q) answer before after = Unit {0}
Counts call answer before after = is_ok answer ≡ true → answer ≡ Ok (changed before after)

pub record RefusalLaw : Type 0 where
  pub refused : (s : Setup) (m : Meaning) (front : List Entry) (e : Entry) (rest : List Entry) → RecordLaw s m (first s) (front ++ e ∷ rest) → RefusedExactly s front e.call e.answer
  pub strobes : (s : Setup) (m : Meaning) (front : List Entry) (e : Entry) (rest : List Entry) → RecordLaw s m (first s) (front ++ e ∷ rest) → Strobes e.call e.answer (last_meaning m front).strobes e.chest.strobes
  pub counts : (s : Setup) (m : Meaning) (front : List Entry) (e : Entry) (rest : List Entry) → RecordLaw s m (first s) (front ++ e ∷ rest) → Counts e.call e.answer (last_meaning m front).speaking e.chest.speaking
  -- a making strobes once, and lets nothing speak
  pub makes : (s : Setup) (before made : Meaning) → Making s before made → (made.strobes ≡ (before.strobes + 1) % 4294967296) × ((rank pipe : ℕ) → made.speaking rank pipe ≡ false)
  -- no table defines a knob of 64 or more or a piston of 40 or more
  pub no_knob : (reach : ℕ → ℕ) (knobs : KnobTable) (pistons : PistonTable) (k : ℕ) → 64 ≤ k → (setup_of reach knobs pistons).steps k ≡ None
  pub no_piston : (reach : ℕ → ℕ) (knobs : KnobTable) (pistons : PistonTable) (q : ℕ) → 40 ≤ q → (setup_of reach knobs pistons).scope q ≡ None

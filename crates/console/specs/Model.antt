-- The model console: what the calls come to. It is given the reaches, the knobs and the pistons once, and then only the
-- calls with their arguments, never an answer. Assumes nothing.
use Rattle.std.specs.Prelude.{ℕ, Bool, cond, ◌&&◌, is_some, is_ok, Some, None, Ok, Err, Option, Result, ◌==◌, nat_lt}
use Rattle.std.specs.Option.{unwrap_or}
use Rattle.chest.specs.Meaning.{Panel, knob_to}
use Rattle.console.specs.declared.call.Call.{Call}
use Rattle.console.specs.declared.call.Call.TheVariants.{Press, Lift, Sustain, Clear, Turn, Capture, Recall, Cancel}
use Rattle.console.specs.declared.fault.PlayFault.{PlayFault}
use Rattle.console.specs.declared.fault.PlayFault.TheVariants.{Division, Key, KeyDown, KeyUp, Knob, Position, Piston, NeverCaptured}
use Rattle.fittings.specs.declared.Scope.{Scope}
use Rattle.console.specs.Keys.{Keys, no_keys, pressed, lifted, sustain_begun, sustain_ended, cleared}
use Rattle.console.specs.PistonTable.{in_scope}

-- reach: the keys of each division; steps: the steps of each knob, none where it is undefined; home: where a knob goes
-- at the making and at a cancel; scope: the lowest and highest knob of each piston, none where it is undefined
pub record Setup : Type 0 where
  pub reach : ℕ → ℕ
  pub steps : ℕ → Option ℕ
  pub home : ℕ → ℕ
  pub scope : ℕ → Option Scope

-- what a piston stores: the position of each knob that it took
abbrev pub Memory : Type 0
Memory = ℕ → Option ℕ

pub record Model : Type 0 where
  pub keys : Keys
  pub panel : Panel
  pub stored : ℕ → Option Memory

-- each defined knob at home, the others at 0
abbrev pub all_home : Setup → Panel
all_home s k = cond (is_some (s.steps k)) (s.home k) 0

-- at the making: no key down or sustained, every sustain off, no piston captured
abbrev pub first : Setup → Model
first s = record { keys = no_keys; panel = all_home s; stored = λ q. None }

-- the panel with each defined knob at home
abbrev pub homed : Setup → Panel → Panel
homed s panel k = cond (is_some (s.steps k)) (s.home k) (panel k)

-- the knobs of a piston: the defined ones in its scope
abbrev pub takes : Setup → ℕ → ℕ → Bool
takes s q k = is_some (s.steps k) && in_scope (s.scope q) k

-- the positions of a piston's knobs
abbrev pub memory : Setup → Panel → ℕ → Memory
memory s panel q k = cond (takes s q k) (Some (panel k)) None

-- the panel with a piston's knobs as it stores them
abbrev pub recalled : Option Memory → Panel → Panel
recalled None panel k = panel k
recalled (Some m) panel k = unwrap_or (m k) (panel k)

-- the player's checks, in their order
abbrev pub division_check : ℕ → Result Unit PlayFault
division_check d = cond (nat_lt d 16) (Ok tt) (Err (Division d))

abbrev pub key_check : (ℕ → ℕ) → ℕ → ℕ → Result Unit PlayFault → Result Unit PlayFault
key_check reach d k then = cond (nat_lt d 16) (cond (nat_lt k (reach d)) then (Err (Key d k))) (Err (Division d))

abbrev pub knob_check : Option ℕ → ℕ → ℕ → Result Unit PlayFault
knob_check None k q = Err (Knob k)
knob_check (Some steps) k q = cond (nat_lt q steps) (Ok tt) (Err (Position k q))

abbrev pub piston_check : Option Scope → ℕ → Result Unit PlayFault → Result Unit PlayFault
piston_check None q then = Err (Piston q)
piston_check (Some scope) q then = then

abbrev pub check : Setup → Model → Call → Result Unit PlayFault
check s p (Press d k) = key_check s.reach d k (cond (p.keys.down d k) (Err (KeyDown d k)) (Ok tt))
check s p (Lift d k) = key_check s.reach d k (cond (p.keys.down d k) (Ok tt) (Err (KeyUp d k)))
check s p (Sustain d on) = division_check d
check s p (Clear d) = division_check d
check s p (Turn k q) = knob_check (s.steps k) k q
check s p (Capture q) = piston_check (s.scope q) q (Ok tt)
check s p (Recall q) = piston_check (s.scope q) q (cond (is_some (p.stored q)) (Ok tt) (Err (NeverCaptured q)))
check s p Cancel = Ok tt

abbrev pub with_keys : Model → Keys → Model
with_keys p keys = record { keys = keys; panel = p.panel; stored = p.stored }

abbrev pub with_panel : Model → Panel → Model
with_panel p panel = record { keys = p.keys; panel = panel; stored = p.stored }

-- what a done call makes of the model
abbrev pub done : Setup → Model → Call → Model
done s p (Press d k) = with_keys p (pressed p.keys d k)
done s p (Lift d k) = with_keys p (lifted p.keys d k)
done s p (Sustain d on) = with_keys p (cond on (sustain_begun p.keys d) (sustain_ended p.keys d))
done s p (Clear d) = with_keys p (cleared p.keys d)
done s p (Turn k q) = with_panel p (knob_to p.panel k q)
done s p (Capture q) =
    record { keys = p.keys; panel = p.panel; stored = λ r. cond (r == q) (Some (memory s p.panel q)) (p.stored r) }
done s p (Recall q) = with_panel p (recalled (p.stored q) p.panel)
done s p Cancel = with_panel p (homed s p.panel)

-- a fault changes nothing
abbrev pub after : Setup → Model → Call → Model
after s p call = cond (is_ok (check s p call)) (done s p call) p

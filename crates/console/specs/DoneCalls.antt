-- What the done calls of a record tell, by the calls alone: which came last. Assumes nothing.
use Rattle.std.specs.Prelude.{ℕ, Bool, false, not, ◌&&◌, ◌||◌, List, [], ◌∷◌, ◌++◌, is_ok, is_some, Some, None, Option, ◌==◌, nat_le}
use Rattle.fittings.specs.declared.Scope.{Scope}
use Rattle.console.specs.declared.call.Call.{Call}
use Rattle.console.specs.declared.call.Call.TheVariants.{Press, Lift, Sustain, Clear, Turn, Capture, Recall, Cancel}
use Rattle.console.specs.Model.{Setup}
use Rattle.console.specs.Record.{Entry}

-- some entry of a record passes; none does
abbrev pub some : (Entry → Bool) → List Entry → Bool
some test [] = false
some test (e ∷ es) = test e || some test es

abbrev pub none : (Entry → Bool) → List Entry → Bool
none test es = not (some test es)

-- some entry begins it, and none after that ends it
abbrev pub since : (Entry → Bool) → (Entry → Bool) → List Entry → Bool
since begins ends [] = false
since begins ends (e ∷ es) = (begins e && none ends es) || since begins ends es

-- which call it is: a press or a lift of this key
abbrev pub is_press : ℕ → ℕ → Call → Bool
is_press d k (Press e j) = d == e && k == j
is_press d k call = false

abbrev pub is_lift : ℕ → ℕ → Call → Bool
is_lift d k (Lift e j) = d == e && k == j
is_lift d k call = false

-- a sustain of this division on or off, a clear of it
abbrev pub is_sustain_on : ℕ → Call → Bool
is_sustain_on d (Sustain e on) = d == e && on
is_sustain_on d call = false

abbrev pub is_sustain_off : ℕ → Call → Bool
is_sustain_off d (Sustain e on) = d == e && not on
is_sustain_off d call = false

abbrev pub is_clear : ℕ → Call → Bool
is_clear d (Clear e) = d == e
is_clear d call = false

-- a capture on this piston
abbrev pub is_capture : ℕ → Call → Bool
is_capture q (Capture r) = q == r
is_capture q call = false

-- a call that was done: it answered a number
abbrev pub did : (Call → Bool) → Entry → Bool
did test e = is_ok e.answer && test e.call

-- done calls that press a key, and those that leave it up
abbrev pub presses : ℕ → ℕ → Entry → Bool
presses d k = did (is_press d k)

abbrev pub releases : ℕ → ℕ → Entry → Bool
releases d k = did (λ call. is_lift d k call || is_clear d call)

-- done calls that put a sustain on, and those that leave it off
abbrev pub sustains : ℕ → Entry → Bool
sustains d = did (is_sustain_on d)

abbrev pub unsustains : ℕ → Entry → Bool
unsustains d = did (λ call. is_sustain_off d call || is_clear d call)

-- done captures on a piston
abbrev pub captures : ℕ → Entry → Bool
captures q = did (is_capture q)

-- a key is down: it was pressed, and since then neither lifted nor cleared with its division
abbrev pub is_down : ℕ → ℕ → List Entry → Bool
is_down d k = since (presses d k) (releases d k)

-- a sustain is on: it was put on, and since then neither put off nor cleared
abbrev pub is_on : ℕ → List Entry → Bool
is_on d = since (sustains d) (unsustains d)

-- a sustain holds a key, by a record and the one before it: it was put on, neither put off nor cleared since, and the key
-- was down then or was pressed since
abbrev pub holds : ℕ → ℕ → List Entry → List Entry → Bool
holds d k before [] = false
holds d k before (e ∷ es) =
    (sustains d e && (none (unsustains d) es && (is_down d k before || some (presses d k) es))) || holds d k (before ++ e ∷ []) es

abbrev pub is_held : ℕ → ℕ → List Entry → Bool
is_held d k = holds d k []

-- a knob lies between the lowest and the highest of a scope
abbrev pub between : Option Scope → ℕ → Bool
between None k = false
between (Some scope) k = nat_le scope.lowest k && nat_le k scope.highest

-- a call names a knob: its turn; a recall, if the knob is defined and in the piston's scope; a cancel, if it is defined
abbrev pub is_named : Setup → ℕ → Call → Bool
is_named s k (Turn j q) = k == j
is_named s k (Recall q) = is_some (s.steps k) && between (s.scope q) k
is_named s k Cancel = is_some (s.steps k)
is_named s k call = false

abbrev pub names : Setup → ℕ → Entry → Bool
names s k = did (is_named s k)

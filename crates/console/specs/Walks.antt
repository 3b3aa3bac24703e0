-- What the console's walks over the knobs of a chest leave. Assumes nothing.
use Rattle.std.specs.Prelude.{◌≡◌, ℕ, ◌<◌, cond, ◌&&◌, is_some, List, Some, None, Option, nat_lt, slice_index}
use Rattle.std.specs.Option.{unwrap_or}
use Rattle.fittings.specs.declared.Scope.{Scope}
use Rattle.chest.specs.Meaning.{Meaning, with_panel}
use Rattle.console.specs.declared.knob_table.KnobTable.{KnobTable}
use Rattle.console.specs.KnobTable.{steps_of}
use Rattle.console.specs.PistonTable.{in_scope}

-- those of the first n knobs that have a position to go to turned
abbrev pub knobs_turned : Meaning → (ℕ → Option ℕ) → ℕ → Meaning
knobs_turned m to n = with_panel m (λ k. unwrap_or (cond (nat_lt k n) (to k) None) (m.panel k))

-- what a rule answers of a knob is where it goes, and there is such a position
pub record Turns (answers : ℕ → Option ℕ → Type 0) (to : ℕ → Option ℕ) : Type 0 where
  pub told : (k : ℕ) (o : Option ℕ) → k < 64 → answers k o → o ≡ to k
  pub positions : (k n : ℕ) → to k ≡ Some n → n < 16

-- the positions of a frame at the defined knobs of a scope
abbrev pub frame_in : KnobTable → Scope → List ℕ → ℕ → Option ℕ
frame_in t scope frame k = cond (is_some (steps_of t k) && in_scope (Some scope) k) (Some (slice_index frame k)) None

-- Tables of knobs: the steps and the home of each knob, no steps where it is undefined. Assumes nothing.
use Rattle.std.specs.Prelude.{ℕ, Bool, cond, ◌&&◌, is_some, Some, None, Option, nat_le, nat_lt, slice_index}
use Rattle.console.specs.declared.knob_table.KnobTable.{KnobTable}

-- 2 to 16 steps and a home below them
abbrev pub sound : ℕ → ℕ → Bool
sound steps home = nat_le 2 steps && (nat_le steps 16 && nat_lt home steps)

-- the steps of a knob, none where it is undefined
abbrev pub steps_of : KnobTable → ℕ → Option ℕ
steps_of t k =
    cond (nat_lt k 64 && nat_lt 0 (slice_index t.steps k)) (Some (slice_index t.steps k)) None

-- the home of a knob, 0 where it is undefined
abbrev pub home_of : KnobTable → ℕ → ℕ
home_of t k = cond (nat_lt k 64) (slice_index t.homes k) 0

-- the home of a knob, none where it is undefined
abbrev pub homes_of : KnobTable → ℕ → Option ℕ
homes_of t k = cond (is_some (steps_of t k)) (Some (home_of t k)) None

-- Tables of pistons: their scopes, and what was captured on them. Assumes nothing.
use Rattle.std.specs.Prelude.{ℕ, Bool, false, cond, ◌&&◌, List, Some, None, Option, nat_le, nat_lt}
use Rattle.std.specs.Option.{option_map, option_and_then}
use Rattle.fittings.specs.declared.Scope.{Scope}
use Rattle.fittings.specs.Tables.{place_at}
use Rattle.console.specs.declared.piston_table.Piston.{Piston}
use Rattle.console.specs.declared.piston_table.PistonTable.{PistonTable}

abbrev pub piston_at : PistonTable → ℕ → Option Piston
piston_at t q = cond (nat_lt q 40) (place_at t.pistons q) None

-- the knobs that a piston takes, none where it is undefined
abbrev pub scope_of : PistonTable → ℕ → Option Scope
scope_of t q = option_map (λ piston. piston.scope) (piston_at t q)

-- the positions that were captured, none where it never was
abbrev pub frame_of : PistonTable → ℕ → Option (List ℕ)
frame_of t q = option_and_then (λ piston. piston.frame) (piston_at t q)

-- whether a knob lies in a scope
abbrev pub in_scope : Option Scope → ℕ → Bool
in_scope None k = false
in_scope (Some s) k = nat_le s.lowest k && nat_le k s.highest

-- a lowest knob no higher than the highest, and both below 64
abbrev pub sound_scope : ℕ → ℕ → Bool
sound_scope lowest highest = nat_le lowest highest && nat_lt highest 64

-- The keys of a console: which are down, which are sustained, and which divisions' sustain is on. Assumes nothing.
use Rattle.std.specs.Prelude.{ℕ, Bool, true, false, cond, ◌||◌, ◌==◌}
use Rattle.chest.specs.Places.{Places, none, put}

pub record Keys : Type 0 where
  pub down : Places
  pub sustained : Places
  pub sustain : ℕ → Bool

abbrev pub no_keys : Keys
no_keys = record { down = none; sustained = none; sustain = λ d. false }

-- a key sounds while it is down or sustained
abbrev pub sounding : Keys → Places
sounding s d k = s.down d k || s.sustained d k

-- the sustain of one division on or off
abbrev pub switch : (ℕ → Bool) → ℕ → Bool → ℕ → Bool
switch f division on d = cond (d == division) on (f d)

-- without the keys of one division
abbrev pub without : Places → ℕ → Places
without s division d k = cond (d == division) false (s d k)

-- with those of another set in one division
abbrev pub with_row : Places → Places → ℕ → Places
with_row s t division d k = cond (d == division) (s d k || t d k) (s d k)

-- press: the key is down, and sustained too if its division's sustain is on
abbrev pub pressed : Keys → ℕ → ℕ → Keys
pressed s d k =
    record { down = put s.down d k true; sustained = cond (s.sustain d) (put s.sustained d k true) s.sustained; sustain = s.sustain }

-- lift: the key is down no more
abbrev pub lifted : Keys → ℕ → ℕ → Keys
lifted s d k = record { down = put s.down d k false; sustained = s.sustained; sustain = s.sustain }

-- sustain on: where it was off, the division's keys that are down are sustained; where it was on, nothing changes
abbrev pub sustain_begun : Keys → ℕ → Keys
sustain_begun s d =
    cond (s.sustain d) s (record { down = s.down; sustained = with_row s.sustained s.down d; sustain = switch s.sustain d true })

-- sustain off: none of the division's keys is sustained
abbrev pub sustain_ended : Keys → ℕ → Keys
sustain_ended s d =
    record { down = s.down; sustained = without s.sustained d; sustain = switch s.sustain d false }

-- clear: the division's sustain is off, and none of its keys is down or sustained
abbrev pub cleared : Keys → ℕ → Keys
cleared s d =
    record { down = without s.down d; sustained = without s.sustained d; sustain = switch s.sustain d false }

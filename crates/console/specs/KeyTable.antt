-- A key table as the keys that it keeps. Assumes nothing.
use Rattle.std.specs.Prelude.{ℕ, Bool, false, is_some, List, [], Some, None, Option, slice_index_or}
use Rattle.console.specs.declared.key_table.Division.{Division}
use Rattle.console.specs.declared.key_table.KeyTable.{KeyTable}
use Rattle.console.specs.Keys.{Keys}

-- a division past the last has no keys
abbrev pub division_at : KeyTable → ℕ → Division
division_at t d = slice_index_or t.divisions d (record { down = []; sustained = None })

abbrev pub key_at : List Bool → ℕ → Bool
key_at keys k = slice_index_or keys k false

-- whether a sustain holds a key: while it is off it holds none
abbrev pub held_at : Option (List Bool) → ℕ → Bool
held_at None k = false
held_at (Some held) k = key_at held k

abbrev pub keys_of : KeyTable → Keys
keys_of t =
    record { down = λ d k. key_at (division_at t d).down k; sustained = λ d k. held_at (division_at t d).sustained k; sustain = λ d. is_some (division_at t d).sustained }

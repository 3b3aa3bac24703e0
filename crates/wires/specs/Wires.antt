-- Where wires lead, the image of a register, and the number of ways to a place below. Assumes nothing.
use Rattle.std.specs.Prelude.{ℕ, ◌+◌, ◌-◌, Bool, true, false, cond, ◌&&◌, ◌||◌, List, [], ◌∷◌, Some, None, sum_by, Option, ◌==◌, nat_le, nat_lt}
use Rattle.std.specs.Option.{option_map}
use Rattle.chest.specs.Places.{Places, total}
use Rattle.chest.specs.Meaning.{Panel}
use Rattle.chest.specs.declared.place.Place.{Place}
use Rattle.coupling.specs.Some.{some}
use Rattle.coupling.specs.Layout.{Reaches}
use Rattle.wires.specs.declared.lead.Lead.{Lead}
use Rattle.wires.specs.declared.lead.Wait.{Wait}

-- a wire is live while its knob stands at its position, and always where it has no knob
abbrev pub stands : Panel → Option Wait → Bool
stands panel None = true
stands panel (Some s) = panel s.knob == s.position

abbrev pub live : Panel → Lead → Bool
live panel w = stands panel w.setting

-- the place that a key leads to: key + shift, if the row below has that place
unfoldable pub landing : ℕ → ℕ → ℕ → Option ℕ
landing raise reach key =
    cond (nat_le 96 (key + raise) && nat_lt (key + raise - 96) reach) (Some (key + raise - 96)) None

abbrev pub is_at : Option ℕ → ℕ → Bool
is_at None q = false
is_at (Some x) q = q == x

-- whether a wire leads to place q of row b from a key, which lies from the lowest to the highest
abbrev pub leads : Reaches → Lead → ℕ → ℕ → ℕ → Bool
leads reach w b q key =
    (nat_le w.lowest key && nat_le key w.highest) && (b == w.to && is_at (landing w.raise (reach w.to) key) q)

-- a way to place q of row b: a set key from which the wire leads there
abbrev pub way : Reaches → Places → Lead → ℕ → ℕ → ℕ → Bool
way reach s w b q key = s w.from key && leads reach w b q key

-- whether some wire passes
unfoldable pub some_wire : (Lead → Bool) → List Lead → Bool
some_wire f [] = false
some_wire f (w ∷ ws) = f w || some_wire f ws

-- the image of a register: place q of row b is in it if some live wire has a way there
unfoldable pub image : Reaches → List Lead → Panel → Places → Places
image reach ws panel s b q =
    some_wire (λ w. live panel w && some (w.highest + 1) (way reach s w b q)) ws

-- how many ways one wire has there, whether live or not, and how many all live wires have
unfoldable pub span : Reaches → Places → ℕ → ℕ → Lead → ℕ
span reach s b q w = total (w.highest + 1) (λ key. cond (way reach s w b q key) 1 0)

abbrev pub through : Reaches → Panel → Places → ℕ → ℕ → Lead → ℕ
through reach panel s b q w = cond (live panel w) (span reach s b q w) 0

abbrev pub ways_to : Reaches → List Lead → Panel → Places → ℕ → ℕ → ℕ
ways_to reach ws panel s b q = sum_by (through reach panel s b q) ws

-- the place below to which a wire leads from a key of a row, by row and place, if it is live and leads from there
abbrev pub outlet : Reaches → Panel → Lead → ℕ → ℕ → Option (ℕ × ℕ)
outlet reach panel w row key =
    cond (live panel w && (row == w.from && (nat_le w.lowest key && nat_le key w.highest))) (option_map (λ q. (w.to, q)) (landing w.raise (reach w.to) key)) None

-- a place by its row and number
abbrev pub spot : Place → ℕ × ℕ
spot at = (at.row, at.place)

-- whether that is place q of row b
abbrev pub meets : Option (ℕ × ℕ) → ℕ → ℕ → Bool
meets None b q = false
meets (Some t) b q = b == t.0 && q == t.1

-- Fitting a wire: its checks in their order, and the wire as it is kept. Assumes nothing.
use Rattle.std.specs.Prelude.{ℕ, ◌+◌, ◌-◌, Bool, cond, ◌&&◌, List, [], ◌∷◌, length, ℤ, pos, negsuc, Some, None, Ok, Err, Option, Result, ◌==◌, nat_le, nat_lt}
use Rattle.chest.specs.declared.fault.ChestFault.TheVariants.{Row}
use Rattle.chest.specs.Meaning.{Meaning}
use Rattle.fittings.specs.declared.Wire.{Wire}
use Rattle.wires.specs.declared.lead.Lead.{Lead}
use Rattle.wires.specs.declared.lead.Wait.{Wait}
use Rattle.wires.specs.declared.fault.BoardFault.{BoardFault}
use Rattle.wires.specs.declared.fault.RowRefused.{RowRefused}
use Rattle.wires.specs.declared.fault.BoardFault.TheVariants.{Held, Full, Keys, ToRow, NoPlaces, Shift, Knob, Position}
use Rattle.coupling.specs.Some.{is_free}
use Rattle.coupling.specs.Layout.{Reaches}
use Rattle.wires.specs.Wired.{Wired}

-- the first check that does not pass gives its fault
abbrev pub checked : {X : Type 0} → List (Bool × BoardFault) → X → Result X BoardFault
checked [] x = Ok x
checked (c ∷ cs) x = cond c.0 (checked cs x) (Err c.1)

-- whether a shift is from -96 to 96, and the shift raised by 96
abbrev pub in_range : ℤ → Bool
in_range (pos n) = nat_le n 96
in_range (negsuc n) = nat_lt n 96

abbrev pub raised : ℤ → ℕ
raised (pos n) = n + 96
raised (negsuc n) = 95 - n

-- what is checked of the wire itself, by the board's own reaches and those below: 17, 11, 18, 19, 13, 14
abbrev pub wire_checks : Reaches → Reaches → Wire → List (Bool × BoardFault)
wire_checks reach below w =
    (nat_lt w.from 16 && (nat_le w.lowest w.highest && nat_lt w.highest (reach w.from)), Keys w.from w.to)
    ∷ (nat_lt w.to 16, ToRow (record { from = w.from; to = w.to; fault = Row w.to }))
    ∷ (nat_lt 0 (below w.to), NoPlaces w.from w.to)
    ∷ (in_range w.shift, Shift w.from w.to)
    ∷ (nat_lt w.knob 65, Knob w.knob)
    ∷ (nat_lt w.position 16, Position w.knob)
    ∷ []

-- and before that of the board: 15, 16
abbrev pub fit_answer : Wired → Meaning → Wire → Result Unit BoardFault
fit_answer l m w =
    checked ((is_free l.register, Held) ∷ (nat_lt (length l.wires) 128, Full) ∷ wire_checks l.reach m.reach w) tt

-- knob 64 means that the wire is always live
abbrev pub setting_of : Wire → Option Wait
setting_of w = cond (w.knob == 64) None (Some (record { knob = w.knob; position = w.position }))

-- the wire as it is kept
abbrev pub lead_of : Wire → Lead
lead_of w =
    record { from = w.from; lowest = w.lowest; highest = w.highest; to = w.to; raise = raised w.shift; setting = setting_of w }

-- the reach that the chest below answers for the to-row, or its fault with both rows
abbrev pub to_reach : Reaches → Wire → Result ℕ RowRefused
to_reach below w =
    cond (nat_lt w.to 16) (Ok (below w.to)) (Err (record { from = w.from; to = w.to; fault = Row w.to }))

-- A small organ: one division of 61 keys over one rank of 73 pipes, a unison coupler and three stops. Assumes nothing.
use Rattle.std.specs.Prelude.{ℕ, cond, List, [], ◌∷◌, ℤ, pos, Some, None, ◌==◌, nat_lt}
use Rattle.chest.specs.Meaning.{Meaning}
use Rattle.book.specs.declared.board.Board.{Board}
use Rattle.book.specs.declared.board.Board.TheVariants.{Coupler, Stop}
use Rattle.book.specs.declared.book.BookWire.{BookWire}
use Rattle.fittings.specs.declared.Wire.{Wire}
use Rattle.wires.specs.declared.lead.Lead.{Lead}
use Rattle.coupling.specs.Layout.{Reaches}
use Rattle.wires.specs.Fitting.{lead_of}
use Rattle.console.specs.Model.{Setup}
use Rattle.organ.specs.Assembly.{Hung, stack_meaning}
use Rattle.organ.specs.Opening.{new_ranks}

-- the keys of each division, and the pipes of each rank
abbrev pub keys : Reaches
keys d = cond (d == 0) 61 0

abbrev pub ranks : Reaches
ranks r = cond (r == 0) 73 0

-- a wire from all keys of division 0 to row 0 that is always live
abbrev pub shifted_by : ℤ → Wire
shifted_by shift = record { from = 0; lowest = 0; highest = 60; to = 0; shift = shift; knob = 64; position = 0 }

-- a wire as a book writes it: from all keys of division 0 to row 0, while the knob stands at position 1
abbrev pub written : ℕ → Board → ℤ → ℕ → BookWire
written line board shift knob =
    record { line = line; board = board; wire = record { from = 0; lowest = 0; highest = 60; to = 0; shift = shift; knob = knob; position = 1 } }

-- each key leads to itself, always
abbrev pub unison : BookWire
unison = written 1 Coupler (pos 0) 64

-- the stops: knob 0 draws the rank at its pitch, knob 1 an octave above, and knob 2 at its pitch once more
abbrev pub diapason : BookWire
diapason = written 2 Stop (pos 0) 0

abbrev pub octave : BookWire
octave = written 3 Stop (pos 12) 1

abbrev pub flute : BookWire
flute = written 4 Stop (pos 0) 2

abbrev pub wires : List BookWire
wires = unison ∷ diapason ∷ octave ∷ flute ∷ []

-- the wire as its board keeps it
abbrev pub kept : BookWire → Lead
kept w = lead_of w.wire

-- the wires on their boards
abbrev pub hung : Hung
hung = record { couplers = kept unison ∷ []; stops = kept diapason ∷ kept octave ∷ kept flute ∷ [] }

-- what the stack means over new ranks
abbrev pub stack : Meaning
stack = stack_meaning keys (new_ranks ranks) hung

-- what its console is given: three knobs of two steps, and piston 0 for all of them
abbrev pub setup : Setup
setup =
    record { reach = keys; steps = λ k. cond (nat_lt k 3) (Some 2) None; home = λ k. 0; scope = λ q. cond (q == 0) (Some (record { lowest = 0; highest = 2 })) None }

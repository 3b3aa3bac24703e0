-- A console that stands as the model does, and what each of its calls promises by that. Assumes nothing.
use Rattle.std.specs.Prelude.{◌≡◌, ℕ, ◌<◌, true, Some, Option, slice_index}
use Rattle.std.specs.Option.{option_map}
use Rattle.chest.specs.Meaning.{Meaning}
use Rattle.console.specs.declared.call.Call.{Call}
use Rattle.console.specs.declared.console.Console.{Console}
use Rattle.console.specs.declared.knob_table.KnobTable.{KnobTable}
use Rattle.console.specs.declared.piston_table.PistonTable.{PistonTable}
use Rattle.console.specs.Keys.{sounding}
use Rattle.console.specs.KeyTable.{keys_of}
use Rattle.console.specs.KnobTable.{steps_of, home_of}
use Rattle.console.specs.PistonTable.{scope_of, frame_of}
use Rattle.console.specs.Model.{Setup, Model, Memory, first, memory, after}
use Rattle.console.specs.Record.{Answer, EntryLaw, Making, pipes_of}

-- what a console is made from: the reaches of its chest, its knobs and its pistons
abbrev pub setup_of : (ℕ → ℕ) → KnobTable → PistonTable → Setup
setup_of reach knobs pistons =
    record { reach = reach; steps = steps_of knobs; home = home_of knobs; scope = scope_of pistons }

-- what a piston of the table stores
abbrev pub stored_of : Setup → PistonTable → ℕ → Option Memory
stored_of s t q = option_map (λ frame. memory s (λ k. slice_index frame k) q) (frame_of t q)

-- what holds of the model from the making on: only a sustain that is on holds keys, and only positions are stored
pub record Sane (p : Model) : Type 0 where
  pub held : (d k : ℕ) → p.keys.sustained d k ≡ true → p.keys.sustain d ≡ true
  pub stored : (q k n : ℕ) (m : Memory) → p.stored q ≡ Some m → m k ≡ Some n → n < 16

-- register, panel and pipes stand as the model has them
pub record Agrees (m : Meaning) (p : Model) : Type 0 where
  pub register : m.register ≡ sounding p.keys
  pub panel : m.panel ≡ p.panel
  pub speaks : m.speaking ≡ pipes_of m p

module _ {C : Type 0} (meaning : C → Meaning) (settled : C → Type 0) where
  pub record Tracks (c : Console C) (s : Setup) (p : Model) : Type 0 where
    pub steady : settled c.chest
    pub setup : setup_of (meaning c.chest).reach c.knobs c.pistons ≡ s
    pub keys : keys_of c.keys ≡ p.keys
    pub stored : stored_of s c.pistons ≡ p.stored
    pub agrees : Agrees (meaning c.chest) p
    pub sane : Sane p

  -- a call goes on as the model does, and the law holds at its entry
  abbrev pub Follows : Console C → Call → Answer → Console C → Type 0
  Follows c call answer d =
      (s : Setup) (p : Model) → Tracks c s p
      → Tracks d s (after s p call) × EntryLaw s (meaning c.chest) p (record { call = call; answer = answer; chest = meaning d.chest })

  -- a making on a settled chest leaves the console as the first model, and is an entry itself
  abbrev pub Makes : C → KnobTable → PistonTable → Console C → Type 0
  Makes chest knobs pistons c =
      settled chest
      → Making (setup_of (meaning chest).reach knobs pistons) (meaning chest) (meaning c.chest)
      × Tracks c (setup_of (meaning chest).reach knobs pistons) (first (setup_of (meaning chest).reach knobs pistons))

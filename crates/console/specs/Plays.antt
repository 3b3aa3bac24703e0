-- The record law on a whole run of calls: on one call that makes a console and does them all, and on any chain of a
-- host's own calls. Assumes nothing.
use Rattle.std.specs.Prelude.{◌≡◌, ℕ, true, List, [], ◌∷◌, map, Ok, ◌≢◌}
use Rattle.chest.specs.Meaning.{Meaning}
use Rattle.console.specs.declared.call.Call.{Call}
use Rattle.console.specs.declared.console.Console.{Console}
use Rattle.console.specs.declared.knob_table.KnobTable.{KnobTable}
use Rattle.console.specs.declared.piston_table.PistonTable.{PistonTable}
use Rattle.console.specs.Model.{Setup, Model, first}
use Rattle.console.specs.Record.{Answer, Entry, RecordLaw, Making, last_meaning, last_model, strobing}
use Rattle.console.specs.Tracks.{Tracks, Follows, Makes, setup_of}

module _ {C : Type 0} (meaning : C → Meaning) (settled : C → Type 0) where
  -- a record of just these calls and answers, from one console and its model to another, with the law at every entry
  pub record Recorded (c : Console C) (s : Setup) (p : Model) (calls : List Call) (answers : List Answer) (d : Console C) : Type 0 where
    pub entries : List Entry
    pub calls_are : map (λ e. e.call) entries ≡ calls
    pub answers_are : map (λ e. e.answer) entries ≡ answers
    pub law : RecordLaw s (meaning c.chest) p entries
    pub ends : last_meaning (meaning c.chest) entries ≡ meaning d.chest
    pub tracks : Tracks meaning settled d s (last_model s p entries)

  -- a making, and a record of just these calls and answers from the first model on
  pub record Played (chest : C) (s : Setup) (calls : List Call) (answers : List Answer) (d : Console C) : Type 0 where
    pub made : Console C
    pub making : Making s (meaning chest) (meaning made.chest)
    pub recorded : Recorded made s (first s) calls answers d

  -- what playing a list of calls on a settled chest promises
  abbrev pub Plays : C → KnobTable → PistonTable → List Call → List Answer → Console C → Type 0
  Plays chest knobs pistons calls answers d =
      settled chest → Played chest (setup_of (meaning chest).reach knobs pistons) calls answers d

  -- a host's own calls, one by one: each with its answer and the console after it
  pub record Step : Type 0 where
    pub call : Call
    pub answer : Answer
    pub after : Console C

  abbrev pub entry_of : Step → Entry
  entry_of t = record { call = t.call; answer = t.answer; chest = meaning t.after.chest }

  -- steps that are linked by what each call promises
  abbrev pub Chain : Console C → List Step → Type 0
  Chain c [] = Unit {0}
  Chain c (t ∷ ts) = Follows meaning settled c t.call t.answer t.after × Chain t.after ts

  -- a making on a settled chest and any chain of calls from it: the law holds at every entry
  abbrev pub HostsLaw : Type 0
  HostsLaw =
      (chest : C) (knobs : KnobTable) (pistons : PistonTable) (c : Console C) (ts : List Step)
      → settled chest → Makes meaning settled chest knobs pistons c → Chain c ts
      → Making (setup_of (meaning chest).reach knobs pistons) (meaning chest) (meaning c.chest)
      × RecordLaw (setup_of (meaning chest).reach knobs pistons) (meaning c.chest) (first (setup_of (meaning chest).reach knobs pistons)) (map entry_of ts)

  -- no done call but a capture leaves the strobe number, so a console that never touches its chest breaks its promise
  abbrev pub Touches : Type 0
  Touches =
      (c d : Console C) (s : Setup) (p : Model) (call : Call) (n : ℕ)
      → Tracks meaning settled c s p → Follows meaning settled c call (Ok n) d → strobing call ≡ true
      → (meaning d.chest).strobes ≢ (meaning c.chest).strobes

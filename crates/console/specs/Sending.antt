-- What one sending is for a console over a sender: the chest sends, and the console stands as it stood. Assumes nothing.
use Rattle.std.specs.Prelude.{◌≡◌, ℕ, List}
use Rattle.chest.specs.Meaning.{Meaning}
use Rattle.console.specs.declared.call.Call.{Call}
use Rattle.console.specs.declared.console.Console.{Console}
use Rattle.console.specs.declared.knob_table.KnobTable.{KnobTable}
use Rattle.console.specs.declared.piston_table.PistonTable.{PistonTable}
use Rattle.console.specs.Model.{Setup, Model}
use Rattle.console.specs.Record.{Answer}
use Rattle.console.specs.Tracks.{Tracks, Follows, Makes}

-- the chest sends, and all else stays
pub record Sends {C : Type 0} (sends : C → List ℕ → ℕ → List ℕ → C → Type 0) (c : Console C) (before : List ℕ) (count : ℕ) (after : List ℕ) (d : Console C) : Type 0 where
  pub chest : sends c.chest before count after d.chest
  pub knobs : d.knobs ≡ c.knobs
  pub pistons : d.pistons ≡ c.pistons
  pub keys : d.keys ≡ c.keys

-- whatever model a console stood as, it stands as that
abbrev pub StillTracks : {C : Type 0} → (C → Meaning) → (C → Type 0) → Console C → Console C → Type 0
StillTracks meaning settled c d = (s : Setup) (p : Model) → Tracks meaning settled c s p → Tracks meaning settled d s p

-- whatever making or call led to the one console is as good as one that led to the other, so a sending breaks no chain
pub record Linked {C : Type 0} (meaning : C → Meaning) (settled : C → Type 0) (c d : Console C) : Type 0 where
  pub makes : (chest : C) (knobs : KnobTable) (pistons : PistonTable) → Makes meaning settled chest knobs pistons c → Makes meaning settled chest knobs pistons d
  pub follows : (b : Console C) (call : Call) (answer : Answer) → Follows meaning settled b call answer c → Follows meaning settled b call answer d

-- What a message comes to: a call with its answer and its line, or only a line, or nothing. Assumes nothing.
use Rattle.std.specs.Prelude.{◌≡◌, ◌≢◌, ℕ, ◌<◌, List, ◌++◌, length, Ok, Err, Result, Vec}
use Rattle.std.specs.List.{HoldsAt}
use Rattle.midi.specs.declared.message.Message.{Message}
use Rattle.chest.specs.Meaning.{Meaning}
use Rattle.console.specs.declared.console.Console.{Console}
use Rattle.console.specs.Record.{Answer}
use Rattle.console.specs.Tracks.{Follows}
use Rattle.organ.specs.declared.action.Action.{Action}
use Rattle.organ.specs.declared.action.Action.TheVariants.{Nothing, Perform, LowNote}
use Rattle.organ.specs.Action.{action_of, low_note}
use Rattle.organ.specs.declared.out_of_memory.OutOfMemory.{OutOfMemory}
use Rattle.organ.specs.declared.line.Line.{Line}
use Rattle.organ.specs.declared.line.Line.TheVariants.{Done, Fault}
use Rattle.organ.specs.Line.{line_bytes, LacksRoom}

-- the line of an answer
abbrev pub line_of : Answer → Line
line_of (Ok n) = Done n
line_of (Err e) = Fault e

-- the console before and after an action, and the listing before and after it
abbrev pub Responds : {C : Type 0} (meaning : C → Meaning) (settled : C → Type 0) → Action → Console C → Console C → List ℕ → List ℕ → Type 0
Responds meaning settled Nothing c d before after = (d ≡ c) × (after ≡ before)
Responds meaning settled (Perform call) c d before after =
    (answer : Answer) × Follows meaning settled c call answer d × (after ≡ before ++ line_bytes (line_of answer))
Responds meaning settled (LowNote division note) c d before after = (d ≡ c) × (after ≡ before ++ line_bytes (Fault (low_note division note)))

-- message n of a list asks for something, and a listing has no room for its line
abbrev pub LacksRoomAt : {X Z : Type 0} → List Message → ℕ → Vec X Z → Type 0
LacksRoomAt ms n listing = HoldsAt (λ m. action_of m ≢ Nothing) ms n × (n < length ms) × LacksRoom listing

-- how many messages were answered: all of them, or those before the one that found no memory
abbrev pub until : Result Unit OutOfMemory → ℕ → ℕ
until (Ok x) all = all
until (Err e) all = e.answered

-- The receiver's law: at one drain of a chest, and over any run. Assumes nothing.
use Rattle.std.proofs.Common.{◌≡◌, ℕ, ◌≤◌, List, ◌++◌, length, take, drop, sym, ap, ◌∙◌, subst, arith, length-take-le, take-append-drop}
use Rattle.std.proofs.lemmas.Bool.Decides.{nat_tests}
use Rattle.chest.specs.Places.{Places}
use Rattle.bottom.specs.declared.midi_chest.MidiChest.{MidiChest}
use Rattle.bottom.specs.Drain.{count_of_places}
use Rattle.bottom.specs.CatchUp.{UpTo}
use Rattle.bottom.specs.Foot.{foot_meaning}
use Rattle.bottom.specs.PipeTable.{shown}
use Rattle.bottom.specs.MidiChest.{midi_meaning, midi_sent, midi_drained}
use Rattle.bottom.specs.Receiver.{notes_after, DrainLaw}
use Rattle.bottom.specs.Run.{Run, makes, sets, turns, strobes, drains, ReceiverLaw}
use Rattle.bottom.specs.Notes.{NotesSent}
use Rattle.bottom.proofs.Receiver.{Inside, same_flags, drained-law}
use Rattle.bottom.proofs.Notes.{notes-sent}

shown-inside : (xs : List ℕ) → Inside (shown xs)
shown-inside xs r p out = grind (arith, nat_tests)

pub chest_law : (c : MidiChest) (room : ℕ) → DrainLaw (midi_meaning c).speaking (midi_sent c) (midi_drained c room).sent room (midi_drained c room).bytes
chest_law c room =
    drained-law (midi_sent c) (midi_meaning c).speaking room (shown-inside c.sent) (shown-inside c.foot.pipes.speaking)

-- the receiver of a run has what is sent
run_has : {c : MidiChest} {line : List ℕ} → Run c line → notes_after line ≡ midi_sent c
run_has (makes reaches m s) = sym s
run_has (sets row place on run m s) = run_has run ∙ sym s
run_has (turns knob position run m s) = run_has run ∙ sym s
run_has (strobes run m s) = run_has run ∙ sym s
run_has (drains {c = c} {line = line} room run m s) = (chest_law c room).has line (run_has run) ∙ sym s

pub run_law : (c : MidiChest) (line : List ℕ) → Run c line → ReceiverLaw c line
run_law c line run =
    record {
      has = run_has run;
      caught_up = λ none. run_has run ∙ (λ i r p. same_flags (midi_sent c r p) ((midi_meaning c).speaking r p) (none r p) i);
      next = λ room. subst (λ (x : Places × Places). DrainLaw (midi_meaning c).speaking x.0 x.1 room (midi_drained c room).bytes) (λ i. (sym (run_has run) i, sym ((chest_law c room).has line (run_has run)) i)) (chest_law c room);
    }

-- a drain of all places
module _ (c : MidiChest) (sent : Places) (buffer out : List ℕ) (written : ℕ) (done : UpTo count_of_places (midi_meaning c).speaking (midi_sent c) buffer sent (take written out) (drop written out)) where
  pub drain_law : DrainLaw (midi_meaning c).speaking (midi_sent c) sent (length buffer) (take written out)
  drain_law =
      subst (λ (x : Places × List ℕ). DrainLaw (midi_meaning c).speaking (midi_sent c) x.0 (length buffer) x.1) (λ i. (sym done.sent i, sym done.bytes i)) (chest_law c (length buffer))

  pub drain_runs : (d : MidiChest) → midi_sent d ≡ sent → d.foot ≡ c.foot → (line : List ℕ) → Run c line → Run d (line ++ take written out)
  drain_runs d told same line run =
      subst (λ l. Run d (line ++ l)) (sym done.bytes) (drains (length buffer) run (ap foot_meaning same) (told ∙ done.sent))

  pub drain_notes : written ≤ length out → NotesSent (midi_meaning c).speaking (midi_sent c) sent buffer out written
  drain_notes fits =
      notes-sent (midi_sent c) (midi_meaning c).speaking (shown-inside c.sent) (shown-inside c.foot.pipes.speaking) buffer sent out written done.sent count items
    where
      long : length (take written out) ≡ written
      long = length-take-le written out fits

      count : written ≡ length (midi_drained c (length buffer)).bytes
      count = sym long ∙ ap length done.bytes

      items : out ≡ (midi_drained c (length buffer)).bytes ++ drop written buffer
      items = sym (take-append-drop written out) ∙ (λ i. done.bytes i ++ (done.untouched ∙ ap (λ n. drop n buffer) long) i)

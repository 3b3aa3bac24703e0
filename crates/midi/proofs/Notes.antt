-- Bytes that read as just their own messages wherever they come on a line: note-on, note-off, and one after another.
use Rattle.std.proofs.Common.{◌≡◌, ℕ, ◌+◌, ◌<◌, ◌≤◌, List, [], ◌∷◌, ◌++◌, map, Some, None, Option, sym, ap, ◌∙◌, append_assoc, append-nil, arith}
use Rattle.std.specs.List.{flat_map, AllByRecursion}
use Rattle.std.specs.Option.{option_to_list}
use Rattle.std.proofs.lemmas.Bool.Decides.{nat_tests}
use Rattle.midi.specs.declared.message.Message.{Message}
use Rattle.midi.specs.declared.message.Message.TheVariants as message
use Rattle.midi.specs.declared.state.Long.{Long}
use Rattle.midi.specs.declared.state.Long.TheVariants as long
use Rattle.midi.specs.declared.state.State.{State}
use Rattle.midi.specs.declared.state.State.TheVariants.{Idle, TwoBytes, Half}
use Rattle.midi.specs.Reading.{reading, ReadsAs}
use Rattle.midi.specs.State.{long_message, running, data_step, step, handed, state_after}
use Rattle.midi.proofs.Lines.{reading-append}

pub step-status : (s : State) (b : ℕ) → 0x80 ≤ b → b < 0xf8 → step s b ≡ (None, running b)
step-status s b h k = grind (arith, nat_tests)

pub step-data : (s : State) (b : ℕ) → b < 0x80 → step s b ≡ data_step s b
step-data s b h = grind (arith, nat_tests)

pub next : (s : State) (b : ℕ) (bs : List ℕ) (p : Option Message × State) → step s b ≡ p → handed s (b ∷ bs) ≡ option_to_list p.0 ++ handed p.1 bs
next s b bs p e = ap (λ (q : Option Message × State). option_to_list q.0 ++ handed q.1 bs) e

-- from any state, a status byte and its two data bytes hand out their message
module _ (k : Long) (channel status first second : ℕ) (low : 0x80 ≤ status) (high : status < 0xf8) (f : first < 0x80) (g : second < 0x80) (kind : running status ≡ TwoBytes k channel) where
  long_handed : (s : State) → handed s (status ∷ first ∷ second ∷ []) ≡ long_message k channel first second ∷ []
  long_handed s =
      next s status (first ∷ second ∷ []) (None, TwoBytes k channel) (step-status s status low high ∙ ap (λ t. (None, t)) kind) ∙
      next (TwoBytes k channel) first (second ∷ []) (None, Half k channel first) (step-data (TwoBytes k channel) first f) ∙
      next (Half k channel first) second [] (Some (long_message k channel first second), TwoBytes k channel) (step-data (Half k channel first) second g)

  long_reads : ReadsAs (status ∷ first ∷ second ∷ []) (long_message k channel first second ∷ [])
  long_reads line =
      reading-append line (status ∷ first ∷ second ∷ []) ∙ ap (λ l. reading line ++ l) (long_handed (state_after Idle line))

module _ (channel key velocity : ℕ) (c : channel < 16) (k : key < 128) (v : velocity < 128) where
  pub note_on_reads : ReadsAs ((0x90 + channel) ∷ key ∷ velocity ∷ []) (message.NoteOn channel key velocity ∷ [])
  note_on_reads =
      long_reads long.NoteOn channel (0x90 + channel) key velocity (omega arith) (omega arith) k v (grind (arith, nat_tests))

  pub note_off_reads : ReadsAs ((0x80 + channel) ∷ key ∷ velocity ∷ []) (message.NoteOff channel key velocity ∷ [])
  note_off_reads =
      long_reads long.NoteOff channel (0x80 + channel) key velocity (omega arith) (omega arith) k v (grind (arith, nat_tests))

-- one after another
pub reads_none : ReadsAs [] []
reads_none line = ap reading (append-nil line) ∙ sym (append-nil (reading line))

pub reads_append : (bs cs : List ℕ) (ms ns : List Message) → ReadsAs bs ms → ReadsAs cs ns → ReadsAs (bs ++ cs) (ms ++ ns)
reads_append bs cs ms ns r q line =
    ap reading (sym (append_assoc line bs cs)) ∙ q (line ++ bs) ∙ ap (λ l. l ++ ns) (r line) ∙ append_assoc (reading line) ms ns

pub reads_joined : {X : Type 0} (bytes : X → List ℕ) (says : X → Message) (P : X → Type 0) → ((x : X) → P x → ReadsAs (bytes x) (says x ∷ [])) → (xs : List X) → AllByRecursion P xs → ReadsAs (flat_map bytes xs) (map says xs)
reads_joined bytes says P each [] h = reads_none
reads_joined bytes says P each (x ∷ xs) h =
    reads_append (bytes x) (flat_map bytes xs) (says x ∷ []) (map says xs) (each x h.0) (reads_joined bytes says P each xs h.1)

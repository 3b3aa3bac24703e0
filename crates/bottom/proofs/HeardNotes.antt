-- Which notes a receiver has, by the bytes that it has heard. Assumes nothing.
use Rattle.std.proofs.Common.{◌≡◌, ◌≢◌, ◌⊎◌, ℕ, ◌+◌, ◌*◌, Bool, true, false, ltb, List, [], ◌∷◌, ◌++◌, refl, ap, ◌∙◌, ⊎_elim, arith}
use Rattle.std.proofs.lemmas.Bool.Decides.{nat_tests}
use Rattle.chest.specs.Places.{Places, none, put}
use Rattle.midi.specs.declared.message.Message.{Message}
use Rattle.midi.specs.declared.message.Message.TheVariants.{NoteOn, NoteOff, KeyPressure, Controller, Program, ChannelPressure, Bend}
use Rattle.midi.specs.Reading.{reading, ReadsAs}
use Rattle.midi.proofs.Notes.{note_on_reads, note_off_reads}
use Rattle.midi.proofs.RunningStatus.{kinds_law}
use Rattle.bottom.specs.HeardNotes.{HeardNotes}
use Rattle.bottom.specs.Receiver.{hears, heard, notes_after}
use Rattle.bottom.proofs.Receiver.{heard-append}

-- the notes after bytes that are read as one message
after-one : (line bytes : List ℕ) (m : Message) → ReadsAs bytes (m ∷ []) → notes_after (line ++ bytes) ≡ hears (notes_after line) m
after-one line bytes m reads = ap (heard none) (reads line) ∙ heard-append none (reading line) (m ∷ [])

put-here : (s : Places) (r p : ℕ) (on : Bool) → put s r p on r p ≡ on
put-here s r p on = grind (arith, nat_tests)

put-else : (s : Places) (row place r p : ℕ) (on : Bool) → (r ≢ row) ⊎ (p ≢ place) → put s row place on r p ≡ s r p
put-else s row place r p on =
    ⊎_elim (λ (h : r ≢ row). let e : put s row place on r p ≡ s r p = grind (arith, nat_tests) in e) (λ (h : p ≢ place). let e : put s row place on r p ≡ s r p = grind (arith, nat_tests) in e)

pub heard_notes : HeardNotes
heard_notes =
    record {
      none = λ r p. refl;
      on = λ line c k v hc hk hv loud. at (after-one line ((0x90 + c) ∷ k ∷ v ∷ []) (NoteOn c k v) (note_on_reads c k v hc hk hv)) c k ∙ put-here (notes_after line) c k (ltb 0 v) ∙ (let e : ltb 0 v ≡ true = grind (arith, nat_tests) in e);
      silent = λ line c k hc hk. at (after-one line ((0x90 + c) ∷ k ∷ 0 ∷ []) (NoteOn c k 0) (note_on_reads c k 0 hc hk (omega arith))) c k ∙ put-here (notes_after line) c k false;
      off = λ line c k v hc hk hv. at (after-one line ((0x80 + c) ∷ k ∷ v ∷ []) (NoteOff c k v) (note_off_reads c k v hc hk hv)) c k ∙ put-here (notes_after line) c k false;
      key_pressure = λ c a b hc ha hb line. after-one line ((0xa0 + c) ∷ a ∷ b ∷ []) (KeyPressure c a b) (λ l. (kinds_law.key_pressure c hc).pairs l ((a, b) ∷ []) ((ha, hb), tt));
      controller = λ c a b hc ha hb line. after-one line ((0xb0 + c) ∷ a ∷ b ∷ []) (Controller c a b) (λ l. (kinds_law.controller c hc).pairs l ((a, b) ∷ []) ((ha, hb), tt));
      program = λ c a hc ha line. after-one line ((0xc0 + c) ∷ a ∷ []) (Program c a) (λ l. kinds_law.program c hc l (a ∷ []) (ha, tt));
      channel_pressure = λ c a hc ha line. after-one line ((0xd0 + c) ∷ a ∷ []) (ChannelPressure c a) (λ l. kinds_law.channel_pressure c hc l (a ∷ []) (ha, tt));
      bend = λ c a b hc ha hb line. after-one line ((0xe0 + c) ∷ a ∷ b ∷ []) (Bend c (a + 128 * b)) (λ l. (kinds_law.bend c hc).pairs l ((a, b) ∷ []) ((ha, hb), tt));
      others = λ line c k v r p hc hk hv apart. (
        at (after-one line ((0x90 + c) ∷ k ∷ v ∷ []) (NoteOn c k v) (note_on_reads c k v hc hk hv)) r p ∙ put-else (notes_after line) c k r p (ltb 0 v) apart,
        at (after-one line ((0x80 + c) ∷ k ∷ v ∷ []) (NoteOff c k v) (note_off_reads c k v hc hk hv)) r p ∙ put-else (notes_after line) c k r p false apart,
      );
    }
  where
    at : {s t : Places} → s ≡ t → (r p : ℕ) → s r p ≡ t r p
    at e r p = ap (λ (x : Places). x r p) e

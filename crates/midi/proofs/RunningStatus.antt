-- Data bytes after a status byte, message after message.
use Rattle.std.proofs.Common.{◌≡◌, ℕ, ◌+◌, ◌<◌, ◌≤◌, List, [], ◌∷◌, ◌++◌, map, Some, None, sym, refl, ap, ◌∙◌, append_assoc, append-nil, arith}
use Rattle.std.proofs.lemmas.Bool.Decides.{nat_tests}
use Rattle.midi.specs.declared.state.Short.{Short}
use Rattle.midi.specs.declared.state.Short.TheVariants as short
use Rattle.midi.specs.declared.state.Long.{Long}
use Rattle.midi.specs.declared.state.Long.TheVariants as long
use Rattle.midi.specs.declared.state.State.{State}
use Rattle.midi.specs.declared.state.State.TheVariants.{Idle, OneByte, TwoBytes, Half}
use Rattle.midi.specs.Reading.{reading}
use Rattle.midi.specs.State.{short_message, long_message, running, handed, state_after}
use Rattle.midi.specs.StatusBytes.{AllData}
use Rattle.midi.specs.RunningStatus.{DataPairs, in_a_row, TwoByTwo, OneByOne, KindsLaw}
use Rattle.midi.proofs.Lines.{reading-append}
use Rattle.midi.proofs.Notes.{step-status, step-data, next}
use Rattle.midi.proofs.StatusBytes.{status_law}

-- from the state of a kind each pair hands out its message, and the state is the same again
module _ (k : Long) (c : ℕ) where
  pairs_handed : (ps : List (ℕ × ℕ)) (bs : List ℕ) → DataPairs ps → handed (TwoBytes k c) (in_a_row ps ++ bs) ≡ map (λ p. long_message k c p.0 p.1) ps ++ handed (TwoBytes k c) bs
  pairs_handed [] bs h = refl
  pairs_handed (p ∷ ps) bs h =
      next (TwoBytes k c) p.0 (p.1 ∷ (in_a_row ps ++ bs)) (None, Half k c p.0) (step-data (TwoBytes k c) p.0 h.0.0) ∙
      next (Half k c p.0) p.1 (in_a_row ps ++ bs) (Some (long_message k c p.0 p.1), TwoBytes k c) (step-data (Half k c p.0) p.1 h.0.1) ∙
      ap (λ l. long_message k c p.0 p.1 ∷ l) (pairs_handed ps bs h.1)

-- the same of the kinds with one data byte
module _ (k : Short) (c : ℕ) where
  singles_handed : (ds : List ℕ) → AllData ds → handed (OneByte k c) ds ≡ map (short_message k c) ds
  singles_handed [] h = refl
  singles_handed (d ∷ ds) h =
      next (OneByte k c) d ds (Some (short_message k c d), OneByte k c) (step-data (OneByte k c) d h.0) ∙
      ap (λ l. short_message k c d ∷ l) (singles_handed ds h.1)

-- what follows a status byte is handed out from its state on
after_status : (line bs : List ℕ) (status : ℕ) (s : State) → 0x80 ≤ status → status < 0xf8 → running status ≡ s → reading (line ++ status ∷ bs) ≡ reading line ++ handed s bs
after_status line bs status s low high kind =
    reading-append line (status ∷ bs) ∙
    ap (λ l. reading line ++ l) (next (state_after Idle line) status bs (None, s) (step-status (state_after Idle line) status low high ∙ ap (λ t. (None, t)) kind))

module _ (k : Long) (c status : ℕ) (low : 0x80 ≤ status) (high : status < 0xf8) (kind : running status ≡ TwoBytes k c) where
  pairs_read : (line bs : List ℕ) (ps : List (ℕ × ℕ)) → DataPairs ps → handed (TwoBytes k c) bs ≡ [] → reading (line ++ status ∷ (in_a_row ps ++ bs)) ≡ reading line ++ map (λ p. long_message k c p.0 p.1) ps
  pairs_read line bs ps h none =
      after_status line (in_a_row ps ++ bs) status (TwoBytes k c) low high kind ∙
      ap (λ l. reading line ++ l) (pairs_handed k c ps bs h ∙ ap (λ l. map (λ p. long_message k c p.0 p.1) ps ++ l) none ∙ append-nil (map (λ p. long_message k c p.0 p.1) ps))

  over_read : (line : List ℕ) (ps : List (ℕ × ℕ)) (a : ℕ) → DataPairs ps → a < 0x80 → reading (line ++ status ∷ (in_a_row ps ++ a ∷ [])) ≡ reading line ++ map (λ p. long_message k c p.0 p.1) ps
  over_read line ps a h d =
      pairs_read line (a ∷ []) ps h (next (TwoBytes k c) a [] (None, Half k c a) (step-data (TwoBytes k c) a d))

  dropped_read : (line rest : List ℕ) (a s : ℕ) → a < 0x80 → 0x80 ≤ s → s ≤ 0xf7 → reading (line ++ status ∷ a ∷ s ∷ rest) ≡ reading (line ++ s ∷ rest)
  dropped_read line rest a s d from to =
      ap reading (sym (append_assoc line (status ∷ a ∷ []) (s ∷ rest))) ∙ status_law (line ++ status ∷ a ∷ []) rest s from to ∙
      ap (λ l. l ++ reading (s ∷ rest)) (over_read line [] a tt d ∙ append-nil (reading line)) ∙ sym (status_law line rest s from to)

  two_by_two : TwoByTwo reading status (long_message k c)
  two_by_two =
      record {
        pairs = λ line ps h. ap (λ l. reading (line ++ status ∷ l)) (sym (append-nil (in_a_row ps))) ∙ pairs_read line [] ps h refl;
        over = over_read;
        dropped = dropped_read;
      }

one_by_one : (k : Short) (c status : ℕ) → 0x80 ≤ status → status < 0xf8 → running status ≡ OneByte k c → OneByOne reading status (short_message k c)
one_by_one k c status low high kind line ds h =
    after_status line ds status (OneByte k c) low high kind ∙ ap (λ l. reading line ++ l) (singles_handed k c ds h)

-- the state of each kind's status byte
module _ (c : ℕ) (h : c < 16) where
  note_off_running : running (0x80 + c) ≡ TwoBytes long.NoteOff c
  note_off_running = grind (arith, nat_tests)

  note_on_running : running (0x90 + c) ≡ TwoBytes long.NoteOn c
  note_on_running = grind (arith, nat_tests)

  key_pressure_running : running (0xa0 + c) ≡ TwoBytes long.KeyPressure c
  key_pressure_running = grind (arith, nat_tests)

  controller_running : running (0xb0 + c) ≡ TwoBytes long.Controller c
  controller_running = grind (arith, nat_tests)

  program_running : running (0xc0 + c) ≡ OneByte short.Program c
  program_running = grind (arith, nat_tests)

  channel_pressure_running : running (0xd0 + c) ≡ OneByte short.ChannelPressure c
  channel_pressure_running = grind (arith, nat_tests)

  bend_running : running (0xe0 + c) ≡ TwoBytes long.Bend c
  bend_running = grind (arith, nat_tests)

pub kinds_law : KindsLaw reading
kinds_law =
    record {
      note_off = λ c h. two_by_two long.NoteOff c (0x80 + c) (omega arith) (omega arith) (note_off_running c h);
      note_on = λ c h. two_by_two long.NoteOn c (0x90 + c) (omega arith) (omega arith) (note_on_running c h);
      key_pressure = λ c h. two_by_two long.KeyPressure c (0xa0 + c) (omega arith) (omega arith) (key_pressure_running c h);
      controller = λ c h. two_by_two long.Controller c (0xb0 + c) (omega arith) (omega arith) (controller_running c h);
      program = λ c h. one_by_one short.Program c (0xc0 + c) (omega arith) (omega arith) (program_running c h);
      channel_pressure =
          λ c h. one_by_one short.ChannelPressure c (0xd0 + c) (omega arith) (omega arith) (channel_pressure_running c h);
      bend = λ c h. two_by_two long.Bend c (0xe0 + c) (omega arith) (omega arith) (bend_running c h);
    }

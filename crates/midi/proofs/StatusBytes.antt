-- What the bytes of a line do to its reading, by the reader's steps.
use Rattle.std.proofs.Common.{◌≡◌, ℕ, ◌≤◌, List, [], ◌∷◌, ◌++◌, None, sym, refl, ap, ◌∙◌, append-nil, arith}
use Rattle.std.proofs.lemmas.Bool.Decides.{nat_tests}
use Rattle.midi.specs.declared.state.State.{State}
use Rattle.midi.specs.declared.state.State.TheVariants.{Idle}
use Rattle.midi.specs.Reading.{reading}
use Rattle.midi.specs.State.{running, step, handed, state_after}
use Rattle.midi.specs.StatusBytes.{AllData, RealTimeLaw, StatusLaw, StrayLaw}
use Rattle.midi.proofs.Lines.{reading-append}
use Rattle.midi.proofs.Notes.{step-status, step-data, next}

-- a line's reading is what a new reader hands out
pub reading-handed : (bs : List ℕ) → reading bs ≡ handed Idle bs
reading-handed bs = reading-append [] bs

-- a real-time byte leaves the state as it is
step-real_time : (s : State) (b : ℕ) → 0xf8 ≤ b → step s b ≡ (None, s)
step-real_time s b h = grind (arith, nat_tests)

pub real_time_law : RealTimeLaw reading
real_time_law front back b low high =
    let s = state_after Idle front in
    reading-append front (b ∷ back) ∙ ap (λ l. reading front ++ l) (next s b back (None, s) (step-real_time s b low)) ∙ sym (reading-append front back)

-- what a status byte and the bytes after it hand out is the same from every state
afresh : (s t : State) (b : ℕ) (bs : List ℕ) → 0x80 ≤ b → b ≤ 0xf7 → handed s (b ∷ bs) ≡ handed t (b ∷ bs)
afresh s t b bs low high =
    next s b bs (None, running b) (step-status s b low (omega arith)) ∙ sym (next t b bs (None, running b) (step-status t b low (omega arith)))

pub status_law : StatusLaw reading
status_law line rest s low high =
    reading-append line (s ∷ rest) ∙
    ap (λ l. reading line ++ l) (afresh (state_after Idle line) Idle s rest low high ∙ sym (reading-handed (s ∷ rest)))

-- with no running status data bytes hand out nothing
idle_data : (ds bs : List ℕ) → AllData ds → handed Idle (ds ++ bs) ≡ handed Idle bs
idle_data [] bs h = refl
idle_data (d ∷ ds) bs h = next Idle d (ds ++ bs) (None, Idle) (step-data Idle d h.0) ∙ idle_data ds bs h.1

-- a system byte ends the running status
step-system : (s : State) (b : ℕ) → 0xf0 ≤ b → b ≤ 0xf7 → step s b ≡ (None, Idle)
step-system s b low high = grind (arith, nat_tests)

after_system : (s : State) (b : ℕ) (ds bs : List ℕ) → 0xf0 ≤ b → b ≤ 0xf7 → AllData ds → handed s (b ∷ (ds ++ bs)) ≡ handed Idle bs
after_system s b ds bs low high h = next s b (ds ++ bs) (None, Idle) (step-system s b low high) ∙ idle_data ds bs h

reading-after_system : (line ds bs : List ℕ) (b : ℕ) → 0xf0 ≤ b → b ≤ 0xf7 → AllData ds → reading (line ++ b ∷ (ds ++ bs)) ≡ reading line ++ reading bs
reading-after_system line ds bs b low high h =
    reading-append line (b ∷ (ds ++ bs)) ∙
    ap (λ l. reading line ++ l) (after_system (state_after Idle line) b ds bs low high h ∙ sym (reading-handed bs))

reading-data : (ds bs : List ℕ) → AllData ds → reading (ds ++ bs) ≡ reading bs
reading-data ds bs h = reading-handed (ds ++ bs) ∙ idle_data ds bs h ∙ sym (reading-handed bs)

pub stray_law : StrayLaw reading
stray_law =
    record {
      first = λ ds h. ap reading (sym (append-nil ds)) ∙ reading-data ds [] h;
      first_passed = λ ds rest s h low high. reading-data ds (s ∷ rest) h;
      system =
          λ line ds b low high h.
          ap (λ l. reading (line ++ b ∷ l)) (sym (append-nil ds)) ∙ reading-after_system line ds [] b low high h ∙ append-nil (reading line);
      system_passed = λ line ds rest b s low high h from to. reading-after_system line ds (s ∷ rest) b low high h;
    }

-- Two readings that keep the laws of a line are the same on every line of bytes.
use Rattle.std.proofs.Common.{◌≡◌, ℕ, ◌+◌, ◌-◌, ◌*◌, ◌<◌, ◌≤◌, ◌⊎◌, List, [], ◌∷◌, ◌++◌, map, sym, refl, ap, ◌∙◌, subst, inl, inr, ⊎_elim, append_assoc, append-nil, arith}
use Rattle.std.specs.List.{AllByRecursion}
use Rattle.std.proofs.lemmas.Bool.{cases_lt}
use Rattle.midi.specs.declared.message.Message.{Message}
use Rattle.midi.specs.declared.message.Message.TheVariants.{NoteOff, NoteOn, KeyPressure, Controller, Program, ChannelPressure, Bend}
use Rattle.midi.specs.Reading.{reading}
use Rattle.midi.specs.StatusBytes.{Reads, AllData}
use Rattle.midi.specs.RunningStatus.{DataPairs, in_a_row, TwoByTwo, OneByOne}
use Rattle.midi.specs.OneReading.{LineLaws, OneReadingLaw}
use Rattle.midi.proofs.StatusBytes.{real_time_law, status_law, stray_law}
use Rattle.midi.proofs.RunningStatus.{kinds_law}

-- data bytes two by two, and perhaps one over
record Paired (ds : List ℕ) : Type 0 where
  ps : List (ℕ × ℕ)
  inside : DataPairs ps
  whole : (ds ≡ in_a_row ps) ⊎ ((a : ℕ) × (a < 0x80) × (ds ≡ in_a_row ps ++ a ∷ []))

paired : (ds : List ℕ) → AllData ds → Paired ds
paired [] h = record { ps = []; inside = tt; whole = inl refl }
paired (a ∷ []) h = record { ps = []; inside = tt; whole = inr (a, h.0, refl) }
paired (a ∷ b ∷ ds) h =
    let p = paired ds h.1.1 in
    record {
      ps = (a, b) ∷ p.ps;
      inside = ((h.0, h.1.0), p.inside);
      whole =
          ⊎_elim
          (λ e. inl (ap (λ l. a ∷ (b ∷ l)) e))
          (λ w. inr (w.0, w.1, ap (λ l. a ∷ (b ∷ l)) w.2))
          p.whole;
    }

-- the channel of a status byte
channel : (s base : ℕ) → base ≤ s → s < base + 16 → (c : ℕ) × (c < 16) × (base + c ≡ s)
channel s base low high = (s - base, omega arith, omega arith)

module _ (r q : Reads) (f : LineLaws r) (g : LineLaws q) where
  -- data bytes alone
  same-data : (ds : List ℕ) → AllData ds → r ds ≡ q ds
  same-data ds h = f.stray.first ds h ∙ sym (g.stray.first ds h)

  -- two readings of which both have the same messages after the empty line
  after_nothing : (bs : List ℕ) (ms : List Message) → r bs ≡ r [] ++ ms → q bs ≡ q [] ++ ms → r bs ≡ q bs
  after_nothing bs ms d e = d ∙ ap (λ l. l ++ ms) (same-data [] tt) ∙ sym e

  same-two : (status : ℕ) (says : ℕ → ℕ → Message) → TwoByTwo r status says → TwoByTwo q status says → (ds : List ℕ) → AllData ds → r (status ∷ ds) ≡ q (status ∷ ds)
  same-two status says t u ds h =
      let p = paired ds h in
      ⊎_elim
      (λ e. subst (λ l. r (status ∷ l) ≡ q (status ∷ l)) (sym e) (after_nothing _ _ (t.pairs [] p.ps p.inside) (u.pairs [] p.ps p.inside)))
      (λ w. subst (λ l. r (status ∷ l) ≡ q (status ∷ l)) (sym w.2) (after_nothing _ _ (t.over [] p.ps w.0 p.inside w.1) (u.over [] p.ps w.0 p.inside w.1)))
      p.whole

  same-one : (status : ℕ) (says : ℕ → Message) → OneByOne r status says → OneByOne q status says → (ds : List ℕ) → AllData ds → r (status ∷ ds) ≡ q (status ∷ ds)
  same-one status says t u ds h = after_nothing (status ∷ ds) (map says ds) (t [] ds h) (u [] ds h)

  -- a status byte and its data bytes, kind by kind
  module _ (ds : List ℕ) (h : AllData ds) where
    same-two_at : (s base : ℕ) (says : ℕ → ℕ → ℕ → Message) → base ≤ s → s < base + 16 → ((c : ℕ) → c < 16 → TwoByTwo r (base + c) (says c)) → ((c : ℕ) → c < 16 → TwoByTwo q (base + c) (says c)) → r (s ∷ ds) ≡ q (s ∷ ds)
    same-two_at s base says low high t u =
        let w = channel s base low high in
        subst (λ x. r (x ∷ ds) ≡ q (x ∷ ds)) w.2 (same-two (base + w.0) (says w.0) (t w.0 w.1) (u w.0 w.1) ds h)

    same-one_at : (s base : ℕ) (says : ℕ → ℕ → Message) → base ≤ s → s < base + 16 → ((c : ℕ) → c < 16 → OneByOne r (base + c) (says c)) → ((c : ℕ) → c < 16 → OneByOne q (base + c) (says c)) → r (s ∷ ds) ≡ q (s ∷ ds)
    same-one_at s base says low high t u =
        let w = channel s base low high in
        subst (λ x. r (x ∷ ds) ≡ q (x ∷ ds)) w.2 (same-one (base + w.0) (says w.0) (t w.0 w.1) (u w.0 w.1) ds h)

    same-system : (s : ℕ) → 0xf0 ≤ s → s ≤ 0xf7 → r (s ∷ ds) ≡ q (s ∷ ds)
    same-system s low high = f.stray.system [] ds s low high h ∙ same-data [] tt ∙ sym (g.stray.system [] ds s low high h)

    same-piece : (s : ℕ) → 0x80 ≤ s → s ≤ 0xf7 → r (s ∷ ds) ≡ q (s ∷ ds)
    same-piece s low high =
        ⊎_elim (λ a. same-two_at s 0x80 NoteOff low (omega arith) f.kinds.note_off g.kinds.note_off)
        (λ b. ⊎_elim (λ a. same-two_at s 0x90 NoteOn b (omega arith) f.kinds.note_on g.kinds.note_on)
        (λ b. ⊎_elim (λ a. same-two_at s 0xa0 KeyPressure b (omega arith) f.kinds.key_pressure g.kinds.key_pressure)
        (λ b. ⊎_elim (λ a. same-two_at s 0xb0 Controller b (omega arith) f.kinds.controller g.kinds.controller)
        (λ b. ⊎_elim (λ a. same-one_at s 0xc0 Program b (omega arith) f.kinds.program g.kinds.program)
        (λ b. ⊎_elim (λ a. same-one_at s 0xd0 ChannelPressure b (omega arith) f.kinds.channel_pressure g.kinds.channel_pressure)
        (λ b. ⊎_elim (λ a. same-two_at s 0xe0 (λ c low high. Bend c (low + 128 * high)) b (omega arith) f.kinds.bend g.kinds.bend)
        (λ b. same-system s b high)
        (cases_lt s 0xf0)) (cases_lt s 0xe0)) (cases_lt s 0xd0)) (cases_lt s 0xc0)) (cases_lt s 0xb0)) (cases_lt s 0xa0)) (cases_lt s 0x90)

  -- the front of a line, after which any data bytes are read the same
  abbrev Alike : List ℕ → Type 0
  Alike front = (ds : List ℕ) → AllData ds → r (front ++ ds) ≡ q (front ++ ds)

  alike-more : (front : List ℕ) (b : ℕ) → b < 0x80 → Alike front → Alike (front ++ b ∷ [])
  alike-more front b d a ds h =
      ap r (append_assoc front (b ∷ []) ds) ∙ a (b ∷ ds) (d, h) ∙ sym (ap q (append_assoc front (b ∷ []) ds))

  same-from : (front line : List ℕ) → Alike front → AllByRecursion (λ b. b < 0x100) line → r (front ++ line) ≡ q (front ++ line)
  same-from front [] a h = a [] tt
  same-from front (b ∷ bs) a h =
      ⊎_elim
      (λ d. ap r (sym (append_assoc front (b ∷ []) bs)) ∙ same-from (front ++ b ∷ []) bs (alike-more front b d a) h.1 ∙ ap q (append_assoc front (b ∷ []) bs))
      (λ s.
      ⊎_elim
      (λ k.
      let alone : r front ≡ q front = ap r (sym (append-nil front)) ∙ a [] tt ∙ ap q (append-nil front) in
      let rest = same-from (b ∷ []) bs (λ ds e. same-piece ds e b s (omega arith)) h.1 in
      f.status front bs b s (omega arith) ∙ (λ i. alone i ++ rest i) ∙ sym (g.status front bs b s (omega arith)))
      (λ k. f.real_time front bs b k (omega (arith, h.0)) ∙ same-from front bs a h.1 ∙ sym (g.real_time front bs b k (omega (arith, h.0))))
      (cases_lt b 0xf8))
      (cases_lt b 0x80)

line_laws : LineLaws reading
line_laws = record { real_time = real_time_law; status = status_law; stray = stray_law; kinds = kinds_law }

pub one_reading_law : OneReadingLaw
one_reading_law reads laws line h = same-from reads reading laws line_laws [] line (same-data reads reading laws line_laws) h

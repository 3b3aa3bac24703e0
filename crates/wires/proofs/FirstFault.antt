-- A wire is refused by what is wrong with it first. Assumes nothing.
use Rattle.std.specs.Prelude.{◌≡◌, ℕ, ◌<◌, ◌≤◌, true, false, not, ◌&&◌, ◌⊎◌, ◌↔◌, length, drop, ℤ, pos, negsuc, neg_ℤ, ◌≤ℤ◌, ◌<ℤ◌, nat_lt, nat_le, Ok, Err, Result, IsOk, is_ok}
use Rattle.std.proofs.Common.{sym, refl, ap, ◌∙◌, subst, inl, inr, ⊎_elim, arith}
use Rattle.std.proofs.lemmas.Int.{ints, by_lt_z}
use Rattle.std.proofs.lemmas.Bool.{and_from, cond-true, cond-false, lt-ltb, le-leb, lt-leb, le-ltb, cases_lt, cases_Bool, false≢true}
use Rattle.std.proofs.lemmas.Bool.Decides.{nat_tests}
use Rattle.chest.specs.declared.fault.ChestFault.TheVariants.{Row}
use Rattle.chest.specs.Meaning.{Meaning}
use Rattle.fittings.specs.declared.Wire.{Wire}
use Rattle.coupling.specs.Layout.{Reaches}
use Rattle.coupling.specs.Some.{some, is_free}
use Rattle.coupling.proofs.Some.{some-found}
use Rattle.wires.specs.declared.lead.Lead.{Lead}
use Rattle.wires.specs.declared.fault.BoardFault.{BoardFault}
use Rattle.wires.specs.declared.fault.BoardFault.TheVariants.{Held, Full, Keys, ToRow, NoPlaces, Shift, Knob, Position}
use Rattle.wires.specs.Wired.{Wired}
use Rattle.wires.specs.Fitting.{checked, in_range, wire_checks, fit_answer}
use Rattle.wires.specs.FirstFault.{HasKeys, HasRow, HasPlaces, HasShift, HasKnob, HasPosition, WireFault, WireAnswered, KeySet, NoKeySet, HasRoom, FirstFault, FittingLaw}
use Rattle.wires.proofs.Shown.{some-tells}

-- a shift within 96 passes, and one beyond does not
pub within : (z : ℤ) → neg_ℤ (pos 96) ≤ℤ z → z ≤ℤ pos 96 → in_range z ≡ true
within (pos n) low high = le-leb n 96 (omega (arith, ints))
within (negsuc n) low high = lt-ltb n 96 (omega (arith, ints))

beyond : (z : ℤ) → (z <ℤ neg_ℤ (pos 96)) ⊎ (pos 96 <ℤ z) → in_range z ≡ false
beyond (pos n) out =
    ⊎_elim (λ (l : pos n <ℤ neg_ℤ (pos 96)). absurd (omega (arith, ints))) (λ (h : pos 96 <ℤ pos n). lt-leb n 96 (omega (arith, ints))) out
beyond (negsuc n) out =
    ⊎_elim (λ (l : negsuc n <ℤ neg_ℤ (pos 96)). le-ltb n 96 (omega (arith, ints))) (λ (h : pos 96 <ℤ negsuc n). absurd (omega (arith, ints))) out

abbrev fault_of : {X : Type 0} → BoardFault → Result X BoardFault → BoardFault
fault_of other (Ok x) = other
fault_of other (Err fault) = fault

-- one outcome of three, by what is wrong so far
then_if : {W P Q : Type 0} → W ⊎ P → (P → W ⊎ Q) → W ⊎ Q
then_if (inl wrong) next = inl wrong
then_if (inr passed) next = next passed

module _ (reach below : Reaches) (w : Wire) where
  keys-pass : HasKeys reach below w → (nat_lt w.from 16 && (nat_le w.lowest w.highest && nat_lt w.highest (reach w.from))) ≡ true
  keys-pass h =
      and_from _ _ (lt-ltb w.from 16 h.0) (and_from _ _ (le-leb w.lowest w.highest h.1) (lt-ltb w.highest (reach w.from) h.2))

  keys-fail : (16 ≤ w.from) ⊎ (w.highest < w.lowest) ⊎ (reach w.from ≤ w.highest) → (nat_lt w.from 16 && (nat_le w.lowest w.highest && nat_lt w.highest (reach w.from))) ≡ false
  keys-fail h = grind (arith, nat_tests)

  -- something is wrong with a wire, or nothing is
  abbrev Wrong : Type 0
  Wrong = (fault : BoardFault) × WireFault reach below w fault

  verdict : Wrong ⊎ HasPosition reach below w
  verdict = then_if (then_if (then_if (then_if (then_if keys row) places) shift) knob) position where
    keys : Wrong ⊎ HasKeys reach below w
    keys =
        ⊎_elim
        (λ (a : w.from < 16).
        ⊎_elim
        (λ (b : w.highest < w.lowest). inl (Keys w.from w.to, (inr (inl b), refl, refl)))
        (λ (b : w.lowest ≤ w.highest).
        ⊎_elim
        (λ (c : w.highest < reach w.from). inr (a, b, c))
        (λ (c : reach w.from ≤ w.highest). inl (Keys w.from w.to, (inr (inr c), refl, refl)))
        (cases_lt w.highest (reach w.from)))
        (cases_lt w.highest w.lowest))
        (λ (a : 16 ≤ w.from). inl (Keys w.from w.to, (inl a, refl, refl)))
        (cases_lt w.from 16)

    row : HasKeys reach below w → Wrong ⊎ HasRow reach below w
    row h =
        ⊎_elim
        (λ (a : w.to < 16). inr (h, a))
        (λ (a : 16 ≤ w.to). inl (ToRow (record { from = w.from; to = w.to; fault = Row w.to }), (h, a, refl, refl, refl)))
        (cases_lt w.to 16)

    places : HasRow reach below w → Wrong ⊎ HasPlaces reach below w
    places h =
        ⊎_elim
        (λ (a : 0 < below w.to). inr (h, a))
        (λ (a : below w.to ≤ 0). inl (NoPlaces w.from w.to, (h, omega arith, refl, refl)))
        (cases_lt 0 (below w.to))

    shift : HasPlaces reach below w → Wrong ⊎ HasShift reach below w
    shift h =
        by_lt_z w.shift (neg_ℤ (pos 96)) (λ a. inl (Shift w.from w.to, (h, inl a, refl, refl))) (λ a.
        by_lt_z (pos 96) w.shift (λ b. inl (Shift w.from w.to, (h, inr b, refl, refl))) (λ b. inr (h, a, b)))

    knob : HasShift reach below w → Wrong ⊎ HasKnob reach below w
    knob h =
        ⊎_elim
        (λ (a : w.knob < 65). inr (h, omega arith))
        (λ (a : 65 ≤ w.knob). inl (Knob w.knob, (h, a, refl)))
        (cases_lt w.knob 65)

    position : HasKnob reach below w → Wrong ⊎ HasPosition reach below w
    position h =
        ⊎_elim
        (λ (a : w.position < 16). inr (h, omega arith))
        (λ (a : 16 ≤ w.position). inl (Position w.knob, (h, a, refl)))
        (cases_lt w.position 16)

  module _ {X : Type 0} (x : X) where
    abbrev answer : Result X BoardFault
    answer = checked (wire_checks reach below w) x

    -- the checks that are left once the first ones have passed
    abbrev left : ℕ → Result X BoardFault
    left n = checked (drop n (wire_checks reach below w)) x

    after-keys : HasKeys reach below w → answer ≡ left 1
    after-keys h = cond-true _ _ _ (keys-pass h)

    after-row : HasRow reach below w → answer ≡ left 2
    after-row h = after-keys h.0 ∙ cond-true _ _ _ (lt-ltb w.to 16 h.1)

    after-places : HasPlaces reach below w → answer ≡ left 3
    after-places h = after-row h.0 ∙ cond-true _ _ _ (lt-ltb 0 (below w.to) h.1)

    after-shift : HasShift reach below w → answer ≡ left 4
    after-shift h = after-places h.0 ∙ cond-true _ _ _ (within w.shift h.1 h.2)

    after-knob : HasKnob reach below w → answer ≡ left 5
    after-knob h = after-shift h.0 ∙ cond-true _ _ _ (lt-ltb w.knob 65 (omega (arith, h.1)))

    pub after-position : HasPosition reach below w → answer ≡ Ok x
    after-position h = after-knob h.0 ∙ cond-true _ _ _ (lt-ltb w.position 16 (omega (arith, h.1)))

    -- what is wrong first is answered
    refused-by : (fault : BoardFault) → WireFault reach below w fault → answer ≡ Err fault
    refused-by Held h = absurd h
    refused-by Full h = absurd h
    refused-by (Keys f t) h = cond-false _ _ _ (keys-fail h.0) ∙ (λ i. Err (Keys (sym h.1 i) (sym h.2 i)))
    refused-by (ToRow e) h =
        after-keys h.0 ∙ cond-false _ _ _ (le-ltb w.to 16 h.1)
        ∙ (λ i. Err (ToRow (record { from = sym h.2 i; to = sym h.3 i; fault = sym h.4 i })))
    refused-by (NoPlaces f t) h =
        after-row h.0 ∙ cond-false _ _ _ (le-ltb 0 (below w.to) (omega (arith, h.1)))
        ∙ (λ i. Err (NoPlaces (sym h.2 i) (sym h.3 i)))
    refused-by (Shift f t) h =
        after-places h.0 ∙ cond-false _ _ _ (beyond w.shift h.1)
        ∙ (λ i. Err (Shift (sym h.2 i) (sym h.3 i)))
    refused-by (Knob k) h =
        after-shift h.0 ∙ cond-false _ _ _ (le-ltb w.knob 65 h.1) ∙ (λ i. Err (Knob (sym h.2 i)))
    refused-by (Position k) h =
        after-knob h.0 ∙ cond-false _ _ _ (le-ltb w.position 16 h.1) ∙ (λ i. Err (Position (sym h.2 i)))

    pub wire-refused : (fault : BoardFault) → (answer ≡ Err fault) ↔ WireFault reach below w fault
    wire-refused fault = (
      λ (e : answer ≡ Err fault).
          ⊎_elim
          (λ (wrong : Wrong). subst (WireFault reach below w) (ap (fault_of fault) (sym (refused-by wrong.0 wrong.1) ∙ e)) wrong.1)
          (λ (good : HasPosition reach below w). absurd (false≢true (ap is_ok (sym e ∙ after-position good))))
          verdict,
      refused-by fault,
    )

    pub wire-taken : IsOk answer ↔ HasPosition reach below w
    wire-taken = (
      λ (e : IsOk answer).
          ⊎_elim
          (λ (wrong : Wrong). absurd (false≢true (ap is_ok (sym (refused-by wrong.0 wrong.1)) ∙ e)))
          (λ (good : HasPosition reach below w). good)
          verdict,
      λ good. ap is_ok (after-position good),
    )

-- so what is answered by the checks
pub wire-answered : (reach below : Reaches) (w : Wire) (lead : Lead) (r : Result Lead BoardFault) → r ≡ checked (wire_checks reach below w) lead → WireAnswered reach below w r
wire-answered reach below w lead r is =
    record {
      refused = λ fault. (λ e. (wire-refused reach below w lead fault).0 (sym is ∙ e), λ h. is ∙ (wire-refused reach below w lead fault).1 h);
      kept = (λ ok. (wire-taken reach below w lead).0 (ap is_ok (sym is) ∙ ok), λ good. ap is_ok is ∙ (wire-taken reach below w lead).1 good);
    }

module _ (l : Wired) (m : Meaning) (w : Wire) where
  -- a key is set exactly if the board is not free
  key-held : KeySet l m w → is_free l.register ≡ false
  key-held (r, p, row, place, set) = ap not (some-found 16 r (λ x. some 128 (l.register x)) row (some-found 128 p (l.register r) place set))

  keys : KeySet l m w ⊎ ((is_free l.register ≡ true) × NoKeySet l m w)
  keys =
      ⊎_elim
      (λ (some-row : some 16 (λ r. some 128 (l.register r)) ≡ true).
      let at = some-tells 16 (λ r. some 128 (l.register r)) some-row in
      let key = some-tells 128 (l.register at.0) at.2 in
      inl (at.0, key.0, at.1, key.1, key.2))
      (λ (none : some 16 (λ r. some 128 (l.register r)) ≡ false). inr (ap not none, λ r p row place. off none r p row place))
      (cases_Bool (some 16 (λ r. some 128 (l.register r))))
    where
      off : some 16 (λ r. some 128 (l.register r)) ≡ false → (r p : ℕ) → r < 16 → p < 128 → l.register r p ≡ false
      off none r p row place =
          ⊎_elim
          (λ (set : l.register r p ≡ true). absurd (false≢true (sym none ∙ some-found 16 r (λ x. some 128 (l.register x)) row (some-found 128 p (l.register r) place set))))
          (λ (stays : l.register r p ≡ false). stays)
          (cases_Bool (l.register r p))

  -- where no key is set the board is free
  key-free : NoKeySet l m w → is_free l.register ≡ true
  key-free none =
      ⊎_elim
      (λ (held : KeySet l m w). absurd (false≢true (sym (none held.0 held.1 held.2 held.3) ∙ held.4)))
      (λ (free : (is_free l.register ≡ true) × NoKeySet l m w). free.0)
      keys

  abbrev wire : Result Unit BoardFault
  wire = checked (wire_checks l.reach m.reach w) tt

  after-room : HasRoom l m w → fit_answer l m w ≡ wire
  after-room h = cond-true _ _ _ (key-free h.0) ∙ cond-true _ _ _ (lt-ltb (length l.wires) 128 h.1)

  answered : (fault : BoardFault) → FirstFault l m w fault → fit_answer l m w ≡ Err fault
  answered Held h = cond-false _ _ _ (key-held h)
  answered Full h = cond-true _ _ _ (key-free h.0) ∙ cond-false _ _ _ (le-ltb (length l.wires) 128 h.1)
  answered (Keys f t) h = after-room h.0 ∙ (wire-refused l.reach m.reach w tt (Keys f t)).1 h.1
  answered (ToRow e) h = after-room h.0 ∙ (wire-refused l.reach m.reach w tt (ToRow e)).1 h.1
  answered (NoPlaces f t) h = after-room h.0 ∙ (wire-refused l.reach m.reach w tt (NoPlaces f t)).1 h.1
  answered (Shift f t) h = after-room h.0 ∙ (wire-refused l.reach m.reach w tt (Shift f t)).1 h.1
  answered (Knob k) h = after-room h.0 ∙ (wire-refused l.reach m.reach w tt (Knob k)).1 h.1
  answered (Position k) h = after-room h.0 ∙ (wire-refused l.reach m.reach w tt (Position k)).1 h.1

  -- something is wrong first, or nothing is
  abbrev Bad : Type 0
  Bad = (fault : BoardFault) × FirstFault l m w fault

  abbrev Fits : Type 0
  Fits = HasRoom l m w × HasPosition l.reach m.reach w

  of-wire : HasRoom l m w → (fault : BoardFault) → WireFault l.reach m.reach w fault → FirstFault l m w fault
  of-wire room Held h = absurd h
  of-wire room Full h = absurd h
  of-wire room (Keys f t) h = (room, h)
  of-wire room (ToRow e) h = (room, h)
  of-wire room (NoPlaces f t) h = (room, h)
  of-wire room (Shift f t) h = (room, h)
  of-wire room (Knob k) h = (room, h)
  of-wire room (Position k) h = (room, h)

  judged : Bad ⊎ Fits
  judged = then_if (then_if free room) fits where
    free : Bad ⊎ NoKeySet l m w
    free =
        ⊎_elim (λ (held : KeySet l m w). inl (Held, held)) (λ (no : (is_free l.register ≡ true) × NoKeySet l m w). inr no.1) keys

    room : NoKeySet l m w → Bad ⊎ HasRoom l m w
    room h =
        ⊎_elim
        (λ (a : length l.wires < 128). inr (h, a))
        (λ (a : 128 ≤ length l.wires). inl (Full, (h, a)))
        (cases_lt (length l.wires) 128)

    fits : HasRoom l m w → Bad ⊎ Fits
    fits h =
        ⊎_elim
        (λ (wrong : Wrong l.reach m.reach w). inl (wrong.0, of-wire h wrong.0 wrong.1))
        (λ (good : HasPosition l.reach m.reach w). inr (h, good))
        (verdict l.reach m.reach w)

  passes : Fits → fit_answer l m w ≡ Ok tt
  passes h = after-room h.0 ∙ after-position l.reach m.reach w tt h.1

  first-refused : (fault : BoardFault) → (fit_answer l m w ≡ Err fault) ↔ FirstFault l m w fault
  first-refused fault = (
    λ (e : fit_answer l m w ≡ Err fault).
        ⊎_elim
        (λ (bad : Bad). subst (FirstFault l m w) (ap (fault_of fault) (sym (answered bad.0 bad.1) ∙ e)) bad.1)
        (λ (good : Fits). absurd (false≢true (ap is_ok (sym e ∙ passes good))))
        judged,
    answered fault,
  )

  first-taken : (fit_answer l m w ≡ Ok tt) ↔ (HasRoom l m w × HasPosition l.reach m.reach w)
  first-taken = (
    λ (e : fit_answer l m w ≡ Ok tt).
        ⊎_elim
        (λ (bad : Bad). absurd (false≢true (ap is_ok (sym (answered bad.0 bad.1) ∙ e))))
        (λ (good : Fits). good)
        judged,
    passes,
  )

pub fitting-law : FittingLaw
fitting-law =
    record {
      refused = first-refused;
      taken = first-taken;
      last = λ l lead. refl;
      reaches = λ l lead. (refl, refl);
      stands = λ l lead. (refl, refl);
    }

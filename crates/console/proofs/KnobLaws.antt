-- Where knobs stand and what pistons store, by the calls of a record alone. Assumes nothing.
use Rattle.std.proofs.Common.{◌≡◌, ℕ, Bool, true, false, cond, not, ◌&&◌, ◌||◌, eqb, List, [], ◌∷◌, ◌++◌, is_ok, is_some, Some, None, Option, sym, refl, ap, ◌∙◌, subst, arith}
use Rattle.std.specs.Option.{unwrap_or}
use Rattle.std.proofs.lemmas.Bool.{eqb-true, and_parts}
use Rattle.std.proofs.lemmas.Bool.Decides.{nat_tests}
use Rattle.chest.specs.Meaning.{Meaning, Panel}
use Rattle.fittings.specs.declared.Scope.{Scope}
use Rattle.console.specs.declared.call.Call.{Call}
use Rattle.console.specs.declared.call.Call.TheVariants.{Press, Lift, Sustain, Clear, Turn, Capture, Recall, Cancel}
use Rattle.console.specs.Model.{Setup, Model, Memory, first, memory, recalled, takes, done, after}
use Rattle.console.specs.PistonTable.{in_scope}
use Rattle.console.specs.Record.{Entry, EntryLaw, RecordLaw, last_meaning, last_model}
use Rattle.console.specs.DoneCalls.{some, none, did, between, names, is_named, captures, is_capture}
use Rattle.console.specs.KeyLaw.{modelled}
use Rattle.console.specs.KnobLaw.{KnobLaw, KnobsByCalls, PistonsByCalls, LastToName, LastCapture, stands}
use Rattle.console.proofs.DoneCalls.{after_is, capture_is, law_front, law_rest, last_model-append}

-- the two ways to say that a knob is in a scope
between_is : (o : Option Scope) (k : ℕ) → in_scope o k ≡ between o k
between_is None k = refl
between_is (Some scope) k = refl

-- an entry that is none of some, and the entries after it
passed : (test : Entry → Bool) (e : Entry) (es : List Entry) → none test (e ∷ es) ≡ true → (test e ≡ false) × (none test es ≡ true)
passed test e es h = by (test e) (some test es) h where
  by : (a b : Bool) → not (a || b) ≡ true → (a ≡ false) × (not b ≡ true)
  by true b h = cc
  by false b h = (refl, h)

module _ (s : Setup) where
  -- a piston stores no position of a knob that it does not take
  abbrev Spares : Model → Type 0
  Spares p = (q k : ℕ) (m : Memory) → p.stored q ≡ Some m → takes s q k ≡ false → m k ≡ None

  -- what one call makes of what a piston stores
  stored_then : (p : Model) (q : ℕ) (v : Bool) (call : Call) → (v && is_capture q call) ≡ false → (cond v (done s p call) p).stored q ≡ p.stored q
  stored_then p q false call h = refl
  stored_then p q true (Press d k) h = refl
  stored_then p q true (Lift d k) h = refl
  stored_then p q true (Sustain d on) h = refl
  stored_then p q true (Clear d) h = refl
  stored_then p q true (Turn k n) h = refl
  stored_then p q true (Capture r) h = ap (λ b. cond b (Some (memory s p.panel r)) (p.stored q)) h
  stored_then p q true (Recall r) h = refl
  stored_then p q true Cancel h = refl

  spares_then : (p : Model) (v : Bool) (call : Call) → Spares p → Spares (cond v (done s p call) p)
  spares_then p false call h = h
  spares_then p true (Press d k) h = h
  spares_then p true (Lift d k) h = h
  spares_then p true (Sustain d on) h = h
  spares_then p true (Clear d) h = h
  spares_then p true (Turn k n) h = h
  spares_then p true (Capture r) h = λ q k m is out. captured q k m (eqb q r) refl is out where
    captured : (q k : ℕ) (m : Memory) (b : Bool) → eqb q r ≡ b → cond b (Some (memory s p.panel r)) (p.stored q) ≡ Some m → takes s q k ≡ false → m k ≡ None
    captured q k m true e i out =
        let there : takes s r k ≡ false = ap (λ n. takes s n k) (sym (eqb-true q r e)) ∙ out in
        let same : memory s p.panel r ≡ m = cc in
        sym (ap (λ (f : Memory). f k) same) ∙ ap (λ b. cond b (Some (p.panel k)) None) there
    captured q k m false e i out = h q k m i out
  spares_then p true (Recall r) h = h
  spares_then p true Cancel h = h

  -- a knob that a call does not name stays where it is
  panel_then : (p : Model) (k : ℕ) (v : Bool) (call : Call) → Spares p → (v && is_named s k call) ≡ false → (cond v (done s p call) p).panel k ≡ p.panel k
  panel_then p k false call h out = refl
  panel_then p k true (Press d j) h out = refl
  panel_then p k true (Lift d j) h out = refl
  panel_then p k true (Sustain d on) h out = refl
  panel_then p k true (Clear d) h out = refl
  panel_then p k true (Turn j n) h out = ap (λ b. cond b n (p.panel k)) out
  panel_then p k true (Capture q) h out = refl
  panel_then p k true (Recall q) h out = by (p.stored q) refl where
    by : (o : Option Memory) → p.stored q ≡ o → recalled o p.panel k ≡ p.panel k
    by None e = refl
    by (Some m) e =
        ap (λ o. unwrap_or o (p.panel k)) (h q k m e (ap (λ b. is_some (s.steps k) && b) (between_is (s.scope q) k) ∙ out))
  panel_then p k true Cancel h out = ap (λ b. cond b (s.home k) (p.panel k)) out

  module _ (m : Meaning) (p : Model) (e : Entry) (law : EntryLaw s m p e) where
    stored_kept : (q : ℕ) → captures q e ≡ false → (after s p e.call).stored q ≡ p.stored q
    stored_kept q h =
        ap (λ (x : Model). x.stored q) (after_is s m p e law) ∙ stored_then p q (is_ok e.answer) e.call h

    spares_kept : Spares p → Spares (after s p e.call)
    spares_kept h = subst Spares (sym (after_is s m p e law)) (spares_then p (is_ok e.answer) e.call h)

    panel_kept : (k : ℕ) → Spares p → names s k e ≡ false → (after s p e.call).panel k ≡ p.panel k
    panel_kept k h out =
        ap (λ (x : Model). x.panel k) (after_is s m p e law) ∙ panel_then p k (is_ok e.answer) e.call h out

    -- what a done call makes of the model
    goes : (test : Call → Bool) → did test e ≡ true → after s p e.call ≡ done s p e.call
    goes test h =
        after_is s m p e law ∙ ap (λ b. cond b (done s p e.call) p) (and_parts (is_ok e.answer) (test e.call) h).0

  -- over a record
  spares_after : (m : Meaning) (p : Model) (es : List Entry) → RecordLaw s m p es → Spares p → Spares (last_model s p es)
  spares_after m p [] law h = h
  spares_after m p (e ∷ es) law h = spares_after e.chest (after s p e.call) es law.1 (spares_kept m p e law.0 h)

  stored_after : (m : Meaning) (p : Model) (es : List Entry) → RecordLaw s m p es → (q : ℕ) → none (captures q) es ≡ true → (last_model s p es).stored q ≡ p.stored q
  stored_after m p [] law q h = refl
  stored_after m p (e ∷ es) law q h =
      let out = passed (captures q) e es h in
      stored_after e.chest (after s p e.call) es law.1 q out.1 ∙ stored_kept m p e law.0 q out.0

  -- a piston stores something exactly if a capture on it was done
  some_then : (p : Model) (q : ℕ) (v : Bool) (call : Call) → is_some ((cond v (done s p call) p).stored q) ≡ ((v && is_capture q call) || is_some (p.stored q))
  some_then p q false call = refl
  some_then p q true (Press d k) = refl
  some_then p q true (Lift d k) = refl
  some_then p q true (Sustain d on) = refl
  some_then p q true (Clear d) = refl
  some_then p q true (Turn k n) = refl
  some_then p q true (Capture r) = by (eqb q r) where
    by : (b : Bool) → is_some (cond b (Some (memory s p.panel r)) (p.stored q)) ≡ (b || is_some (p.stored q))
    by true = refl
    by false = refl
  some_then p q true (Recall r) = refl
  some_then p q true Cancel = refl

  some_stored : (m : Meaning) (p : Model) (es : List Entry) → RecordLaw s m p es → (q : ℕ) → is_some ((last_model s p es).stored q) ≡ (some (captures q) es || is_some (p.stored q))
  some_stored m p [] law q = refl
  some_stored m p (e ∷ es) law q =
      some_stored e.chest (after s p e.call) es law.1 q
      ∙ ap (λ (x : Model). some (captures q) es || is_some (x.stored q)) (after_is s m p e law.0)
      ∙ ap (λ b. some (captures q) es || b) (some_then p q (is_ok e.answer) e.call)
      ∙ by (some (captures q) es) (captures q e) (is_some (p.stored q))
    where
      by : (a b c : Bool) → (a || (b || c)) ≡ ((b || a) || c)
      by true true c = refl
      by true false c = refl
      by false true c = refl
      by false false c = refl

  panel_after : (m : Meaning) (p : Model) (es : List Entry) → RecordLaw s m p es → Spares p → (k : ℕ) → none (names s k) es ≡ true → (last_model s p es).panel k ≡ p.panel k
  panel_after m p [] law h k out = refl
  panel_after m p (e ∷ es) law h k out =
      let parts = passed (names s k) e es out in
      panel_after e.chest (after s p e.call) es law.1 (spares_kept m p e law.0 h) k parts.1 ∙ panel_kept m p e law.0 k h parts.0

  first_spares : Spares (first s)
  first_spares q k m is out = cc

  module _ (m : Meaning) where
    -- the model after a record that is cut at an entry
    cut_at : (es front : List Entry) (e : Entry) (rest : List Entry) → es ≡ front ++ e ∷ rest → modelled s es ≡ last_model s (after s (modelled s front) e.call) rest
    cut_at es front e rest are = ap (modelled s) are ∙ last_model-append s (first s) front (e ∷ rest)

    module _ (es front : List Entry) (e : Entry) (rest : List Entry) (are : es ≡ front ++ e ∷ rest) (law : RecordLaw s m (first s) es) where
      whole : RecordLaw s m (first s) (front ++ e ∷ rest)
      whole = subst (RecordLaw s m (first s)) are law

      before : RecordLaw s m (first s) front
      before = law_front s m (first s) front (e ∷ rest) whole

      here : RecordLaw s (last_meaning m front) (modelled s front) (e ∷ rest)
      here = law_rest s m (first s) front (e ∷ rest) whole

      spared : Spares (modelled s front)
      spared = spares_after m (first s) front before first_spares

      -- a knob stands where the last call that names it leaves it
      last_named : (k : ℕ) → names s k e ≡ true → none (names s k) rest ≡ true → stands s es k ≡ (done s (modelled s front) e.call).panel k
      last_named k named last =
          ap (λ (x : Model). x.panel k) (cut_at es front e rest are)
          ∙ panel_after e.chest (after s (modelled s front) e.call) rest here.1 (spares_kept _ _ e here.0 spared) k last
          ∙ ap (λ (x : Model). x.panel k) (goes _ _ e here.0 (is_named s k) named)

      -- a piston stores what the last capture on it stored
      last_stored : (q : ℕ) → captures q e ≡ true → none (captures q) rest ≡ true → (modelled s es).stored q ≡ Some (memory s (modelled s front).panel q)
      last_stored q captured last =
          let is = capture_is q e.call (and_parts (is_ok e.answer) (is_capture q e.call) captured).1 in
          ap (λ (x : Model). x.stored q) (cut_at es front e rest are)
          ∙ stored_after e.chest (after s (modelled s front) e.call) rest here.1 q last
          ∙ ap (λ (x : Model). x.stored q) (goes _ _ e here.0 (is_capture q) captured)
          ∙ ap (λ c. (done s (modelled s front) c).stored q) is
          ∙ ap (λ b. cond b (Some (memory s (modelled s front).panel q)) ((modelled s front).stored q)) (eqb-same q)
        where
          eqb-same : (n : ℕ) → eqb n n ≡ true
          eqb-same n = grind (arith, nat_tests)

    -- what a piston stores of a knob that it takes, and of another
    stored_of : (panel : Panel) (q k : ℕ) (b : Bool) → (is_some (s.steps k) && between (s.scope q) k) ≡ b → memory s panel q k ≡ cond b (Some (panel k)) None
    stored_of panel q k b is =
        ap (λ c. cond c (Some (panel k)) None) (ap (λ c. is_some (s.steps k) && c) (between_is (s.scope q) k) ∙ is)

    pub pistons_by : (es : List Entry) → RecordLaw s m (first s) es → PistonsByCalls s es
    pistons_by es law =
        record {
          never = λ q out. stored_after m (first s) es law q out;
          captured = λ q front e rest c. (
            memory s (modelled s front).panel q,
            last_stored es front e rest c.are law q c.done c.last,
            λ k is. stored_of (modelled s front).panel q k true is,
            λ k is. stored_of (modelled s front).panel q k false is,
          );
        }

    pub stored_by : (es : List Entry) → RecordLaw s m (first s) es → (q : ℕ) → is_some ((modelled s es).stored q) ≡ some (captures q) es
    stored_by es law q = some_stored m (first s) es law q ∙ by (some (captures q) es) where
      by : (b : Bool) → (b || false) ≡ b
      by true = refl
      by false = refl

    pub knobs_by : (es : List Entry) → RecordLaw s m (first s) es → KnobsByCalls s es
    knobs_by es law =
        record {
          home = λ k n out is. stays k out ∙ ap (λ o. cond (is_some o) (s.home k) 0) is;
          undefined = λ k out is. stays k out ∙ ap (λ o. cond (is_some o) (s.home k) 0) is;
          turned = λ k position front e rest n is. last_named es front e rest n.are law k n.done n.last ∙ ap (λ c. (done s (modelled s front) c).panel k) is ∙ turned_to front k position;
          cancelled = λ k front e rest n is. last_named es front e rest n.are law k n.done n.last ∙ ap (λ c. (done s (modelled s front) c).panel k) is ∙ ap (λ b. cond b (s.home k) ((modelled s front).panel k)) (named k e n.done is);
          recalled = recalled_to;
        }
      where
        stays : (k : ℕ) → none (names s k) es ≡ true → stands s es k ≡ (first s).panel k
        stays k out = panel_after m (first s) es law first_spares k out

        turned_to : (front : List Entry) (k position : ℕ) → cond (eqb k k) position ((modelled s front).panel k) ≡ position
        turned_to front k position = grind (arith, nat_tests)

        named : (k : ℕ) (e : Entry) → names s k e ≡ true → e.call ≡ Cancel → is_some (s.steps k) ≡ true
        named k e h is = ap (is_named s k) (sym is) ∙ (and_parts (is_ok e.answer) (is_named s k e.call) h).1

        recalled_to : (k q : ℕ) (front : List Entry) (e : Entry) (rest : List Entry) → LastToName s k es front e rest → e.call ≡ Recall q → (before : List Entry) (c : Entry) (after : List Entry) → LastCapture q front before c after → stands s es k ≡ stands s before k
        recalled_to k q front e rest n is early c later capture =
            let law_before = before es front e rest n.are law in
            let takes : (is_some (s.steps k) && between (s.scope q) k) ≡ true = ap (is_named s k) (sym is) ∙ (and_parts (is_ok e.answer) (is_named s k e.call) n.done).1 in
            last_named es front e rest n.are law k n.done n.last
            ∙ ap (λ c. (done s (modelled s front) c).panel k) is
            ∙ ap (λ o. recalled o (modelled s front).panel k) (last_stored front early c later capture.are law_before q capture.done capture.last)
            ∙ ap (λ o. unwrap_or o ((modelled s front).panel k)) (stored_of (modelled s early).panel q k true takes)

pub knob_law : KnobLaw
knob_law =
    record {
      knobs = λ s m es law. knobs_by s m es law;
      pistons = λ s m es law. pistons_by s m es law;
    }

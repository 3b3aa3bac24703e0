-- A capture: what the piston table stores, and the law at its entry. Assumes nothing.
use Rattle.std.proofs.Common.{◌≡◌, ℕ, ◌<◌, Bool, true, false, cond, ◌&&◌, List, get_or, is_some, is_ok, Some, None, Ok, Option, sym, refl, ap, ◌∙◌, subst, ⊎_elim, arith, eq-eqb, ne_eqb}
use Rattle.std.specs.Option.{option_map}
use Rattle.std.proofs.lemmas.Bool.{cases_eq}
use Rattle.std.proofs.lemmas.Bool.Decides.{nat_tests}
use Rattle.chest.specs.Places.{none}
use Rattle.chest.specs.Meaning.{Meaning, Panel, Bounded, next_strobe}
use Rattle.console.specs.declared.call.Call.TheVariants.{Capture}
use Rattle.console.specs.declared.console.Console.{Console}
use Rattle.console.specs.declared.piston_table.PistonTable.{PistonTable}
use Rattle.console.specs.KnobTable.{steps_of}
use Rattle.console.specs.PistonTable.{scope_of, frame_of}
use Rattle.console.specs.Model.{Setup, Model, Memory, check, done, after, takes, memory}
use Rattle.console.specs.Record.{EntryLaw, answer_of}
use Rattle.console.specs.Tracks.{Sane, Tracks, setup_of, stored_of}
use Rattle.console.proofs.Steps.{entry, goes}

-- a memory is told by the positions of the knobs that it takes
memory-is : (s : Setup) (q : ℕ) (one two : Panel) → ((k : ℕ) → takes s q k ≡ true → one k ≡ two k) → memory s one q ≡ memory s two q
memory-is s q one two same = λ i k. at k (takes s q k) refl i where
  at : (k : ℕ) (b : Bool) → takes s q k ≡ b → memory s one q k ≡ memory s two q k
  at k true e = ap (λ b. cond b (Some (one k)) None) e ∙ ap Some (same k e) ∙ sym (ap (λ b. cond b (Some (two k)) None) e)
  at k false e = ap (λ b. cond b (Some (one k)) None) e ∙ sym (ap (λ b. cond b (Some (two k)) None) e)

-- what is stored of a panel is its positions
memory-low : (s : Setup) (q k n : ℕ) (panel : Panel) → ((k : ℕ) → panel k < 16) → memory s panel q k ≡ Some n → n < 16
memory-low s q k n panel low h = at (takes s q k) refl where
  at : (b : Bool) → takes s q k ≡ b → n < 16
  at true e =
      let is : Some (panel k) ≡ Some n = sym (ap (λ b. cond b (Some (panel k)) None) e) ∙ h in
      let same : panel k ≡ n = cc in
      omega (arith, low k)
  at false e =
      let is : None ≡ Some n = sym (ap (λ b. cond b (Some (panel k)) None) e) ∙ h in
      let z : ◌≡◌ {A = ℕ} 0 1 = cc in
      absurd (omega arith)

module _ {C : Type 0} {meaning : C → Meaning} {settled : C → Type 0} (quiet : (c : C) (panel : Panel) → (meaning c).rule panel none ≡ none) where
  module _ {c : Console C} {s : Setup} {p : Model} (q : ℕ) (pistons : PistonTable) (positions : List ℕ) (t : Tracks meaning settled c s p) (bounded : Bounded (meaning c.chest)) (f : check s p (Capture q) ≡ Ok tt) (read : (k : ℕ) → k < 64 → get_or positions k 0 ≡ (meaning c.chest).panel k) (scopes : (r : ℕ) → scope_of pistons r ≡ scope_of c.pistons r) (there : frame_of pistons q ≡ Some positions) (others : (r : ℕ) → (r ≡ q → ⊥) → frame_of pistons r ≡ frame_of c.pistons r) where
    panel-low : (k : ℕ) → p.panel k < 16
    panel-low k = let e = ap (λ (x : Panel). x k) t.agrees.panel in omega (arith, bounded.positions k)

    taken-read : (k : ℕ) → takes s q k ≡ true → get_or positions k 0 ≡ p.panel k
    taken-read k h =
        let steps : steps_of c.knobs k ≡ s.steps k = ap (λ x. x.steps k) t.setup in
        let some = ap is_some steps in
        let low : k < 64 = grind (arith, nat_tests) in
        read k low ∙ ap (λ (x : Panel). x k) t.agrees.panel

    stored_is : stored_of s pistons ≡ (done s p (Capture q)).stored
    stored_is = λ i r. one r i where
      one : (r : ℕ) → stored_of s pistons r ≡ (done s p (Capture q)).stored r
      one r =
          ⊎_elim
          (λ (e : r ≡ q).
          ap (λ n. option_map (λ frame. memory s (λ k. get_or frame k 0) n) (frame_of pistons n)) e
          ∙ ap (option_map (λ frame. memory s (λ k. get_or frame k 0) q)) there
          ∙ ap Some (memory-is s q (λ k. get_or positions k 0) p.panel taken-read)
          ∙ sym (ap (λ b. cond b (Some (memory s p.panel q)) (p.stored r)) (eq-eqb r q e)))
          (λ (ne : r ≡ q → ⊥).
          ap (option_map (λ frame. memory s (λ k. get_or frame k 0) r)) (others r ne)
          ∙ ap (λ (x : ℕ → Option Memory). x r) t.stored
          ∙ sym (ap (λ b. cond b (Some (memory s p.panel q)) (p.stored r)) (ne_eqb r q ne)))
          (cases_eq r q)

    sane_after : Sane (done s p (Capture q))
    sane_after = record { held = t.sane.held; stored = one } where
      one : (r k n : ℕ) (m : Memory) → (done s p (Capture q)).stored r ≡ Some m → m k ≡ Some n → n < 16
      one r k n m h e =
          ⊎_elim
          (λ (is : r ≡ q).
          let new : Some (memory s p.panel q) ≡ Some m = sym (ap (λ b. cond b (Some (memory s p.panel q)) (p.stored r)) (eq-eqb r q is)) ∙ h in
          let same : memory s p.panel q ≡ m = cc in
          memory-low s q k n p.panel panel-low (ap (λ (x : Memory). x k) same ∙ e))
          (λ (ne : r ≡ q → ⊥).
          t.sane.stored r k n m (sym (ap (λ b. cond b (Some (memory s p.panel q)) (p.stored r)) (ne_eqb r q ne)) ∙ h) e)
          (cases_eq r q)

    -- a capture stores, strobes not at all and answers 0
    pub capture_follows : Tracks meaning settled (record { chest = c.chest; knobs = c.knobs; pistons = pistons; keys = c.keys }) s (after s p (Capture q)) × EntryLaw s (meaning c.chest) p (record { call = Capture q; answer = Ok 0; chest = meaning c.chest })
    capture_follows =
        let m = meaning c.chest in
        let next : Console C = record { chest = c.chest; knobs = c.knobs; pistons = pistons; keys = c.keys } in
        let setup : setup_of m.reach c.knobs pistons ≡ s = (λ i. record { reach = m.reach; steps = (setup_of m.reach c.knobs pistons).steps; home = (setup_of m.reach c.knobs pistons).home; scope = λ r. scopes r i }) ∙ t.setup in
        let now : Tracks meaning settled next s (done s p (Capture q)) = record { steady = t.steady; setup = setup; keys = t.keys; stored = stored_is; agrees = record { register = t.agrees.register; panel = t.agrees.panel; speaks = t.agrees.speaks }; sane = sane_after } in
        let moved : Tracks meaning settled next s (after s p (Capture q)) = subst (Tracks meaning settled next s) (sym (goes s p (Capture q) f)) now in
        (moved, entry m m s p (Capture q) (quiet c.chest) t.agrees moved.agrees moved.sane refl refl (Ok 0) (sym (ap (λ v. answer_of v 0) f)) (sym (ap (λ v. cond (is_ok v && false) (next_strobe m.strobes) m.strobes) f)))

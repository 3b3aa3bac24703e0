-- Each wire that waits for the knob is walked once.
use Rattle.std.proofs.Common.{◌≡◌, ℕ, ◌<◌, ◌≤◌, Bool, true, false, eqb, List, length, cond, get_or, ◌≢◌, Some, refl, sym, ap, ◌∙◌, ⊎_elim, subst, arith}
use Rattle.std.proofs.lemmas.Bool.{cases_eq, cases_lt}
use Rattle.std.proofs.lemmas.Bool.Decides.{nat_tests}
use Rattle.chest.specs.Meaning.{Panel, knob_to}
use Rattle.chest.specs.Positions.{positions_of}
use Rattle.sets.specs.Numbers.{Numbers, with_number, PopsFirst}
use Rattle.wires.specs.declared.lead.Lead.{Lead}
use Rattle.board.proofs.Indexes.{live_same}
use Rattle.sets.specs.NumberSet.{members, remaining}
use Rattle.wires.specs.Wires.{live}
use Rattle.board.specs.Wiring.{panel, wires}
use Rattle.board.specs.Waiting.{waiting_of}
use Rattle.board.specs.Among.{among, waits, blank}
use Rattle.board.proofs.Sums.{left_less}
use Rattle.board.proofs.Among.{among_at, among_past, among_in, still_in, left_out}
use Rattle.board.proofs.wiring.Wiring.live_after.Goals as goal

-- a wire that is not walked is as live as before
start : (panel : Panel) (knob position : ℕ) (ws : List Lead) (s : Numbers) → s ≡ among (waits knob) ws → (after : Panel) → after ≡ knob_to panel knob position → (i : ℕ) → among (live panel) ws i ≡ cond (s i) (among (live panel) ws i) (among (live after) ws i)
start panel knob position ws s is after turned i = by (s i) refl
  where
    by : (c : Bool) → s i ≡ c → among (live panel) ws i ≡ cond c (among (live panel) ws i) (among (live after) ws i)
    by true e = refl
    by false e =
        ⊎_elim
        (λ (l : i < length ws). among_at (live panel) ws i blank l ∙ sym (live_same panel knob position (get_or ws i blank) (left_out (waits knob) ws s is i blank l e)) ∙ ap (λ f. live f (get_or ws i blank)) (sym turned) ∙ sym (among_at (live after) ws i blank l))
        (λ (l : length ws ≤ i). among_past (live panel) ws i l ∙ sym (among_past (live after) ws i l))
        (cases_lt i (length ws))

-- one less is as before
step : (s t now old new : Numbers) (k : ℕ) (on : Bool) → PopsFirst s t (Some k) → on ≡ new k → ((i : ℕ) → now i ≡ cond (s i) (old i) (new i)) → (i : ℕ) → with_number now k on i ≡ cond (t i) (old i) (new i)
step s t now old new k on pops is inv i =
    ⊎_elim
    (λ (e : i ≡ k). subst (λ j. with_number now k on j ≡ cond (t j) (old j) (new j)) (sym e) here)
    (λ (ne : i ≢ k). other ne ∙ inv i ∙ ap (λ c. cond c (old i) (new i)) (sym (ap (λ x. x i) pops.2 ∙ stays ne)))
    (cases_eq i k)
  where
    same : eqb k k ≡ true
    same = grind (arith, nat_tests)

    here : with_number now k on k ≡ cond (t k) (old k) (new k)
    here = ap (λ c. cond c on (now k)) same ∙ is ∙ ap (λ c. cond c (old k) (new k)) (sym (ap (λ x. x k) pops.2 ∙ ap (λ c. cond c false (s k)) same))

    other : i ≢ k → with_number now k on i ≡ now i
    other ne = grind (arith, nat_tests)

    stays : i ≢ k → with_number s k false i ≡ s i
    stays ne = grind (arith, nat_tests)

pub loop-number-init : goal.loop-number-init
loop-number-init c =
    let h = c.args.self.now in
    let to = c.args.to in
    let s = remaining c.rest-rest.result in
    let turned = c.turn.ensures ∙ ap (λ t. knob_to (positions_of t) to.knob to.position) c.positions.ensures in
    let is = c.rest-rest.ensures ∙ c.of.ensures ∙ ap (waiting_of h.waiting) c.knob.ensures.value ∙ h.waits to.knob to.knob_in in (
      λ i left. sym (ap (λ x. x i) is) ∙ left,
      λ i. ap (λ x. x i) h.alive ∙ start (panel h) to.knob to.position (wires h) s is (positions_of c.turn.new.self) turned i,
      turned,
    )

pub lead-requires : goal.lead-requires
lead-requires c =
    (among_in (waits c.args.to.knob) (wires c.args.self.now) c.in-Some.number (c.loop-number.invariant.0 c.in-Some.number c.in-Some.ensures.value.0)).0

pub loop-number-smaller : goal.loop-number-smaller
loop-number-smaller c =
    left_less (remaining c.loop-number.rest) (remaining c.pop_first.new.self) c.in-Some.number c.in-Some.ensures.bound c.in-Some.ensures.value

pub loop-number-preserved : goal.loop-number-preserved
loop-number-preserved c =
    let h = c.args.self.now in
    let s = remaining c.loop-number.rest in
    let t = remaining c.pop_first.new.self in
    let k = c.in-Some.number in
    let pops = c.in-Some.ensures.value in
    let inv = c.loop-number.invariant in
    let after = among (live (positions_of c.turn.new.self)) (wires h) in
    let l = (among_in (waits c.args.to.knob) (wires h) k (inv.0 k pops.0)).0 in (
      λ i left. inv.0 i (still_in s t k pops i left),
      λ i. ap (λ x. x i) (c.with-live.ensures.value c.in-Some.ensures.bound) ∙ step s t (members c.loop-number.live) (among (live (panel h)) (wires h)) after k c.is_live.result pops (c.is_live.ensures ∙ ap (live (positions_of c.turn.new.self)) c.lead.ensures ∙ sym (among_at (live (positions_of c.turn.new.self)) (wires h) k blank l)) inv.1 i,
      inv.2,
    )

pub returns : goal.returns
returns c =
    let h = c.args.self.now in
    (λ j i. c.loop-number.invariant.1 i j)
    ∙ (λ j i. cond (c.in_default.ensures.value.0 j i) (among (live (panel h)) (wires h) i) (among (live (positions_of c.turn.new.self)) (wires h) i))
    ∙ (λ j. among (live (c.loop-number.invariant.2 j)) (wires h))

-- The image over wires as they are offered. Assumes nothing.
use Rattle.std.specs.Prelude.{◌≡◌, ℕ, ◌<◌, Bool, true, false, cond, ◌⊎◌, ◌↔◌, List, [], ◌∷◌, map, length, pos, ◌+ℤ◌, ◌==◌, All, HoldsAt, IfSome, Some, None, Ok, get_or}
use Rattle.std.proofs.Common.{sym, refl, ap, ◌∙◌, subst, inl, inr, arith}
use Rattle.std.specs.Result.{result_unwrap_or}
use Rattle.std.proofs.lemmas.List.{get_or-map, length-map}
use Rattle.std.proofs.lemmas.Bool.{eqb-true, eq-eqb}
use Rattle.chest.specs.Places.{Places}
use Rattle.chest.specs.Meaning.{Panel}
use Rattle.fittings.specs.declared.Wire.{Wire}
use Rattle.coupling.specs.Layout.{Reaches}
use Rattle.wires.specs.declared.lead.Lead.{Lead}
use Rattle.wires.specs.declared.lead.Wait.{Wait}
use Rattle.wires.specs.Wires.{image}
use Rattle.wires.specs.Fitting.{checked, wire_checks, setting_of, lead_of}
use Rattle.wires.specs.Laws.{Reached, shift_of}
use Rattle.wires.specs.Offered.{Leads, Shiftable, LeadsAlike, OfferedLaw}
use Rattle.wires.proofs.Shown.{image-law}
use Rattle.wires.proofs.FirstFault.{within, wire-answered, after-position}

-- a shift from -96 to 96 is kept
kept : (w : Wire) → Shiftable w → shift_of (lead_of w) ≡ w.shift
kept w h = image-law.shift w (within w.shift h.least h.most)

-- a wire that waits for no knob is one with knob 64
live-tells : (panel : Panel) (w : Wire) → IfSome (setting_of w) (λ t. panel t.knob ≡ t.position) → (w.knob ≡ 64) ⊎ (panel w.knob ≡ w.position)
live-tells panel w live = by (w.knob == 64) refl live where
  by : (c : Bool) → (w.knob == 64) ≡ c → IfSome (cond c None (Some (record { knob = w.knob; position = w.position }))) (λ (t : Wait). panel t.knob ≡ t.position) → (w.knob ≡ 64) ⊎ (panel w.knob ≡ w.position)
  by true e live = inl (eqb-true w.knob 64 e)
  by false e live = inr live

live-from : (panel : Panel) (w : Wire) → (w.knob ≡ 64) ⊎ (panel w.knob ≡ w.position) → IfSome (setting_of w) (λ t. panel t.knob ≡ t.position)
live-from panel w = elim [
  | inl always ↦ subst (λ c. IfSome (cond c None (Some (record { knob = w.knob; position = w.position }))) (λ (t : Wait). panel t.knob ≡ t.position)) (sym (eq-eqb w.knob 64 always)) tt
  | inr stands ↦ by (w.knob == 64) stands
] where
  by : (c : Bool) → panel w.knob ≡ w.position → IfSome (cond c None (Some (record { knob = w.knob; position = w.position }))) (λ (t : Wait). panel t.knob ≡ t.position)
  by true stands = tt
  by false stands = stands

module _ (reach : Reaches) (panel : Panel) (s : Places) (b q : ℕ) where
  -- a wire leads as it is kept just where it leads as it is offered
  pub leads-from : (w : Wire) → Shiftable w → Reached reach panel s b q (lead_of w) → Leads reach panel s b q w
  leads-from w h p =
      record { key = p.key; live = live-tells panel w p.live; row = p.row; held = p.held; low = p.low; high = p.high; shifted = p.shifted ∙ ap (λ z. pos p.key +ℤ z) (kept w h); below = p.below }

  pub leads-reached : (w : Wire) → Shiftable w → Leads reach panel s b q w → Reached reach panel s b q (lead_of w)
  leads-reached w h p =
      record { key = p.key; live = live-from panel w p.live; row = p.row; held = p.held; low = p.low; high = p.high; shifted = p.shifted ∙ ap (λ z. pos p.key +ℤ z) (sym (kept w h)); below = p.below }

  -- a place is in the image of wires exactly if one of those that were offered leads there
  abbrev Led : List Wire → Type 0
  Led ws = (i : ℕ) × (i < length ws) × HoldsAt (Leads reach panel s b q) ws i

  led-from : (ws : List Wire) → All Shiftable ws → image reach (map lead_of ws) panel s b q ≡ true → Led ws
  led-from ws fit e =
      let there = (image-law.exact reach (map lead_of ws) panel s b q).0 e in
      let low : there.0 < length ws = omega (arith, there.1, length-map ws lead_of) in
      (there.0, low, λ d. leads-from (get_or ws there.0 d) (fit there.0 d low) (subst (Reached reach panel s b q) (get_or-map lead_of ws there.0 d (lead_of d) low) (there.2 (lead_of d))))

  led-image : (ws : List Wire) → All Shiftable ws → Led ws → image reach (map lead_of ws) panel s b q ≡ true
  led-image ws fit led =
      let low = led.1 in
      let high : led.0 < length (map lead_of ws) = omega (arith, low, length-map ws lead_of) in
      (image-law.exact reach (map lead_of ws) panel s b q).1 (led.0, high, λ e. subst (Reached reach panel s b q) (sym (get_or-map lead_of ws led.0 any e low)) (leads-reached (get_or ws led.0 any) (fit led.0 any low) (led.2 any)))
    where
      any : Wire
      any = record { from = 0; lowest = 0; highest = 0; to = 0; shift = pos 0; knob = 0; position = 0 }

pub offered-law : OfferedLaw
offered-law reach ws panel s b q fit =
    (led-from reach panel s b q ws fit, led-image reach panel s b q ws fit)

-- the same as an equivalence
pub offered-image : (reach : Reaches) (ws : List Wire) (panel : Panel) (s : Places) (b q : ℕ) → All Shiftable ws → (image reach (map lead_of ws) panel s b q ≡ true) ↔ ((i : ℕ) × (i < length ws) × HoldsAt (Leads reach panel s b q) ws i)
offered-image reach ws panel s b q fit = offered-law reach ws panel s b q fit

-- one wire
pub leads-alike : (w : Wire) → Shiftable w → LeadsAlike (lead_of w) w
leads-alike w h reach panel s b q =
    (λ e. let there = (image-law.exact reach (lead_of w ∷ []) panel s b q).0 e in leads-from reach panel s b q w h (first there), λ p. (image-law.exact reach (lead_of w ∷ []) panel s b q).1 (0, omega arith, λ d. leads-reached reach panel s b q w h p))
  where
    first : ((i : ℕ) × (i < length (lead_of w ∷ [])) × HoldsAt (Reached reach panel s b q) (lead_of w ∷ []) i) → Reached reach panel s b q (lead_of w)
    first there = subst (λ i. Reached reach panel s b q (get_or (lead_of w ∷ []) i (lead_of w))) (let z : there.0 ≡ 0 = omega (arith, there.1) in z) (there.2 (lead_of w))

-- a wire that passes its checks is kept so that it leads alike
pub leads-answered : (reach below : Reaches) (w : Wire) (lead : Lead) → Ok lead ≡ checked (wire_checks reach below w) (lead_of w) → LeadsAlike lead w
leads-answered reach below w lead is =
    let good = (wire-answered reach below w (lead_of w) (Ok lead) is).kept.0 refl in
    let same : lead ≡ lead_of w = ap (λ r. result_unwrap_or r lead) (is ∙ after-position reach below w (lead_of w) good) in
    subst (λ (x : Lead). LeadsAlike x w) (sym same) (leads-alike w (record { least = good.0.0.1; most = good.0.0.2 }))

-- Single wires by their shift, and the wires of the small organ on their boards. Assumes nothing.
use Rattle.std.proofs.Common.{◌≡◌, true, cond, [], ◌∷◌, ℤ, pos, negsuc, Ok, Err, refl, ap}
use Rattle.chest.specs.Places.{none, put}
use Rattle.chest.specs.Meaning.{Panel}
use Rattle.wires.specs.declared.fault.BoardFault.TheVariants.{Shift}
use Rattle.wires.specs.Wires.{image, landing}
use Rattle.coupling.specs.Some.{some}
use Rattle.wires.specs.Fitting.{in_range, fit_answer, lead_of}
use Rattle.organ.specs.Assembly.{hang_all, stop_wired}
use Rattle.organ.specs.Opening.{new_ranks}
use Rattle.cases.specs.Organ.{keys, ranks, shifted_by, wires, hung}
use Rattle.cases.proofs.Held.{image-held}

pub twelve_up : (panel : Panel) → image ranks (lead_of (shifted_by (pos 12)) ∷ []) panel (put none 0 60 true) ≡ put none 0 72 true
unfolding landing
twelve_up panel = image-held ranks panel (lead_of (shifted_by (pos 12)) ∷ []) ((0, 60) ∷ [])

pub thirteen_up : (panel : Panel) → image ranks (lead_of (shifted_by (pos 13)) ∷ []) panel (put none 0 60 true) ≡ none
unfolding landing
thirteen_up panel = image-held ranks panel (lead_of (shifted_by (pos 13)) ∷ []) ((0, 60) ∷ [])

pub eleven_below : (panel : Panel) → image ranks (lead_of (shifted_by (negsuc 11)) ∷ []) panel (put none 0 11 true) ≡ none
unfolding landing
eleven_below panel = image-held ranks panel (lead_of (shifted_by (negsuc 11)) ∷ []) ((0, 11) ∷ [])

pub twelve_down : (panel : Panel) → image ranks (lead_of (shifted_by (negsuc 11)) ∷ []) panel (put none 0 12 true) ≡ put none 0 0 true
unfolding landing
twelve_down panel = image-held ranks panel (lead_of (shifted_by (negsuc 11)) ∷ []) ((0, 12) ∷ [])

pub assembled : hang_all keys (new_ranks ranks) wires ≡ Ok hung
unfolding some
assembled = refl

pub taken : (shift : ℤ) → in_range shift ≡ true → fit_answer (stop_wired keys (new_ranks ranks) []) (new_ranks ranks) (shifted_by shift) ≡ Ok tt
unfolding some
taken shift e = ap (λ b. cond b (Ok tt) (Err (Shift 0 0))) e

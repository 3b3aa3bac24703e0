-- The ways of a wire where a knob turns. Assumes nothing.
use Rattle.std.specs.Prelude.{◌≡◌, ℕ, ◌+◌, Bool, true, false, cond, ◌&&◌, ◌≢◌, Some, None, Option, ◌==◌, refl}
use Rattle.std.proofs.Common.{sym, ap, subst, ◌∙◌, arith}
use Rattle.std.proofs.lemmas.Bool.{eqb-true}
use Rattle.std.proofs.lemmas.Bool.Decides.{nat_tests}
use Rattle.chest.specs.Places.{Places}
use Rattle.chest.specs.Meaning.{Panel, knob_to}
use Rattle.coupling.specs.Layout.{Reaches}
use Rattle.wires.specs.declared.lead.Lead.{Lead}
use Rattle.wires.specs.declared.lead.Wait.{Wait}
use Rattle.wires.specs.Wires.{stands, span, through}
use Rattle.board.specs.declared.swing.Swing.{Swing}
use Rattle.board.specs.declared.swing.Swing.TheVariants.{Starts, Stops}
use Rattle.board.specs.Swing.{starts, swing, swing_of}

-- a number that rose or fell by so much, or stayed
abbrev pub Swung : Option Swing → ℕ → ℕ → ℕ → Type 0
Swung None new old by = new ≡ old
Swung (Some swing) new old by = new + cond (starts swing) 0 by ≡ old + cond (starts swing) by 0

-- a knob that turns gives or takes all the ways of a wire that starts or stops to be live
pub through-swing : (reach : Reaches) (panel : Panel) (s : Places) (knob from to b q : ℕ) (w : Lead) → panel knob ≡ from → from ≢ to → (o : Option Swing) → swing w knob from to ≡ o → Swung o (through reach (knob_to panel knob to) s b q w) (through reach panel s b q w) (span reach s b q w)
through-swing reach panel s knob from to b q w was ne o is =
    subst (λ x. Swung x (through reach (knob_to panel knob to) s b q w) (through reach panel s b q w) (span reach s b q w)) is (by w.setting (span reach s b q w))
  where
    by : (c : Option Wait) (ways : ℕ) → Swung (swing_of c knob from to) (cond (stands (knob_to panel knob to) c) ways 0) (cond (stands panel c) ways 0) ways
    by None ways = refl
    by (Some t) ways = turned (t.knob == knob) (t.position == from) (t.position == to) _ _ ways one (λ f g. ne (sym (eqb-true t.position from f) ∙ eqb-true t.position to g)) where
      there : t.knob ≡ knob → panel t.knob ≡ from
      there e = ap panel e ∙ was

      one : cond (stands (knob_to panel knob to) (Some t)) ways 0 + cond (t.knob == knob && t.position == from) ways 0 ≡ cond (stands panel (Some t)) ways 0 + cond (t.knob == knob && t.position == to) ways 0
      one = grind (arith, nat_tests, there)

      turned : (k f g : Bool) (new old by : ℕ) → new + cond (k && f) by 0 ≡ old + cond (k && g) by 0 → (f ≡ true → g ≢ true) → Swung (cond k (cond f (Some Stops) (cond g (Some Starts) None)) None) new old by
      turned true true true new old d e apart = absurd (apart refl refl)
      turned true true false new old d e apart = e
      turned true false true new old d e apart = e
      turned true false false new old d e apart = omega arith
      turned false f g new old d e apart = omega arith

-- A wire is taken only while no key is set. Assumes nothing.
use Rattle.std.proofs.Common.{◌≡◌, ℕ, Bool, true, false, cond, ltb, length, Ok, Err, Result, refl, arith}
use Rattle.chest.specs.Meaning.{Meaning}
use Rattle.fittings.specs.declared.Wire.{Wire}
use Rattle.wires.specs.declared.fault.BoardFault.{BoardFault}
use Rattle.wires.specs.declared.fault.BoardFault.TheVariants.{Held, Full}
use Rattle.coupling.specs.Some.{is_free}
use Rattle.wires.specs.Wired.{Wired}
use Rattle.wires.specs.Fitting.{checked, wire_checks, fit_answer}

abbrev IsOk : Result Unit BoardFault → Type 0
IsOk (Ok u) = Unit
IsOk (Err e) = ⊥

-- a board that took a wire had no key set
pub fit_free : (l : Wired) (m : Meaning) (w : Wire) → fit_answer l m w ≡ Ok tt → is_free l.register ≡ true
fit_free l m w is = by (is_free l.register) (cond (ltb (length l.wires) 128) (checked (wire_checks l.reach m.reach w) tt) (Err Full)) (Ok tt) is tt where
  by : (free : Bool) (x y : Result Unit BoardFault) → cond free x (Err Held) ≡ y → IsOk y → free ≡ true
  by true x y e ok = refl
  by false x (Err f) e ok = absurd ok
  by false x (Ok u) e ok = absurd (let z : ◌≡◌ {A = ℕ} 0 1 = cc in omega arith)

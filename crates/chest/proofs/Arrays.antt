-- Arrays that a function makes place by place. Assumes nothing.
use Rattle.std.proofs.Common.{◌≡◌, ℕ, zero, suc, ◌+◌, ◌<◌, ◌≤◌, Bool, true, false, nat_lt, List, get_or, subst, sym, refl, arith}
use Rattle.std.proofs.lemmas.List.{get_or_past}
use Rattle.std.proofs.lemmas.Bool.Decides.{nat_tests}
use Rattle.std.specs.Array.{IsFromFnResult, IsFromFnResultFrom}
use Rattle.std.specs.Fn.{Called}
use denote.Param.Members.{Mut}
use Rattle.chest.specs.Reaches.{reach_of}

-- what every call of a function that stays as it is gives, holds at each place
module _ {F B : Type 0} (g : Mut F (ℕ × Unit {0}) B) (R : ℕ → B → Type 0) (f : F) (each : (i : ℕ) (y : B) (q : F) → Called g f (i, tt) y q → R i y × (q ≡ f)) where
  from : (ys : List B) (i n j : ℕ) (p : F) (d : B) → p ≡ f → IsFromFnResultFrom g p ys i n → j < n → R (i + j) (get_or ys (i + j) d)
  from ys i zero j p d same made low = absurd (omega arith)
  from ys i (suc n) zero p d same (q, y, there, call, rest) low =
      subst (λ k. R k (get_or ys k d)) (omega arith) (subst (R i) (sym (there.1 d)) (each i y q (subst (λ x. Called g x (i, tt) y q) same call)).0)
  from ys i (suc n) (suc j) p d same (q, y, there, call, rest) low =
      subst (λ k. R k (get_or ys k d)) (omega arith) (from ys (i + 1) n j q d (each i y q (subst (λ x. Called g x (i, tt) y q) same call)).1 rest (omega arith))

  pub from_fn_each : (ys : List B) (n k : ℕ) (d : B) → IsFromFnResult g f ys n → k < n → R k (get_or ys k d)
  from_fn_each ys n k d made low =
      subst (λ j. R j (get_or ys j d)) (omega arith) (from ys 0 n k f d refl made.each low)

-- the same of what holds at every place, and of 0 past the end
pub from_fn_all : {F : Type 0} (g : Mut F (ℕ × Unit {0}) ℕ) (P : ℕ → Type 0) (f : F) → ((i y : ℕ) (q : F) → Called g f (i, tt) y q → P y × (q ≡ f)) → P 0 → (ys : List ℕ) (n : ℕ) → IsFromFnResult g f ys n → (k : ℕ) → P (get_or ys k 0)
from_fn_all g P f each nought ys n made k = by (nat_lt k n) refl where
  by : (b : Bool) → nat_lt k n ≡ b → P (get_or ys k 0)
  by true h = from_fn_each g (λ i y. P y) f each ys n k 0 made (grind (arith, nat_tests))
  by false h = subst P (sym (get_or_past ys k 0 (grind (arith, nat_tests, made.long)))) nought

-- a table of reaches that are wanted
pub reaches_held : (table : List ℕ) (want : ℕ → ℕ) → ((r : ℕ) → r < 16 → (get_or table r 0 ≡ want r) × (get_or table r 0 ≤ 128)) → ((r : ℕ) → 16 ≤ r → want r ≡ 0) → reach_of table ≡ want
reaches_held table want there past = λ i r. one r i where
  one : (r : ℕ) → reach_of table r ≡ want r
  one r =
      let is = there r in
      let none = past r in
      grind (arith, nat_tests)

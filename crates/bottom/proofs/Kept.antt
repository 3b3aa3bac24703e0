-- What a bottom chest keeps: its positions below 16, and its pipes below their reaches. Assumes nothing.
use Rattle.std.proofs.Common.{◌≡◌, ℕ, ◌<◌, Bool, true, get_or, replicate, sym, ap, ◌∙◌, arith}
use Rattle.std.proofs.lemmas.Bool.Decides.{nat_tests}
use Rattle.chest.specs.Places.{Places, put}
use Rattle.fittings.proofs.Filled.{filled}
use Rattle.chest.specs.Positions.{panel_of}

-- a place below its reach put into a set whose places all are
pub put-inside : (s t : Places) (reach : ℕ → ℕ) (row place r q : ℕ) (on : Bool) → t ≡ put s r q on → r ≡ row → q ≡ place → place < reach row → ((r p : ℕ) → s r p ≡ true → p < reach r) → (r p : ℕ) → t r p ≡ true → p < reach r
put-inside s t reach row place r q on is er eq low all o p h =
    let there : put s r q on o p ≡ true = sym (ap (λ (f : Places). f o p) is) ∙ h in
    let old = all o p in
    let first = ap reach er in
    let at : o ≡ r → reach o ≡ reach r = λ e. ap reach e in
    grind (arith, nat_tests)

-- every knob of a new chest stands at 0
pub panel_zero : (k : ℕ) → panel_of (replicate 64 0) k ≡ 0
panel_zero k = let z : ◌≡◌ {A = ℕ} (get_or (replicate 64 0) k 0) 0 = filled 64 k 0 in grind (arith, nat_tests)

-- One step of each walk over a chest. Assumes nothing.
use Rattle.std.proofs.Common.{◌≡◌, ℕ, ◌+◌, ◌<◌, Bool, sym, ap, ◌∙◌, arith}
use Rattle.std.proofs.lemmas.Bool.Decides.{nat_tests}
use Rattle.chest.specs.Places.{Places, none, put}
use Rattle.chest.specs.Meaning.{Meaning, Becomes, set_after, with_register}
use Rattle.chest.proofs.Calls.{set-done}
use Rattle.chest.specs.Walks.{row_shown, rows_out}

-- one place more of a row
pub row_more : (m : Meaning) (s : Places) (row place : ℕ) (on : Bool) → row < 16 → place < m.reach row → on ≡ s row place → set_after (row_shown m s row place) row place on ≡ row_shown m s row (place + 1)
row_more m s row place on h k is =
    set-done (row_shown m s row place) row place on h k ∙ (λ i. with_register m (λ r p. one r p i))
  where
    one : (r p : ℕ) → put (row_shown m s row place).register row place on r p ≡ (row_shown m s row (place + 1)).register r p
    one r p =
        let there : r ≡ row → p ≡ place → s r p ≡ on = λ (e : r ≡ row) (f : p ≡ place). (λ i. s (e i) (f i)) ∙ sym is in
        grind (arith, nat_tests)

-- one row more
pub rows_more : (m : Meaning) (row : ℕ) → row_shown (rows_out m row) none row (m.reach row) ≡ rows_out m (row + 1)
rows_more m row = λ i. with_register m (λ r p. one r p i) where
  one : (r p : ℕ) → (row_shown (rows_out m row) none row (m.reach row)).register r p ≡ (rows_out m (row + 1)).register r p
  one r p = let e : r ≡ row → m.reach r ≡ m.reach row = λ e. ap m.reach e in grind (arith, nat_tests)

-- a call after a walk that has come so far
pub stepped : {C : Type 0} (meaning : C → Meaning) (settled : C → Type 0) {from here next : C} {x y : Meaning} (f : Meaning → Meaning) → Becomes meaning settled from here x → Becomes meaning settled here next (f (meaning here)) → f x ≡ y → Becomes meaning settled from next y
stepped meaning settled f walked called is start =
    let at = walked start in
    let then = called at.0 in
    (then.0, then.1 ∙ ap f at.1 ∙ is)

-- The laws of the number of places at which two sets differ. Assumes nothing.
use Rattle.std.proofs.Common.{◌≡◌, ℕ, ◌+◌, ◌<◌, Bool, true, false, cond, not, ◌&&◌, refl, ap, ◌∙◌, arith}
use Rattle.std.proofs.lemmas.Bool.Decides.{nat_tests}
use Rattle.chest.specs.Places.{Places, put, differ, total, size, changed, started, stopped, Counting}
use Rattle.chest.proofs.Totals.{total_ext, total-zero, total-sum, total-one}

-- two sets that agree on the chest's places have one size
pub size-ext : (s t : Places) → ((r p : ℕ) → r < 16 → p < 128 → s r p ≡ t r p) → size s ≡ size t
size-ext s t e =
    total_ext 16 (λ r. total 128 (λ p. cond (s r p) 1 0)) (λ r. total 128 (λ p. cond (t r p) 1 0)) (λ r hr.
    total_ext 128 (λ p. cond (s r p) 1 0) (λ p. cond (t r p) 1 0) (λ p hp. ap (λ b. cond b 1 0) (e r p hr hp)))

size_none : (s : Places) → ((r p : ℕ) → s r p ≡ false) → size s ≡ 0
size_none s e =
    total-zero 16 (λ r. total 128 (λ p. cond (s r p) 1 0)) (λ r hr.
    total-zero 128 (λ p. cond (s r p) 1 0) (λ p hp. ap (λ b. cond b 1 0) (e r p)))

differ_same : (b : Bool) → differ b b ≡ false
differ_same true = refl
differ_same false = refl

differ-either : (a b : Bool) → differ a b ≡ differ b a
differ-either true true = refl
differ-either true false = refl
differ-either false true = refl
differ-either false false = refl

differ-split : (a b : Bool) → cond (differ a b) 1 0 ≡ cond (not a && b) 1 0 + cond (a && not b) 1 0
differ-split true true = refl
differ-split true false = refl
differ-split false true = refl
differ-split false false = refl

pub changed-same : (s : Places) → changed s s ≡ 0
changed-same s = size_none (λ r p. differ (s r p) (s r p)) (λ r p. differ_same (s r p))

changed-either : (s t : Places) → changed s t ≡ changed t s
changed-either s t =
    size-ext (λ r p. differ (s r p) (t r p)) (λ r p. differ (t r p) (s r p)) (λ r p hr hp. differ-either (s r p) (t r p))

changed-split : (s t : Places) → changed s t ≡ started s t + stopped s t
changed-split s t =
    total_ext 16 (λ r. total 128 (λ p. cond (differ (s r p) (t r p)) 1 0)) (λ r. row r) (λ r hr.
    total_ext 128 (λ p. cond (differ (s r p) (t r p)) 1 0) (λ p. on r p + off r p) (λ p hp. differ-split (s r p) (t r p))
    ∙ total-sum 128 (on r) (off r))
    ∙ total-sum 16 (λ r. total 128 (on r)) (λ r. total 128 (off r))
  where
    on : ℕ → ℕ → ℕ
    on r p = cond (not (s r p) && t r p) 1 0

    off : ℕ → ℕ → ℕ
    off r p = cond (s r p && not (t r p)) 1 0

    row : ℕ → ℕ
    row r = total 128 (on r) + total 128 (off r)

-- one place put: the others stand
put_other : (s : Places) (row place : ℕ) (on : Bool) (r p : ℕ) → ((r ≡ row) × (p ≡ place) → ⊥) → differ (s r p) (put s row place on r p) ≡ false
put_other s row place on r p ne = let same = differ_same (s r p) in grind (arith, nat_tests)

put-there : (s : Places) (row place : ℕ) (on : Bool) → put s row place on row place ≡ on
put-there s row place on = grind (arith, nat_tests)

changed-put : (s : Places) (row place : ℕ) (on : Bool) → row < 16 → place < 128 → changed s (put s row place on) ≡ cond (differ (s row place) on) 1 0
changed-put s row place on hr hp =
    total-one 16 row (λ r. total 128 (λ p. D r p)) hr (λ r h ne.
    total-zero 128 (D r) (λ p q. ap (λ b. cond b 1 0) (put_other s row place on r p (λ e. ne e.0))))
    ∙ total-one 128 place (D row) hp (λ p h ne. ap (λ b. cond b 1 0) (put_other s row place on row p (λ e. ne e.1)))
    ∙ ap (λ b. cond (differ (s row place) b) 1 0) (put-there s row place on)
  where
    D : ℕ → ℕ → ℕ
    D r p = cond (differ (s r p) (put s row place on r p)) 1 0

pub counting : Counting
counting = record { still = changed-same; either = changed-either; split = changed-split; one = changed-put }

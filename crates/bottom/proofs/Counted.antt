-- The number of places at which two sets differ, as one place of the second is put. Assumes nothing.
use Rattle.std.proofs.Common.{◌≡◌, ℕ, ◌+◌, ◌<◌, ◌≤◌, Bool, true, false, cond, ◌∙◌, sym, ap, arith}
use Rattle.std.specs.Bool.{beq}
use Rattle.std.proofs.lemmas.Bool.Decides.{nat_tests}
use Rattle.chest.specs.Places.{Places, put, differ, total, changed}
use Rattle.chest.proofs.Counts.{counting}
use Rattle.chest.proofs.Totals.{total_ext, total-sum, total-le}

-- whether two sets differ at a place, as a number
abbrev apart : Places → Places → ℕ → ℕ → ℕ
apart s t r p = cond (differ (s r p) (t r p)) 1 0

-- a chest has 2048 places
pub changed-le : (s t : Places) → changed s t ≤ 2048
changed-le s t =
    total-le 16 128 (λ r. total 128 (apart s t r)) (λ r hr. total-le 128 1 (apart s t r) (λ p hp. grind (arith, nat_tests)))

-- from one set to another by a third that lies between them
between : (s t u : Places) → ((r p : ℕ) → apart s u r p ≡ apart s t r p + apart t u r p) → changed s u ≡ changed s t + changed t u
between s t u each =
    total_ext 16 (λ r. total 128 (apart s u r)) (λ r. total 128 (apart s t r) + total 128 (apart t u r)) (λ r hr.
    total_ext 128 (apart s u r) (λ p. apart s t r p + apart t u r p) (λ p hp. each r p) ∙ total-sum 128 (apart s t r) (apart t u r))
    ∙ total-sum 16 (λ r. total 128 (apart s t r)) (λ r. total 128 (apart t u r))

-- one that is toggled makes one fewer or one more
module _ (s t u : Places) (row place : ℕ) (on was speaks : Bool) (hr : row < 16) (hp : place < 128) (stood : was ≡ t row place) (toggled : beq was on ≡ false) (puts : u ≡ put t row place on) (told : speaks ≡ s row place) where
  there : (r p : ℕ) → r ≡ row → p ≡ place → (speaks ≡ s r p) × (was ≡ t r p)
  there r p er ep = (told ∙ (λ i. s (sym er i) (sym ep i)), stood ∙ (λ i. t (sym er i) (sym ep i)))

  after : (r p : ℕ) → u r p ≡ put t row place on r p
  after r p = ap (λ (f : Places). f r p) puts

  moved : changed t u ≡ 1
  moved = ap (changed t) puts ∙ counting.one t row place on hr hp ∙ grind (arith, nat_tests)

  pub one-less : beq speaks on ≡ true → changed s t ≡ changed s u + 1
  one-less same =
      let way = between s u t (λ r p. grind (arith, nat_tests, there r p, after r p)) in
      omega (arith, moved, counting.either t u)

  pub one-more : beq speaks on ≡ false → changed s u ≡ changed s t + 1
  one-more other =
      let way = between s t u (λ r p. grind (arith, nat_tests, there r p, after r p)) in
      omega (arith, moved)

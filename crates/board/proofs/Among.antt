-- Which wires of a list do something. Assumes nothing.
use Rattle.std.proofs.Common.{◌≡◌, ℕ, zero, suc, ◌<◌, ◌≤◌, Bool, true, false, cond, ◌&&◌, eqb, List, [], ◌∷◌, ◌++◌, length, get_or, Some, refl, sym, ap, ◌∙◌, ⊎_elim, arith}
use Rattle.std.proofs.lemmas.List.{get_or-map}
use Rattle.std.proofs.lemmas.Bool.{cases_lt, false≢true}
use Rattle.std.proofs.lemmas.Bool.Decides.{nat_tests}
use Rattle.sets.specs.Numbers.{Numbers, PopsFirst}
use Rattle.wires.specs.declared.lead.Lead.{Lead}
use Rattle.board.specs.Among.{among, blank}

pub among_at : (f : Lead → Bool) (ws : List Lead) (i : ℕ) (d : Lead) → i < length ws → among f ws i ≡ f (get_or ws i d)
among_at f ws i d l = get_or-map f ws i d false l

pub among_past : (f : Lead → Bool) (ws : List Lead) (i : ℕ) → length ws ≤ i → among f ws i ≡ false
among_past f [] i l = refl
among_past f (w ∷ ws) zero l = absurd (omega arith)
among_past f (w ∷ ws) (suc i) l = among_past f ws i (omega arith)

pub among_in : (f : Lead → Bool) (ws : List Lead) (i : ℕ) → among f ws i ≡ true → (i < length ws) × (f (get_or ws i blank) ≡ true)
among_in f ws i is =
    ⊎_elim
    (λ (l : i < length ws). (l, sym (among_at f ws i blank l) ∙ is))
    (λ (l : length ws ≤ i). absurd (false≢true (sym (among_past f ws i l) ∙ is)))
    (cases_lt i (length ws))

pub among_push : (f : Lead → Bool) (ws : List Lead) (w : Lead) (i : ℕ) → among f (ws ++ w ∷ []) i ≡ cond (eqb i (length ws)) (f w) (among f ws i)
among_push f [] w zero = refl
among_push f [] w (suc i) = grind (arith, nat_tests)
among_push f (v ∷ ws) w zero = grind (arith, nat_tests)
among_push f (v ∷ ws) w (suc i) = let rest = among_push f ws w i in grind (arith, nat_tests)

pub among_both : (f g : Lead → Bool) (ws : List Lead) (i : ℕ) → (among f ws i && among g ws i) ≡ among (λ w. f w && g w) ws i
among_both f g [] i = refl
among_both f g (w ∷ ws) zero = refl
among_both f g (w ∷ ws) (suc i) = among_both f g ws i

-- what is left of a set was in it
pub still_in : (s t : Numbers) (k : ℕ) → PopsFirst s t (Some k) → (i : ℕ) → t i ≡ true → s i ≡ true
still_in s t k pops i is = by (eqb i k) (sym (ap (λ x. x i) pops.2) ∙ is) where
  by : (c : Bool) → cond c false (s i) ≡ true → s i ≡ true
  by true e = absurd (false≢true e)
  by false e = e

-- of a wire that is not among those of a set nothing is true
pub left_out : (f : Lead → Bool) (ws : List Lead) (s : Numbers) → s ≡ among f ws → (i : ℕ) (d : Lead) → i < length ws → s i ≡ false → f (get_or ws i d) ≡ false
left_out f ws s is i d l out = sym (among_at f ws i d l) ∙ sym (ap (λ x. x i) is) ∙ out

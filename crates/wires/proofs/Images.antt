-- The image of a register: it holds the places to which the number of ways is above 0. Assumes nothing.
use Rattle.std.specs.Prelude.{◌≡◌, ℕ, zero, suc, ◌+◌, Bool, true, false, cond, ◌&&◌, ◌||◌, ltb, List, [], ◌∷◌, ◌++◌, nat_lt, refl}
use Rattle.std.proofs.Common.{sym, ap, ◌∙◌, arith}
use Rattle.std.proofs.lemmas.List.Sums.{sum_by-cons, sum_by_push}
use Rattle.std.proofs.lemmas.Bool.Decides.{nat_tests}
use Rattle.chest.specs.Places.{Places, none}
use Rattle.chest.specs.Meaning.{Panel}
use Rattle.chest.proofs.Totals.{total-zero}
use Rattle.wires.specs.declared.lead.Lead.{Lead}
use Rattle.coupling.specs.Some.{some}
use Rattle.coupling.specs.Layout.{Reaches}
use Rattle.wires.specs.Wires.{live, way, some_wire, image, span, through, ways_to}
use Rattle.wires.specs.Wired.{image_with}
use Rattle.wires.proofs.Sums.{some-total}

either-above : (x y : Bool) (m n : ℕ) → x ≡ nat_lt 0 m → y ≡ nat_lt 0 n → (x || y) ≡ nat_lt 0 (m + n)
either-above x y m n e f = grind (arith, nat_tests)

through-above : (reach : Reaches) (panel : Panel) (s : Places) (b q : ℕ) (w : Lead) → (live panel w && some (w.highest + 1) (way reach s w b q)) ≡ nat_lt 0 (through reach panel s b q w)
unfolding span
through-above reach panel s b q w = by (live panel w) (some (w.highest + 1) (way reach s w b q)) _ (some-total (w.highest + 1) (way reach s w b q)) where
  by : (c x : Bool) (n : ℕ) → x ≡ nat_lt 0 n → (c && x) ≡ nat_lt 0 (cond c n 0)
  by true x n e = e
  by false x n e = refl

pub image-ways : (reach : Reaches) (ws : List Lead) (panel : Panel) (s : Places) (b q : ℕ) → image reach ws panel s b q ≡ nat_lt 0 (ways_to reach ws panel s b q)
unfolding image some_wire
image-ways reach [] panel s b q = refl
image-ways reach (w ∷ ws) panel s b q =
    either-above _ _ (through reach panel s b q w) (ways_to reach ws panel s b q) (through-above reach panel s b q w) (image-ways reach ws panel s b q)
    ∙ ap (ltb 0) (sym (sum_by-cons (through reach panel s b q) w ws))

-- no way through a wire, or through any, that leads there from no set key
through-none : (reach : Reaches) (panel : Panel) (s : Places) (b q : ℕ) (w : Lead) → ((k : ℕ) → way reach s w b q k ≡ false) → through reach panel s b q w ≡ 0
unfolding span
through-none reach panel s b q w none =
    ap (λ n. cond (live panel w) n 0) (total-zero (w.highest + 1) (λ k. cond (way reach s w b q k) 1 0) (λ k h. ap (λ x. cond x 1 0) (none k))) ∙ by (live panel w) where
      by : (c : Bool) → ◌≡◌ {A = ℕ} (cond c 0 0) 0
      by true = refl
      by false = refl

pub ways_none : (reach : Reaches) (ws : List Lead) (panel : Panel) (s : Places) (b q : ℕ) → ((w : Lead) (k : ℕ) → way reach s w b q k ≡ false) → ways_to reach ws panel s b q ≡ 0
ways_none reach [] panel s b q none = refl
ways_none reach (w ∷ ws) panel s b q none =
    omega (arith, sum_by-cons (through reach panel s b q) w ws, through-none reach panel s b q w (none w), ways_none reach ws panel s b q none)

-- so where no key is set
no-way : (reach : Reaches) (s : Places) (b q : ℕ) → ((r p : ℕ) → s r p ≡ false) → (w : Lead) (k : ℕ) → way reach s w b q k ≡ false
no-way reach s b q free w k = let up = free w.from k in grind (arith, nat_tests)

pub ways_push_free : (reach : Reaches) (ws : List Lead) (w : Lead) (panel : Panel) (s : Places) (b q : ℕ) → ((r p : ℕ) → s r p ≡ false) → ways_to reach (ws ++ w ∷ []) panel s b q ≡ ways_to reach ws panel s b q
ways_push_free reach ws w panel s b q free =
    omega (arith, sum_by_push (through reach panel s b q) ws w, through-none reach panel s b q w (no-way reach s b q free w))

pub ways_free : (reach : Reaches) (ws : List Lead) (panel : Panel) (s : Places) (b q : ℕ) → ((r p : ℕ) → s r p ≡ false) → ways_to reach ws panel s b q ≡ 0
ways_free reach ws panel s b q free = ways_none reach ws panel s b q (no-way reach s b q free)

-- the image of no keys is empty
never : (n : ℕ) (f : ℕ → Bool) → ((k : ℕ) → f k ≡ false) → some n f ≡ false
unfolding some
never zero f e = refl
never (suc n) f e = ap (λ x. x || f n) (never n f e) ∙ e n

image_of_none : (reach : Reaches) (ws : List Lead) (panel : Panel) (b q : ℕ) → image reach ws panel none b q ≡ false
unfolding image some_wire
image_of_none reach [] panel b q = refl
image_of_none reach (w ∷ ws) panel b q =
    by (live panel w) _ _ (never (w.highest + 1) (way reach none w b q) (λ k. refl)) (image_of_none reach ws panel b q)
  where
    by : (c x y : Bool) → x ≡ false → y ≡ false → (c && x || y) ≡ false
    by true x y e f = ap (λ z. z || y) e ∙ f
    by false x y e f = f

pub wires_silent : (ws : List Lead) (reach : Reaches) (panel : Panel) → image_with ws reach panel none ≡ none
wires_silent ws reach panel = λ i b q. image_of_none reach ws panel b q i

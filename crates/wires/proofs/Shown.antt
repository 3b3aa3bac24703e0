-- The laws of the image. Assumes nothing.
use Rattle.std.proofs.Common.{◌≡◌, ℕ, zero, suc, ◌+◌, ◌<◌, Bool, true, false, ◌&&◌, ◌||◌, eqb, ltb, leb, List, [], ◌∷◌, ◌++◌, length, ℤ, pos, negsuc, ◌+ℤ◌, ◌-ℤ◌, Decides, IfSome, Some, None, Option, sym, refl, ap, ◌∙◌, ⊎_elim, arith}
use Rattle.std.specs.List.{HoldsAt}
use Rattle.std.proofs.lemmas.Int.{ints}
use Rattle.std.proofs.lemmas.Bool.{and_parts, and_from, or_cases, leb-true, le-leb, eqb-true, eq-eqb, ltb-true, lt-ltb}
use Rattle.std.proofs.lemmas.Bool.Decides.{nat_tests, Decides-by_or}
use Rattle.chest.specs.Places.{Places}
use Rattle.chest.specs.Meaning.{Panel}
use Rattle.wires.specs.declared.lead.Lead.{Lead}
use Rattle.wires.specs.declared.lead.Wait.{Wait}
use Rattle.coupling.specs.Some.{some}
use Rattle.coupling.specs.Layout.{Reaches}
use Rattle.coupling.proofs.Some.{some-found}
use Rattle.wires.specs.Wires.{live, stands, landing, is_at, leads, way, some_wire, image, through}
use Rattle.wires.specs.Fitting.{in_range, raised}
use Rattle.wires.specs.Laws.{Reached, either, ImageLaw}
use Rattle.wires.proofs.Sums.{sum-le}
use Rattle.wires.proofs.Ways.{landing_is, through-one}
use Rattle.wires.proofs.Images.{image-ways, wires_silent}

-- a number that passes
pub some-tells : (n : ℕ) (f : ℕ → Bool) → some n f ≡ true → (k : ℕ) × (k < n) × (f k ≡ true)
unfolding some
some-tells zero f h = absurd (let z : ◌≡◌ {A = ℕ} 0 1 = cc in omega arith)
some-tells (suc n) f h =
    ⊎_elim (λ e. let rest = some-tells n f e in (rest.0, omega (arith, rest.1), rest.2)) (λ e. (n, omega arith, e)) (or_cases (some n f) (f n) h)

shift_is : (raise key q : ℕ) → key + raise ≡ q + 96 → pos q ≡ pos key +ℤ (pos raise -ℤ pos 96)
shift_is raise key q e = omega (arith, ints)

shift_back : (raise key q : ℕ) → pos q ≡ pos key +ℤ (pos raise -ℤ pos 96) → key + raise ≡ q + 96
shift_back raise key q e = omega (arith, ints)

module _ (reach : Reaches) (panel : Panel) (s : Places) (b q : ℕ) (w : Lead) where
  live-tells : (c : Option Wait) → stands panel c ≡ true → IfSome c (λ t. panel t.knob ≡ t.position)
  live-tells None e = tt
  live-tells (Some t) e = eqb-true (panel t.knob) t.position e

  live-from : (c : Option Wait) → IfSome c (λ t. panel t.knob ≡ t.position) → stands panel c ≡ true
  live-from None e = refl
  live-from (Some t) e = eq-eqb (panel t.knob) t.position e

  -- one wire leads there exactly if it has a way there
  reached : (live panel w && some (w.highest + 1) (way reach s w b q)) ≡ true → Reached reach panel s b q w
  reached e =
      let parts = and_parts (live panel w) _ e in
      let found = some-tells (w.highest + 1) (way reach s w b q) parts.1 in
      let key = found.0 in
      let held = and_parts (s w.from key) _ found.2 in
      let led = and_parts (leb w.lowest key && leb key w.highest) _ held.1 in
      let range = and_parts (leb w.lowest key) (leb key w.highest) led.0 in
      let there = and_parts (eqb b w.to) (is_at (landing w.raise (reach w.to) key) q) led.1 in
      let lands = and_parts (eqb (key + w.raise) (q + 96)) (ltb q (reach w.to)) (sym (landing_is w.raise (reach w.to) key q) ∙ there.1) in
      let row = eqb-true b w.to there.0 in
      record {
        key = key;
        live = live-tells w.setting parts.0;
        row = sym row;
        held = held.0;
        low = leb-true w.lowest key range.0;
        high = leb-true key w.highest range.1;
        shifted = shift_is w.raise key q (eqb-true (key + w.raise) (q + 96) lands.0);
        below = omega (arith, ltb-true q (reach w.to) lands.1, ap reach row);
      }

  reaches : Reached reach panel s b q w → (live panel w && some (w.highest + 1) (way reach s w b q)) ≡ true
  reaches p =
      let key = p.key in
      let lands : is_at (landing w.raise (reach w.to) key) q ≡ true = landing_is w.raise (reach w.to) key q ∙ and_from _ _ (eq-eqb (key + w.raise) (q + 96) (shift_back w.raise key q p.shifted)) (lt-ltb q (reach w.to) (omega (arith, p.below, ap reach p.row))) in
      let led : leads reach w b q key ≡ true = and_from _ _ (and_from _ _ (le-leb w.lowest key p.low) (le-leb key w.highest p.high)) (and_from _ _ (eq-eqb b w.to (sym p.row)) lands) in
      and_from (live panel w) _ (live-from w.setting p.live) (some-found (w.highest + 1) key (way reach s w b q) (omega (arith, p.high)) (and_from (s w.from key) _ p.held led))

pub image-exact : (reach : Reaches) (ws : List Lead) (panel : Panel) (s : Places) (b q : ℕ) → Decides (image reach ws panel s b q) ((i : ℕ) × (i < length ws) × HoldsAt (Reached reach panel s b q) ws i)
unfolding image some_wire
image-exact reach ws panel s b q =
    Decides-by_or (λ w. live panel w && some (w.highest + 1) (way reach s w b q)) (Reached reach panel s b q) (some_wire (λ w. live panel w && some (w.highest + 1) (way reach s w b q))) (λ w. (reached reach panel s b q w, reaches reach panel s b q w)) refl (λ _ _. refl) ws

-- more keys, more ways
grown : (reach : Reaches) (ws : List Lead) (panel : Panel) (s t : Places) → ((r p : ℕ) → s r p ≡ true → t r p ≡ true) → (b q : ℕ) → image reach ws panel s b q ≡ true → image reach ws panel t b q ≡ true
grown reach ws panel s t more b q e =
    let there = (image-exact reach ws panel s b q).0 e in
    (image-exact reach ws panel t b q).1 (
      there.0,
      there.1,
      λ d.
          let p = there.2 d in
          record { key = p.key; live = p.live; row = p.row; held = more _ _ p.held; low = p.low; high = p.high; shifted = p.shifted; below = p.below },
    )

-- two tests joined, over numbers and over wires
split : (a b c d : Bool) → ((a || b) || (c || d)) ≡ ((a || c) || (b || d))
split true b c d = refl
split false true true d = refl
split false true false d = refl
split false false c d = refl

some-either : (n : ℕ) (f g : ℕ → Bool) → some n (λ k. f k || g k) ≡ (some n f || some n g)
unfolding some
some-either zero f g = refl
some-either (suc n) f g =
    ap (λ x. x || (f n || g n)) (some-either n f g) ∙ split (some n f) (some n g) (f n) (g n)

some_wire-either : (f g : Lead → Bool) (ws : List Lead) → some_wire (λ w. f w || g w) ws ≡ (some_wire f ws || some_wire g ws)
unfolding some_wire
some_wire-either f g [] = refl
some_wire-either f g (w ∷ ws) =
    ap (λ x. (f w || g w) || x) (some_wire-either f g ws) ∙ split (f w) (g w) (some_wire f ws) (some_wire g ws)

some_wire-append : (f : Lead → Bool) (vs ws : List Lead) → some_wire f (vs ++ ws) ≡ (some_wire f vs || some_wire f ws)
unfolding some_wire
some_wire-append f [] ws = refl
some_wire-append f (v ∷ vs) ws = ap (λ x. f v || x) (some_wire-append f vs ws) ∙ by (f v) where
  by : (x : Bool) → (x || (some_wire f vs || some_wire f ws)) ≡ ((x || some_wire f vs) || some_wire f ws)
  by true = refl
  by false = refl

-- a test that wires pass alike
some_wire-as : (f g : Lead → Bool) → ((w : Lead) → f w ≡ g w) → (ws : List Lead) → some_wire f ws ≡ some_wire g ws
some_wire-as f g same ws = ap (λ (h : Lead → Bool). some_wire h ws) (λ i w. same w i)

both-keys : (reach : Reaches) (panel : Panel) (s t : Places) (b q : ℕ) (w : Lead) → (live panel w && some (w.highest + 1) (way reach (either s t) w b q)) ≡ ((live panel w && some (w.highest + 1) (way reach s w b q)) || (live panel w && some (w.highest + 1) (way reach t w b q)))
both-keys reach panel s t b q w =
    ap (λ x. live panel w && x) (ap (some (w.highest + 1)) (λ i k. apart (s w.from k) (t w.from k) (leads reach w b q k) i) ∙ some-either (w.highest + 1) (way reach s w b q) (way reach t w b q))
    ∙ by (live panel w) _ _
  where
    apart : (x y z : Bool) → ((x || y) && z) ≡ ((x && z) || (y && z))
    apart true y true = refl
    apart true y false = grind (arith, nat_tests)
    apart false y z = refl

    by : (c x y : Bool) → (c && (x || y)) ≡ ((c && x) || (c && y))
    by true x y = refl
    by false x y = refl

keys_joined : (reach : Reaches) (ws : List Lead) (panel : Panel) (s t : Places) → image reach ws panel (either s t) ≡ either (image reach ws panel s) (image reach ws panel t)
unfolding image
keys_joined reach ws panel s t = λ i b q. (some_wire-as _ _ (both-keys reach panel s t b q) ws ∙ some_wire-either (λ w. live panel w && some (w.highest + 1) (way reach s w b q)) (λ w. live panel w && some (w.highest + 1) (way reach t w b q)) ws) i

wires-joined : (reach : Reaches) (vs ws : List Lead) (panel : Panel) (s : Places) → image reach (vs ++ ws) panel s ≡ either (image reach vs panel s) (image reach ws panel s)
unfolding image
wires-joined reach vs ws panel s =
    λ i b q. some_wire-append (λ w. live panel w && some (w.highest + 1) (way reach s w b q)) vs ws i

-- a shift that is raised and lowered again
shift_kept : (z : ℤ) → in_range z ≡ true → pos (raised z) -ℤ pos 96 ≡ z
shift_kept (pos n) e = omega (arith, ints)
shift_kept (negsuc n) e = let few = ltb-true n 96 e in omega (arith, ints)

pub image-law : ImageLaw
image-law =
    record {
      exact = image-exact;
      shift = λ w e. shift_kept w.shift e;
      silent = λ reach ws panel. wires_silent ws reach panel;
      keys = keys_joined;
      grows = grown;
      wires = wires-joined;
      counted = image-ways;
      few = λ reach ws panel s b q. sum-le (through reach panel s b q) (through-one reach panel s b q) ws;
    }

-- The number of ways through a wire. Assumes nothing.
use Rattle.std.specs.Prelude.{◌≡◌, ℕ, ◌+◌, ◌-◌, ◌<◌, ◌≤◌, Bool, true, false, cond, ◌&&◌, Some, None, Option, ◌==◌, nat_eq, nat_le, nat_lt, refl}
use Rattle.std.proofs.Common.{sym, ap, ◌∙◌, arith}
use Rattle.std.specs.Option.{option_map}
use Rattle.std.proofs.lemmas.Bool.{cond_both}
use Rattle.std.proofs.lemmas.Bool.Decides.{nat_tests}
use Rattle.chest.specs.Places.{Places, total, put}
use Rattle.chest.proofs.Totals.{total_ext}
use Rattle.chest.specs.Meaning.{Panel}
use Rattle.wires.specs.declared.lead.Lead.{Lead}
use Rattle.coupling.specs.Layout.{Reaches}
use Rattle.wires.specs.Wires.{live, landing, is_at, leads, way, span, through, outlet, meets}
use Rattle.wires.proofs.Sums.{total-change, total-once, total-past}

-- a key lands at place q if key + shift is q, and q below the reach
pub landing_is : (raise reach key q : ℕ) → is_at (landing raise reach key) q ≡ (key + raise == q + 96 && nat_lt q reach)
unfolding landing
landing_is raise reach key q =
    cond_both (nat_le 96 (key + raise) && nat_lt (key + raise - 96) reach) (Some (key + raise - 96)) None (λ o. is_at o q ≡ (key + raise == q + 96 && nat_lt q reach)) (λ e. grind (arith, nat_tests)) (λ e. grind (arith, nat_tests))

-- no two keys of a wire land at one place
way_at : (reach : Reaches) (s : Places) (w : Lead) (b q key : ℕ) → 0 < cond (way reach s w b q key) 1 0 → key + w.raise ≡ q + 96
way_at reach s w b q key h = let lands = landing_is w.raise (reach w.to) key q in grind (arith, nat_tests)

span-one : (reach : Reaches) (s : Places) (b q : ℕ) (w : Lead) → span reach s b q w ≤ 1
unfolding span
span-one reach s b q w =
    total-once (w.highest + 1) (λ key. cond (way reach s w b q key) 1 0) (λ j. grind (arith, nat_tests)) (λ j k hj hk. omega (arith, way_at reach s w b q j hj, way_at reach s w b q k hk))

pub through-one : (reach : Reaches) (panel : Panel) (s : Places) (b q : ℕ) (w : Lead) → through reach panel s b q w ≤ 1
through-one reach panel s b q w = let one = span-one reach s b q w in grind (arith, nat_tests)

-- a place that a key lands at is below the reach
pub landing-below : (raise reach key q : ℕ) → landing raise reach key ≡ Some q → q < reach
landing-below raise reach key q e =
    let at = landing_is raise reach key q in
    let is : is_at (landing raise reach key) q ≡ nat_eq q q = ap (λ o. is_at o q) e in
    grind (arith, nat_tests)

-- which place an outlet meets
outlet-is : (reach : Reaches) (panel : Panel) (w : Lead) (row key b q : ℕ) → meets (outlet reach panel w row key) b q ≡ ((live panel w && (row == w.from && (nat_le w.lowest key && nat_le key w.highest))) && (b == w.to && is_at (landing w.raise (reach w.to) key) q))
outlet-is reach panel w row key b q = by (live panel w && (row == w.from && (nat_le w.lowest key && nat_le key w.highest))) (landing w.raise (reach w.to) key) where
  by : (c : Bool) (o : Option ℕ) → meets (cond c (option_map (λ x. (w.to, x)) o) None) b q ≡ (c && (b == w.to && is_at o q))
  by true None = grind (arith, nat_tests)
  by true (Some x) = refl
  by false o = refl

pub outlet-below : (reach : Reaches) (panel : Panel) (w : Lead) (row key : ℕ) (t : ℕ × ℕ) → outlet reach panel w row key ≡ Some t → t.1 < reach t.0
outlet-below reach panel w row key t e = by (live panel w && (row == w.from && (nat_le w.lowest key && nat_le key w.highest))) (landing w.raise (reach w.to) key) refl e where
  by : (c : Bool) (o : Option ℕ) → landing w.raise (reach w.to) key ≡ o → cond c (option_map (λ x. (w.to, x)) o) None ≡ Some t → t.1 < reach t.0
  by true None h e = let z : ◌≡◌ {A = ℕ} 0 1 = cc in omega arith
  by true (Some x) h e =
      let low = landing-below w.raise (reach w.to) key x h in
      let row_is : w.to ≡ t.0 = cc in
      let place_is : x ≡ t.1 = cc in
      let there = ap reach row_is in
      omega arith
  by false o h e = let z : ◌≡◌ {A = ℕ} 0 1 = cc in omega arith

-- a key put on or off gives or takes the one way that it is
span-put : (reach : Reaches) (s : Places) (row key : ℕ) (on : Bool) (b q : ℕ) (w : Lead) → span reach (put s row key on) b q w + cond ((row == w.from && nat_le key w.highest) && (leads reach w b q key && s row key)) 1 0 ≡ span reach s b q w + cond ((row == w.from && nat_le key w.highest) && (leads reach w b q key && on)) 1 0
unfolding span
span-put reach s row key on b q w =
    let change = total-change (w.highest + 1) key (λ j. cond (way reach (put s row key on) w b q j) 1 0) (λ j. cond (way reach s w b q j) 1 0) (λ j ne. grind (arith, nat_tests)) in
    grind (arith, nat_tests)

pub through-put : (reach : Reaches) (panel : Panel) (s : Places) (row key : ℕ) (on : Bool) (b q : ℕ) (w : Lead) → through reach panel (put s row key on) b q w + cond (meets (outlet reach panel w row key) b q && s row key) 1 0 ≡ through reach panel s b q w + cond (meets (outlet reach panel w row key) b q && on) 1 0
through-put reach panel s row key on b q w =
    let one = span-put reach s row key on b q w in
    let at = outlet-is reach panel w row key b q in
    grind (arith, nat_tests)

-- the ways of a wire, by the keys of its row
pub span-keys : (reach : Reaches) (s : Places) (b q : ℕ) (w : Lead) → ((k : ℕ) → 128 ≤ k → s w.from k ≡ false) → span reach s b q w ≡ total 128 (λ k. cond (s w.from k) (cond (leads reach w b q k) 1 0) 0)
unfolding span
span-keys reach s b q w past =
    sym (total-past (w.highest + 1) (w.highest + 1 + 128) f (omega arith) high) ∙ total-past 128 (w.highest + 1 + 128) f (omega arith) (λ k l. none (leads reach w b q k) (s w.from k) (past k l)) ∙ total_ext 128 f g (λ k l. by (s w.from k) (leads reach w b q k))
  where
    f : ℕ → ℕ
    f k = cond (way reach s w b q k) 1 0

    g : ℕ → ℕ
    g k = cond (s w.from k) (cond (leads reach w b q k) 1 0) 0

    high : (k : ℕ) → w.highest + 1 ≤ k → f k ≡ 0
    high k l = grind (arith, nat_tests)

    none : (d c : Bool) → c ≡ false → ◌≡◌ {A = ℕ} (cond (c && d) 1 0) 0
    none d c e = grind (arith, nat_tests)

    by : (c d : Bool) → ◌≡◌ {A = ℕ} (cond (c && d) 1 0) (cond c (cond d 1 0) 0)
    by true d = refl
    by false d = refl

-- a key leads to the place where it lands, if it is one of the wire's
pub leads-is : (reach : Reaches) (w : Lead) (key b q : ℕ) (o : Option ℕ) → cond (nat_le w.lowest key && nat_le key w.highest) (landing w.raise (reach w.to) key) None ≡ o → leads reach w b q key ≡ (b == w.to && is_at o q)
leads-is reach w key b q o e =
    by (nat_le w.lowest key && nat_le key w.highest) (landing w.raise (reach w.to) key) ∙ ap (λ x. (b == w.to) && is_at x q) e
  where
    by : (c : Bool) (x : Option ℕ) → (c && (b == w.to && is_at x q)) ≡ (b == w.to && is_at (cond c x None) q)
    by true x = refl
    by false x = grind (arith, nat_tests)

pub lands-below : (reach : Reaches) (w : Lead) (key q : ℕ) → cond (nat_le w.lowest key && nat_le key w.highest) (landing w.raise (reach w.to) key) None ≡ Some q → q < reach w.to
lands-below reach w key q e = by (nat_le w.lowest key && nat_le key w.highest) e where
  by : (c : Bool) → cond c (landing w.raise (reach w.to) key) None ≡ Some q → q < reach w.to
  by true h = landing-below w.raise (reach w.to) key q h
  by false h = let z : ◌≡◌ {A = ℕ} 0 1 = cc in omega arith

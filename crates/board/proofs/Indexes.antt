-- The tables of wires by key and by knob. Assumes nothing.
use Rattle.std.proofs.Common.{◌≡◌, ℕ, ◌+◌, ◌-◌, ◌<◌, ◌≤◌, Bool, true, false, cond, ◌&&◌, eqb, ltb, ◌≢◌, Some, None, Option, is_some, nat_le, refl, ap, ◌∙◌, ⊎_elim, arith}
use Rattle.std.specs.Option.{option_map}
use Rattle.std.proofs.lemmas.Bool.{cases_eq, false≢true, leb-true, ltb-true}
use Rattle.std.proofs.lemmas.Bool.Decides.{nat_tests}
use Rattle.wires.specs.declared.lead.Lead.{Lead}
use Rattle.chest.specs.Meaning.{Panel, knob_to}
use Rattle.coupling.specs.Layout.{Reaches}
use Rattle.wires.specs.Wires.{live, stands, landing, outlet}
use Rattle.wires.specs.declared.lead.Wait.{Wait}
use Rattle.board.specs.Among.{leads_from, lands, waits, waits_for}

-- a key lands somewhere
pub lands_is : (reach : Reaches) (w : Lead) (key : ℕ) → is_some (cond (nat_le w.lowest key && nat_le key w.highest) (landing w.raise (reach w.to) key) None) ≡ lands reach key w
lands_is reach w key = by (nat_le w.lowest key && nat_le key w.highest) (landing w.raise (reach w.to) key) where
  by : (c : Bool) (o : Option ℕ) → is_some (cond c o None) ≡ (c && is_some o)
  by true o = refl
  by false o = refl

pub is_some_map : {X Y : Type 0} (f : X → Y) (o : Option X) → is_some (option_map f o) ≡ is_some o
is_some_map f None = refl
is_some_map f (Some x) = refl

-- one key more is looked at, through which the wire lands somewhere, or nowhere
pub by_key : (l : ℕ → Bool) (key p i n : ℕ) (now old : Bool) → now ≡ cond (eqb i n && (l p && ltb p key)) true old → l key ≡ true → cond (eqb p key && eqb i n) true now ≡ cond (eqb i n && (l p && ltb p (key + 1))) true old
by_key l key p i n now old inv is =
    ⊎_elim
    (λ (e : p ≡ key). let here : l p ≡ true = ap l e ∙ is in grind (arith, nat_tests))
    (λ (ne : p ≢ key). grind (arith, nat_tests))
    (cases_eq p key)

pub by_no_key : (l : ℕ → Bool) (key p i n : ℕ) (old : Bool) → l key ≡ false → cond (eqb i n && (l p && ltb p key)) true old ≡ cond (eqb i n && (l p && ltb p (key + 1))) true old
by_no_key l key p i n old nowhere =
    ⊎_elim
    (λ (e : p ≡ key). let here : l p ≡ false = ap l e ∙ nowhere in grind (arith, nat_tests))
    (λ (ne : p ≢ key). grind (arith, nat_tests))
    (cases_eq p key)

-- a way through a wire from a key
pub carries : (reach : Reaches) (panel : Panel) (w : Lead) (row key : ℕ) → ((leads_from row w && lands reach key w) && live panel w) ≡ is_some (outlet reach panel w row key)
carries reach panel w row key = by (live panel w) (eqb row w.from) (nat_le w.lowest key && nat_le key w.highest) (landing w.raise (reach w.to) key) where
  by : (l r c : Bool) (o : Option ℕ) → ((r && (c && is_some o)) && l) ≡ is_some {T = ℕ × ℕ} (cond (l && (r && c)) (option_map (λ q. (w.to, q)) o) None)
  by true true true None = refl
  by true true true (Some x) = refl
  by true true false o = refl
  by true false c o = refl
  by false true true None = refl
  by false true true (Some x) = refl
  by false true false o = refl
  by false false c o = refl

-- where it leads
pub outlet_some : (reach : Reaches) (panel : Panel) (w : Lead) (row key : ℕ) → is_some (outlet reach panel w row key) ≡ true → (96 ≤ key + w.raise) × (key + w.raise - 96 < reach w.to) × (outlet reach panel w row key ≡ Some (w.to, key + w.raise - 96))
unfolding landing
outlet_some reach panel w row key is =
    by (live panel w && (eqb row w.from && (nat_le w.lowest key && nat_le key w.highest))) (nat_le 96 (key + w.raise)) (ltb (key + w.raise - 96) (reach w.to)) refl refl is
  where
    place : ℕ
    place = key + w.raise - 96

    by : (c a b : Bool) → nat_le 96 (key + w.raise) ≡ a → ltb place (reach w.to) ≡ b → is_some {T = ℕ × ℕ} (cond c (option_map (λ q. (w.to, q)) (cond (a && b) (Some place) None)) None) ≡ true → (96 ≤ key + w.raise) × (place < reach w.to) × (◌≡◌ {A = Option (ℕ × ℕ)} (cond c (option_map (λ q. (w.to, q)) (cond (a && b) (Some place) None)) None) (Some (w.to, place)))
    by true true true e f h = (leb-true 96 (key + w.raise) e, ltb-true place (reach w.to) f, refl)
    by true true false e f h = absurd (false≢true h)
    by true false b e f h = absurd (false≢true h)
    by false a b e f h = absurd (false≢true h)

-- a wire that does not wait for a knob is as live where it turns
pub live_same : (panel : Panel) (knob position : ℕ) (w : Lead) → waits knob w ≡ false → live (knob_to panel knob position) w ≡ live panel w
live_same panel knob position w = by w.setting where
  by : (t : Option Wait) → waits_for knob t ≡ false → stands (knob_to panel knob position) t ≡ stands panel t
  by None e = refl
  by (Some s) e = ap (λ c. eqb (cond c position (panel s.knob)) s.position) e

-- the set that a wire joins, named on either side
pub either_way : (x y z old : Bool) → x ≡ z → cond (x && y) true old ≡ cond (y && z) true old
either_way x true z old e = ap (λ c. cond c true old) (by x ∙ e) where
  by : (b : Bool) → (b && true) ≡ b
  by true = refl
  by false = refl
either_way x false z old e = ap (λ c. cond c true old) (by x) where
  by : (b : Bool) → (b && false) ≡ false
  by true = refl
  by false = refl

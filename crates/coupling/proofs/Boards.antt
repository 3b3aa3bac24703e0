-- Keys that move or stay, and a board as it is made. Assumes nothing.
use Rattle.std.specs.Prelude.{◌≡◌, ℕ, Bool, true, false, cond, not, ◌&&◌, List, nat_lt, refl}
use Rattle.std.specs.Bool.{beq}
use Rattle.std.proofs.Common.{get_or, sym, ap, subst, ◌<◌, ◌∙◌, arith}
use Rattle.std.proofs.lemmas.Bool.{lt-ltb, ltb-true, and_parts, false≢true}
use Rattle.std.proofs.lemmas.Bool.Decides.{nat_tests}
use Rattle.chest.specs.Places.{none, differ}
use Rattle.chest.specs.Meaning.{Meaning, Panel, Bounded, with_register}
use Rattle.chest.specs.Positions.{panel_of}
use Rattle.chest.proofs.Calls.{put-still}
use Rattle.coupling.specs.Layout.{Reaches, Image, Layout, Stands, with_key, key_put, key_moves}
use Rattle.coupling.specs.Board.{board_meaning}
use Rattle.coupling.specs.Making.{new_over, new_meaning}

undiffer : (x y : Bool) → differ x y ≡ false → beq x y ≡ true
undiffer true true e = refl
undiffer true false e = absurd (false≢true (sym e))
undiffer false true e = absurd (false≢true (sym e))
undiffer false false e = refl

-- a key that there is
pub put-there : (l : Layout) (row key : ℕ) (on : Bool) → key < l.reach row → key_put l row key on ≡ with_key l row key on
put-there l row key on low = ap (λ c. cond c (with_key l row key on) l) (lt-ltb key (l.reach row) low)

-- one that moves is there, and stood the other way
pub key_there : (l : Layout) (row key : ℕ) (on : Bool) → key_moves l row key on ≡ true → (key < l.reach row) × (l.register row key ≡ not on)
key_there l row key on moves =
    let parts = and_parts (nat_lt key (l.reach row)) (differ (l.register row key) on) moves in
    (ltb-true key (l.reach row) parts.0, other (l.register row key) on parts.1)
  where
    other : (x y : Bool) → differ x y ≡ true → x ≡ not y
    other true true e = sym e
    other true false e = refl
    other false true e = refl
    other false false e = e

-- one that does not move
pub put-unmoved : (l : Layout) (row key : ℕ) (on : Bool) → key_moves l row key on ≡ false → key_put l row key on ≡ l
put-unmoved l row key on still = by (nat_lt key (l.reach row)) (l.register row key) refl still where
  by : (there was : Bool) → l.register row key ≡ was → (there && differ was on) ≡ false → cond there (with_key l row key on) l ≡ l
  by true was e h = λ i. record { reach = l.reach; below = l.below; panel = l.panel; register = sym (put-still l.register row key on was (sym e) (undiffer was on h)) i; image = l.image }
  by false was e h = refl

-- the positions below, as a table, and the board made of it
pub positions_held : (m : Meaning) (table : List ℕ) → Bounded m → ((k : ℕ) → k < 64 → get_or table k 0 ≡ m.panel k) → panel_of table ≡ m.panel
positions_held m table b is = λ i k. one k i where
  one : (k : ℕ) → panel_of table k ≡ m.panel k
  one k =
      let there = is k in
      let past = b.knobs k in
      grind (arith, nat_tests)

pub new-board : (image : Image) → ((reach : Reaches) (panel : Panel) → image reach panel none ≡ none) → (l : Layout) (m m' : Meaning) (reaches : List ℕ) → l ≡ new_over image reaches m' → m' ≡ with_register m none → Stands l m' × (board_meaning l m' ≡ new_meaning image reaches m)
new-board image silent l m m' reaches lay is =
    subst (λ x. Stands x m' × (board_meaning x m' ≡ new_meaning image reaches m)) (sym lay) (record { reach = refl; panel = refl; register = ap (λ y. y.register) is ∙ sym (silent m'.reach m'.panel) }, ap (λ y. board_meaning (new_over image reaches y) y) is)

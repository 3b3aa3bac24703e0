-- The chest below as the numbers of ways have it. Assumes nothing.
use Rattle.std.proofs.Common.{◌≡◌, ℕ, ◌≤◌, Bool, true, false, nat_lt, List, sym, refl, ap, ◌∙◌, arith}
use Rattle.std.proofs.lemmas.Bool.Decides.{nat_tests}
use Rattle.chest.specs.Places.{Places}
use Rattle.chest.specs.Meaning.{Meaning, Panel, with_register}
use Rattle.coupling.specs.declared.key_desk.KeyDesk.{KeyDesk}
use Rattle.coupling.specs.KeyDesk.{beneath}
use Rattle.coupling.proofs.Desks.{beneath_most, beneath_row}
use Rattle.wires.specs.declared.lead.Lead.{Lead}
use Rattle.coupling.specs.Layout.{Reaches, Obeys}
use Rattle.wires.specs.Wires.{way, ways_to, image}
use Rattle.wires.specs.Wired.{Wired, wired_layout, image_of}
use Rattle.board.specs.Counts.{Exact}
use Rattle.board.specs.Ways.{standing, Keeps}
use Rattle.wires.proofs.Ways.{landing_is}
use Rattle.wires.proofs.Images.{image-ways, ways_none}

module _ {C : Type 0} {meaning : C → Meaning} {settled : C → Type 0} {reach : Reaches} where
  pub keeps_same : (ways : List ℕ) (a : C) → Keeps meaning settled reach ways a ways a
  keeps_same ways a = record { stands = λ r is s. (s, ap (with_register (meaning a)) is) }

  pub keeps_more : {x y z : List ℕ} {a b c : C} → Keeps meaning settled reach x a y b → Keeps meaning settled reach y b z c → Keeps meaning settled reach x a z c
  keeps_more {x} {y} {z} {a} {b} {c} k l =
      record {
        stands = λ r is s.
            let one = k.stands r is s in
            let two = l.stands (ap (λ m. m.reach) one.1 ∙ r) (ap (λ m. m.register) one.1) one.0 in
            (two.0, two.1 ∙ ap (λ m. with_register m (standing z)) one.1);
      }

-- no way leads past the reach of a row
ways-past : (reach : Reaches) (ws : List Lead) (panel : Panel) (s : Places) (b q : ℕ) → reach b ≤ q → ways_to reach ws panel s b q ≡ 0
ways-past reach ws panel s b q past = ways_none reach ws panel s b q none where
  none : (w : Lead) (k : ℕ) → way reach s w b q k ≡ false
  none w k =
      let lands = landing_is w.raise (reach w.to) k q in
      let row : b ≡ w.to → reach b ≡ reach w.to = λ e. ap reach e in
      grind (arith, nat_tests)

-- exact numbers stand as the image
pub standing-image : (ways : List ℕ) (d : KeyDesk) (l : Wired) → l.below ≡ beneath d → Exact ways l → standing ways ≡ image_of l
standing-image ways d l knows exact = λ i b q. one b q (nat_lt b 16) (nat_lt q 128) refl refl i where
  reach : (b : ℕ) → l.below b ≡ beneath d b
  reach b = ap (λ f. f b) knows

  is : (b q : ℕ) → image_of l b q ≡ nat_lt 0 (ways_to l.below l.wires l.panel l.register b q)
  is b q = image-ways l.below l.wires l.panel l.register b q

  one : (b q : ℕ) (x y : Bool) → nat_lt b 16 ≡ x → nat_lt q 128 ≡ y → standing ways b q ≡ image_of l b q
  one b q true true e f =
      let there = exact b q (grind (arith, nat_tests), grind (arith, nat_tests)) in
      let image = is b q in
      grind (arith, nat_tests)
  one b q true false e f =
      let most = beneath_most d b in
      let row = beneath_row d b q in
      let none = ways-past l.below l.wires l.panel l.register b q (grind (arith, nat_tests, reach b)) in
      let image = is b q in
      grind (arith, nat_tests)
  one b q false y e f =
      let none = ways-past l.below l.wires l.panel l.register b q (grind (arith, nat_tests, reach b)) in
      let image = is b q in
      grind (arith, nat_tests)

-- where each number was exact, and is, the chest below stands as the relay wants
pub counted : {C : Type 0} (meaning : C → Meaning) (settled : C → Type 0) (d : KeyDesk) (w v v' : Wired) (x y : List ℕ) (a b : C) → w.below ≡ beneath d → v.below ≡ w.below → v' ≡ v → Exact x w → Exact y v → Keeps meaning settled w.below x a y b → Obeys meaning settled (wired_layout w) (wired_layout v') a b
counted meaning settled d w v v' x y a b knows below same was is keeps =
    record {
      stands = λ st s.
          let m = meaning a in
          let stood = st.register ∙ (λ i. image (st.reach i) w.wires (st.panel i) w.register) ∙ sym (standing-image x d w knows was) in
          let done = keeps.stands st.reach stood s in
          let shown = standing-image y d v (below ∙ knows) is ∙ ap (λ f. image f v.wires v.panel v.register) (below ∙ sym st.reach) ∙ ap (λ u. image m.reach u.wires u.panel u.register) (sym same) in
          (done.0, done.1 ∙ ap (with_register m) shown);
    }

-- The laws of a chest's calls. Assumes nothing.
use Rattle.std.specs.Prelude.{◌≡◌, ◌↔◌, ◌⊎◌, ℕ, ◌<◌, ◌≤◌, Bool, cond, is_ok, List, Ok, Err, Result, nat_lt}
use Rattle.std.proofs.Common.{sym, refl, ap, ◌∙◌, inl, inr, ⊎_elim, arith}
use Rattle.std.proofs.lemmas.Bool.{cond_both, cond-true, cond-false, lt-ltb, le-ltb, cases_lt}
use Rattle.std.proofs.lemmas.Bool.Decides.{nat_tests}
use Rattle.chest.specs.declared.fault.ChestFault.{ChestFault}
use Rattle.chest.specs.declared.fault.ChestFault.TheVariants.{Row, Place, Knob, Position}
use Rattle.chest.specs.Places.{put}
use Rattle.chest.specs.Meaning.{Meaning, with_register, with_panel, knob_to, reach_answer, position_answer, set_answer, set_after, turn_answer, turn_after}
use Rattle.chest.specs.Calls.{SetLaw, TurnLaw, StrobeLaw, AskLaw, TableLaw}
use Rattle.chest.proofs.Calls.{set-done, turn_done}

-- an answer by a number: done, or refused by the first check or by the second
abbrev rank_of : {X : Type 0} → Result X ChestFault → ℕ
rank_of (Ok x) = 0
rank_of (Err (Row r)) = 1
rank_of (Err (Place r p)) = 2
rank_of (Err (Knob k)) = 1
rank_of (Err (Position k q)) = 2

-- of three conditions one holds, and tells the number: so the number tells which
which : {A B C : Type 0} (n : ℕ) → A ⊎ (B ⊎ C) → (A → n ≡ 1) → (B → n ≡ 2) → (C → n ≡ 0) → (n ≡ 1 → A) × (n ≡ 2 → B) × (n ≡ 0 → C)
which n (inl a) first second done =
    (λ e. a, λ e. absurd (omega (arith, first a, e)), λ e. absurd (omega (arith, first a, e)))
which n (inr (inl b)) first second done =
    (λ e. absurd (omega (arith, second b, e)), λ e. b, λ e. absurd (omega (arith, second b, e)))
which n (inr (inr c)) first second done =
    (λ e. absurd (omega (arith, done c, e)), λ e. absurd (omega (arith, done c, e)), λ e. c)

-- a bound on each of two numbers fails at the first, or at the second, or holds
two-bounds : (a b m n : ℕ) → (b ≤ a) ⊎ (((a < b) × (n ≤ m)) ⊎ ((a < b) × (m < n)))
two-bounds a b m n =
    ⊎_elim
    (λ (l : a < b). ⊎_elim (λ (k : m < n). inr (inr (l, k))) (λ (k : n ≤ m). inr (inl (l, k))) (cases_lt m n))
    (λ (h : b ≤ a). inl h)
    (cases_lt a b)

module _ (m : Meaning) (row place : ℕ) where
  no-row : 16 ≤ row → set_answer m row place ≡ Err (Row row)
  no-row h = cond-false _ _ _ (le-ltb row 16 h)

  no-place : (row < 16) × (m.reach row ≤ place) → set_answer m row place ≡ Err (Place row place)
  no-place h = cond-true _ _ _ (lt-ltb row 16 h.0) ∙ cond-false _ _ _ (le-ltb place (m.reach row) h.1)

  set-passes : (row < 16) × (place < m.reach row) → set_answer m row place ≡ Ok tt
  set-passes h = cond-true _ _ _ (lt-ltb row 16 h.0) ∙ cond-true _ _ _ (lt-ltb place (m.reach row) h.1)

  set-which : (rank_of (set_answer m row place) ≡ 1 → 16 ≤ row) × (rank_of (set_answer m row place) ≡ 2 → (row < 16) × (m.reach row ≤ place)) × (rank_of (set_answer m row place) ≡ 0 → (row < 16) × (place < m.reach row))
  set-which =
      which (rank_of (set_answer m row place)) (two-bounds row 16 place (m.reach row)) (λ h. ap rank_of (no-row h)) (λ h. ap rank_of (no-place h)) (λ h. ap rank_of (set-passes h))

  set-kept : (on : Bool) (fault : ChestFault) → set_answer m row place ≡ Err fault → set_after m row place on ≡ m
  set-kept on fault e = ap (λ a. cond (is_ok a) (with_register m (put m.register row place on)) m) e

  set-refused : (on : Bool) → (16 ≤ row) ⊎ (m.reach row ≤ place) → set_after m row place on ≡ m
  set-refused on (inl h) = set-kept on (Row row) (no-row h)
  set-refused on (inr h) =
      ⊎_elim
      (λ (l : row < 16). set-kept on (Place row place) (no-place (l, h)))
      (λ (l : 16 ≤ row). set-kept on (Row row) (no-row l))
      (cases_lt row 16)

  -- what holds with the place put and as it was holds after a set
  set-either : (P : Meaning → Type 0) (on : Bool) → P (with_register m (put m.register row place on)) → P m → P (set_after m row place on)
  set-either P on put-so so =
      cond_both (is_ok (set_answer m row place)) (with_register m (put m.register row place on)) m P (λ e. put-so) (λ e. so)

  put-here : (on : Bool) → put m.register row place on row place ≡ on
  put-here on = grind (arith, nat_tests)

  put-elsewhere : (on : Bool) (r p : ℕ) → ((r ≡ row) × (p ≡ place) → ⊥) → put m.register row place on r p ≡ m.register r p
  put-elsewhere on r p other = grind (arith, nat_tests)

  pub set-law : SetLaw m row place
  set-law =
      record {
        row_fault = (λ e. set-which.0 (ap rank_of e), no-row);
        place_fault = (λ e. set-which.1 (ap rank_of e), no-place);
        done = (λ e. set-which.2 (ap rank_of e), set-passes);
        here = λ on low there. ap (λ x. x.register row place) (set-done m row place on low there) ∙ put-here on;
        refused = set-refused;
        elsewhere = λ on r p other. set-either (λ x. x.register r p ≡ m.register r p) on (put-elsewhere on r p other) refl;
        reach = λ on. set-either (λ x. x.reach ≡ m.reach) on refl refl;
        panel = λ on. set-either (λ x. x.panel ≡ m.panel) on refl refl;
        speaking = λ on. set-either (λ x. x.speaking ≡ m.speaking) on refl refl;
        strobes = λ on. set-either (λ x. x.strobes ≡ m.strobes) on refl refl;
        rule = λ on. set-either (λ x. x.rule ≡ m.rule) on refl refl;
      }

module _ (m : Meaning) (knob position : ℕ) where
  no-knob : 64 ≤ knob → turn_answer knob position ≡ Err (Knob knob)
  no-knob h = cond-false _ _ _ (le-ltb knob 64 h)

  no-position : (knob < 64) × (16 ≤ position) → turn_answer knob position ≡ Err (Position knob position)
  no-position h = cond-true _ _ _ (lt-ltb knob 64 h.0) ∙ cond-false _ _ _ (le-ltb position 16 h.1)

  turn-passes : (knob < 64) × (position < 16) → turn_answer knob position ≡ Ok tt
  turn-passes h = cond-true _ _ _ (lt-ltb knob 64 h.0) ∙ cond-true _ _ _ (lt-ltb position 16 h.1)

  turn-which : (rank_of (turn_answer knob position) ≡ 1 → 64 ≤ knob) × (rank_of (turn_answer knob position) ≡ 2 → (knob < 64) × (16 ≤ position)) × (rank_of (turn_answer knob position) ≡ 0 → (knob < 64) × (position < 16))
  turn-which =
      which (rank_of (turn_answer knob position)) (two-bounds knob 64 position 16) (λ h. ap rank_of (no-knob h)) (λ h. ap rank_of (no-position h)) (λ h. ap rank_of (turn-passes h))

  turn-kept : (fault : ChestFault) → turn_answer knob position ≡ Err fault → turn_after m knob position ≡ m
  turn-kept fault e = ap (λ a. cond (is_ok a) (with_panel m (knob_to m.panel knob position)) m) e

  turn-refused : (64 ≤ knob) ⊎ (16 ≤ position) → turn_after m knob position ≡ m
  turn-refused (inl h) = turn-kept (Knob knob) (no-knob h)
  turn-refused (inr h) =
      ⊎_elim
      (λ (l : knob < 64). turn-kept (Position knob position) (no-position (l, h)))
      (λ (l : 64 ≤ knob). turn-kept (Knob knob) (no-knob l))
      (cases_lt knob 64)

  turn-either : (P : Meaning → Type 0) → P (with_panel m (knob_to m.panel knob position)) → P m → P (turn_after m knob position)
  turn-either P turned so =
      cond_both (is_ok (turn_answer knob position)) (with_panel m (knob_to m.panel knob position)) m P (λ e. turned) (λ e. so)

  knob-here : knob_to m.panel knob position knob ≡ position
  knob-here = grind (arith, nat_tests)

  knob-elsewhere : (k : ℕ) → (k ≡ knob → ⊥) → knob_to m.panel knob position k ≡ m.panel k
  knob-elsewhere k other = grind (arith, nat_tests)

  pub turn-law : TurnLaw m knob position
  turn-law =
      record {
        knob_fault = (λ e. turn-which.0 (ap rank_of e), no-knob);
        position_fault = (λ e. turn-which.1 (ap rank_of e), no-position);
        done = (λ e. turn-which.2 (ap rank_of e), turn-passes);
        here = λ low there. ap (λ x. x.panel knob) (turn_done m knob position low there) ∙ knob-here;
        refused = turn-refused;
        elsewhere = λ k other. turn-either (λ x. x.panel k ≡ m.panel k) (knob-elsewhere k other) refl;
        reach = turn-either (λ x. x.reach ≡ m.reach) refl refl;
        register = turn-either (λ x. x.register ≡ m.register) refl refl;
        speaking = turn-either (λ x. x.speaking ≡ m.speaking) refl refl;
        strobes = turn-either (λ x. x.strobes ≡ m.strobes) refl refl;
        rule = turn-either (λ x. x.rule ≡ m.rule) refl refl;
      }

-- a question is answered, or refused by the one check
asked : {X : Type 0} (a b : ℕ) (r good bad : Result X ChestFault) → r ≡ cond (nat_lt a b) good bad → rank_of good ≡ 0 → rank_of bad ≡ 1 → ((r ≡ bad) ↔ (b ≤ a)) × ((r ≡ good) ↔ (a < b))
asked a b r good bad is fine wrong = (
  (λ e. ⊎_elim (λ (l : a < b). absurd (let z : ◌≡◌ {A = ℕ} 0 1 = sym fine ∙ ap rank_of (sym (there l) ∙ e) ∙ wrong in omega arith)) (λ (h : b ≤ a). h) (cases_lt a b), past),
  (λ e. ⊎_elim (λ (l : a < b). l) (λ (h : b ≤ a). absurd (let z : ◌≡◌ {A = ℕ} 0 1 = sym fine ∙ ap rank_of (sym e ∙ past h) ∙ wrong in omega arith)) (cases_lt a b), there),
)
  where
    there : a < b → r ≡ good
    there l = is ∙ cond-true _ _ _ (lt-ltb a b l)

    past : b ≤ a → r ≡ bad
    past h = is ∙ cond-false _ _ _ (le-ltb a b h)

module _ (m : Meaning) where
  pub strobe-law : StrobeLaw m
  strobe-law =
      record { speaking = refl; more = λ low. omega arith; last = λ last. omega (arith, last); reach = refl; register = refl; panel = refl; rule = refl }

  row-asked : (row : ℕ) → ((reach_answer m row ≡ Err (Row row)) ↔ (16 ≤ row)) × ((reach_answer m row ≡ Ok (m.reach row)) ↔ (row < 16))
  row-asked row = asked row 16 (reach_answer m row) (Ok (m.reach row)) (Err (Row row)) refl refl refl

  knob-asked : (knob : ℕ) → ((position_answer m knob ≡ Err (Knob knob)) ↔ (64 ≤ knob)) × ((position_answer m knob ≡ Ok (m.panel knob)) ↔ (knob < 64))
  knob-asked knob = asked knob 64 (position_answer m knob) (Ok (m.panel knob)) (Err (Knob knob)) refl refl refl

  pub ask-law : AskLaw m
  ask-law =
      record { row_fault = λ row. (row-asked row).0; reach = λ row. (row-asked row).1; knob_fault = λ knob. (knob-asked knob).0; position = λ knob. (knob-asked knob).1 }

pub table-law : (table : List ℕ) → TableLaw table
table-law table =
    record {
      below = λ r low few. grind (arith, nat_tests);
      above = λ r low many. grind (arith, nat_tests);
      past = λ r high. grind (arith, nat_tests);
      position = λ k low. grind (arith, nat_tests);
      no_knob = λ k high. grind (arith, nat_tests);
    }

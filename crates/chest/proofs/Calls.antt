-- Calls that pass their checks. Assumes nothing.
use Rattle.std.proofs.Common.{◌≡◌, ℕ, ◌<◌, Bool, true, cond, is_ok, Ok, Result, ap, ◌∙◌, arith}
use Rattle.std.specs.Bool.{beq}
use Rattle.std.specs.Result.{result_unwrap_or}
use Rattle.std.proofs.lemmas.Bool.Decides.{nat_tests}
use Rattle.chest.specs.declared.fault.ChestFault.{ChestFault}
use Rattle.chest.specs.Places.{Places, put}
use Rattle.chest.specs.Meaning.{Meaning, reach_answer, set_answer, set_after, turn_answer, turn_after, with_register, with_panel, knob_to}

pub reach_is : (m : Meaning) (row n : ℕ) (r : Result ℕ ChestFault) → row < 16 → r ≡ reach_answer m row → n ≡ result_unwrap_or r 0 → n ≡ m.reach row
reach_is m row n r h is value = value ∙ ap (λ a. result_unwrap_or a 0) (is ∙ answered) where
  answered : reach_answer m row ≡ Ok (m.reach row)
  answered = grind (arith, nat_tests)

-- a row whose reach is answered above a place is one of the 16
pub row_of_place : (m : Meaning) (row n place : ℕ) (r : Result ℕ ChestFault) → r ≡ reach_answer m row → n ≡ result_unwrap_or r 0 → place < n → row < 16
row_of_place m row n place r is value h = grind (arith, nat_tests, value ∙ ap (λ a. result_unwrap_or a 0) is)

pub set-done : (m : Meaning) (row place : ℕ) (on : Bool) → row < 16 → place < m.reach row → set_after m row place on ≡ with_register m (put m.register row place on)
set-done m row place on h k =
    ap (λ a. cond (is_ok a) (with_register m (put m.register row place on)) m) passes
  where
    passes : set_answer m row place ≡ Ok tt
    passes = grind (arith, nat_tests)

pub turn_done : (m : Meaning) (knob position : ℕ) → knob < 64 → position < 16 → turn_after m knob position ≡ with_panel m (knob_to m.panel knob position)
turn_done m knob position h k =
    ap (λ a. cond (is_ok a) (with_panel m (knob_to m.panel knob position)) m) passes
  where
    passes : turn_answer knob position ≡ Ok tt
    passes = grind (arith, nat_tests)

-- a place put as it stands changes nothing
pub put-still : (s : Places) (row place : ℕ) (on was : Bool) → was ≡ s row place → beq was on ≡ true → s ≡ put s row place on
put-still s row place on was stood stays = λ i r p. one r p i where
  one : (r p : ℕ) → s r p ≡ put s row place on r p
  one r p =
      let there : r ≡ row → p ≡ place → s r p ≡ s row place = λ er ep i. s (er i) (ep i) in
      grind (arith, nat_tests)

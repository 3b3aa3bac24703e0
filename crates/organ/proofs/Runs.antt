-- The wires of one board, one after the other. Assumes nothing.
use Rattle.std.proofs.Common.{◌≡◌, ℕ, ◌+◌, ◌<◌, Bool, true, false, cond, List, [], ◌∷◌, length, get_or, drop, pos, Ok, sym, refl, ap, ◌∙◌}
use Rattle.std.proofs.lemmas.List.{drop_more}
use Rattle.chest.specs.Meaning.{Meaning}
use Rattle.book.specs.declared.board.Board.{Board}
use Rattle.book.specs.declared.board.Board.TheVariants.{Coupler}
use Rattle.book.specs.declared.book.BookWire.{BookWire}
use Rattle.coupling.specs.Layout.{Reaches}
use Rattle.wires.specs.Wired.{Wired, with_wire}
use Rattle.wires.specs.Fitting.{fit_answer, lead_of}
use Rattle.book.specs.Book.{same_board}
use Rattle.organ.specs.Pass.{unless_first_refused, fit_run}

-- what a list of wires is read at past its end
abbrev pub blank : BookWire
blank =
    record { line = 0; board = Coupler; wire = record { from = 0; lowest = 0; highest = 0; to = 0; shift = pos 0; knob = 0; position = 0 } }

-- one wire of a list: passed over, fitted, or refused
module _ (on : Board) (m : Meaning) (l : Wired) (ws : List BookWire) (n : ℕ) (h : n < length ws) where
  abbrev here : BookWire
  here = get_or ws n blank

  abbrev rest : List BookWire
  rest = drop (n + 1) ws

  abbrev next : Wired
  next = with_wire l (lead_of here.wire)

  step : (b : Bool) → same_board on here.board ≡ b → fit_run on m l n (drop n ws) ≡ cond b (unless_first_refused (fit_answer l m here.wire) n here.line (fit_run on m next (n + 1) rest)) (fit_run on m l (n + 1) rest)
  step b e =
      ap (fit_run on m l n) (drop_more ws n blank h)
      ∙ ap (λ x. cond x (unless_first_refused (fit_answer l m here.wire) n here.line (fit_run on m next (n + 1) rest)) (fit_run on m l (n + 1) rest)) e

  pub skip_here : same_board on here.board ≡ false → fit_run on m l n (drop n ws) ≡ fit_run on m l (n + 1) rest
  skip_here e = step false e

  pub fit_here : (l' : Wired) → same_board on here.board ≡ true → fit_answer l m here.wire ≡ Ok tt → l' ≡ with_wire l (lead_of here.wire) → fit_run on m l n (drop n ws) ≡ fit_run on m l' (n + 1) rest
  fit_here l' e a is =
      step true e ∙ ap (λ x. unless_first_refused x n here.line (fit_run on m next (n + 1) rest)) a ∙ ap (λ x. fit_run on m x (n + 1) rest) (sym is)

-- of the chest below only its reaches matter
with_reach : Meaning → Reaches → Meaning
with_reach m reach =
    record { reach = reach; register = m.register; panel = m.panel; speaking = m.speaking; strobes = m.strobes; rule = m.rule }

pub run_reach : (on : Board) (m n : Meaning) → m.reach ≡ n.reach → (l : Wired) (k : ℕ) (ws : List BookWire) → fit_run on m l k ws ≡ fit_run on n l k ws
unfolding with_reach
run_reach on m n e l k [] = refl
run_reach on m n e l k (w ∷ ws) =
    let answer : fit_answer l m w.wire ≡ fit_answer l n w.wire = λ i. fit_answer l (with_reach m (e i)) w.wire in
    λ i. cond (same_board on w.board) (unless_first_refused (answer i) k w.line (run_reach on m n e (with_wire l (lead_of w.wire)) (k + 1) ws i)) (run_reach on m n e l (k + 1) ws i)

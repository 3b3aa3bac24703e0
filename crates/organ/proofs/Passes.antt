-- The passes of both boards over the wires of a book come to what one walk in the book's order comes to. Assumes nothing.
use Rattle.std.proofs.Common.{◌≡◌, ℕ, ◌+◌, ◌≤◌, Bool, true, false, cond, ltb, List, [], ◌∷◌, Ok, Err, Result, refl, ap, arith}
use Rattle.std.proofs.lemmas.Bool.Decides.{nat_tests}
use Rattle.chest.specs.Meaning.{Meaning}
use Rattle.book.specs.declared.board.Board.{Board}
use Rattle.book.specs.declared.board.Board.TheVariants.{Coupler, Stop}
use Rattle.book.specs.declared.book.BookWire.{BookWire}
use Rattle.book.specs.Book.{same_board}
use Rattle.wires.specs.declared.fault.BoardFault.{BoardFault}
use Rattle.coupling.specs.Layout.{Reaches}
use Rattle.wires.specs.Wired.{Wired, with_wire}
use Rattle.wires.specs.Fitting.{fit_answer, lead_of}
use Rattle.organ.specs.declared.refusal.Refusal.{Refusal}
use Rattle.organ.specs.declared.assembly.FirstRefused.{FirstRefused}
use Rattle.organ.specs.Assembly.{Hung, unless_refused, hung_on, board_answer, hang_after, stop_wired, stop_meaning, coupler_wired}
use Rattle.organ.specs.Pass.{unless_first_refused, fit_run}

-- the wires of both boards, or the refusal of the earlier wire
abbrev pub both : Result Wired FirstRefused → Result Wired FirstRefused → Result Hung Refusal
both (Ok c) (Ok s) = Ok (record { couplers = c.wires; stops = s.wires })
both (Ok c) (Err f) = Err f.refusal
both (Err e) (Ok s) = Err e.refusal
both (Err e) (Err f) = cond (ltb e.number f.number) (Err e.refusal) (Err f.refusal)

-- a pass over wires that are numbered from n on stops at none before it
abbrev From : ℕ → Result Wired FirstRefused → Type 0
From n (Ok l) = Unit {0}
From n (Err e) = n ≤ e.number

later : (n : ℕ) (r : Result Wired FirstRefused) → From (n + 1) r → From n r
later n (Ok l) f = tt
later n (Err e) f = omega (arith, f)

either_from : (n : ℕ) (b : Bool) (a : Result Unit BoardFault) (line : ℕ) (x y : Result Wired FirstRefused) → From n x → From n y → From n (cond b (unless_first_refused a n line x) y)
either_from n true (Ok u) line x y f g = f
either_from n true (Err e) line x y f g = omega arith
either_from n false a line x y f g = g

from_run : (on : Board) (m : Meaning) (l : Wired) (n : ℕ) (ws : List BookWire) → From n (fit_run on m l n ws)
from_run on m l n [] = tt
from_run on m l n (w ∷ ws) =
    let taken = fit_run on m (with_wire l (lead_of w.wire)) (n + 1) ws in
    let passed = fit_run on m l (n + 1) ws in
    either_from n (same_board on w.board) (fit_answer l m w.wire) w.line taken passed (later n taken (from_run on m (with_wire l (lead_of w.wire)) (n + 1) ws)) (later n passed (from_run on m l (n + 1) ws))

-- a refusal at n comes before whatever the other board's pass comes to after it
module _ (n : ℕ) (r : Refusal) where
  coupler_first : (y : Result Wired FirstRefused) → From (n + 1) y → both (Err (record { number = n; refusal = r })) y ≡ Err r
  coupler_first (Ok s) f = refl
  coupler_first (Err e) f = ap (λ b. cond b (Err r) (Err e.refusal)) (let t : ltb n e.number ≡ true = grind (arith, nat_tests, f) in t)

  stop_first : (x : Result Wired FirstRefused) → From (n + 1) x → both x (Err (record { number = n; refusal = r })) ≡ Err r
  stop_first (Ok c) f = refl
  stop_first (Err e) f = ap (λ b. cond b (Err e.refusal) (Err r)) (let t : ltb e.number n ≡ false = grind (arith, nat_tests, f) in t)

module _ (keys : Reaches) (m : Meaning) where
  abbrev at_coupler : Hung → ℕ → List BookWire → Result Wired FirstRefused
  at_coupler h n ws = fit_run Coupler (stop_meaning keys m []) (coupler_wired keys m h.couplers) n ws

  abbrev at_stop : Hung → ℕ → List BookWire → Result Wired FirstRefused
  at_stop h n ws = fit_run Stop m (stop_wired keys m h.stops) n ws

  module _ (h : Hung) (n : ℕ) (w : BookWire) (ws : List BookWire) where
    abbrev on : Board → Hung
    on b = hung_on b h (lead_of w.wire)

    -- one wire, and both passes after it
    coupler_next : (a : Result Unit BoardFault) → both (at_coupler (on Coupler) (n + 1) ws) (at_stop (on Coupler) (n + 1) ws) ≡ hang_after keys m (on Coupler) ws → both (unless_first_refused a n w.line (at_coupler (on Coupler) (n + 1) ws)) (at_stop h (n + 1) ws) ≡ unless_refused a w.line (hang_after keys m (on Coupler) ws)
    coupler_next (Ok u) rest = rest
    coupler_next (Err e) rest =
        coupler_first n (record { line = w.line; fault = e }) (at_stop h (n + 1) ws) (from_run Stop m (stop_wired keys m h.stops) (n + 1) ws)

    stop_next : (a : Result Unit BoardFault) → both (at_coupler (on Stop) (n + 1) ws) (at_stop (on Stop) (n + 1) ws) ≡ hang_after keys m (on Stop) ws → both (at_coupler h (n + 1) ws) (unless_first_refused a n w.line (at_stop (on Stop) (n + 1) ws)) ≡ unless_refused a w.line (hang_after keys m (on Stop) ws)
    stop_next (Ok u) rest = rest
    stop_next (Err e) rest =
        stop_first n (record { line = w.line; fault = e }) (at_coupler h (n + 1) ws) (from_run Coupler (stop_meaning keys m []) (coupler_wired keys m h.couplers) (n + 1) ws)

    next : (b : Board) → both (at_coupler (on b) (n + 1) ws) (at_stop (on b) (n + 1) ws) ≡ hang_after keys m (on b) ws → both (cond (same_board Coupler b) (unless_first_refused (fit_answer (coupler_wired keys m h.couplers) (stop_meaning keys m []) w.wire) n w.line (at_coupler (on Coupler) (n + 1) ws)) (at_coupler h (n + 1) ws)) (cond (same_board Stop b) (unless_first_refused (fit_answer (stop_wired keys m h.stops) m w.wire) n w.line (at_stop (on Stop) (n + 1) ws)) (at_stop h (n + 1) ws)) ≡ unless_refused (board_answer keys m b h w.wire) w.line (hang_after keys m (on b) ws)
    next Coupler rest = coupler_next (fit_answer (coupler_wired keys m h.couplers) (stop_meaning keys m []) w.wire) rest
    next Stop rest = stop_next (fit_answer (stop_wired keys m h.stops) m w.wire) rest

  pub passes : (h : Hung) (n : ℕ) (ws : List BookWire) → both (at_coupler h n ws) (at_stop h n ws) ≡ hang_after keys m h ws
  passes h n [] = refl
  passes h n (w ∷ ws) = next h n w ws w.board (passes (hung_on w.board h (lead_of w.wire)) (n + 1) ws)

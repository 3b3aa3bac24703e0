-- One board's pass over the wires of a book: a stack is put together one board after the other. Assumes nothing.
use Rattle.std.specs.Prelude.{ℕ, ◌+◌, cond, List, [], ◌∷◌, Ok, Err, Result, nat_lt}
use Rattle.chest.specs.Meaning.{Meaning}
use Rattle.book.specs.declared.board.Board.{Board}
use Rattle.book.specs.declared.book.BookWire.{BookWire}
use Rattle.book.specs.Book.{on_board}
use Rattle.wires.specs.declared.fault.BoardFault.{BoardFault}
use Rattle.wires.specs.Wired.{Wired, with_wire}
use Rattle.wires.specs.Fitting.{fit_answer, lead_of}
use Rattle.organ.specs.declared.refusal.Refusal.{Refusal}
use Rattle.organ.specs.declared.assembly.FirstRefused.{FirstRefused}

abbrev pub unless_first_refused : Result Unit BoardFault → ℕ → ℕ → Result Wired FirstRefused → Result Wired FirstRefused
unless_first_refused (Ok x) number line rest = rest
unless_first_refused (Err e) number line rest =
    Err (record { number = number; refusal = record { line = line; fault = e } })

-- a board over a chest takes its own wires of a list, which are numbered from n on: all, or the first that it refuses
abbrev pub fit_run : Board → Meaning → Wired → ℕ → List BookWire → Result Wired FirstRefused
fit_run on m l n [] = Ok l
fit_run on m l n (w ∷ ws) =
    cond (on_board on w) (unless_first_refused (fit_answer l m w.wire) n w.line (fit_run on m (with_wire l (lead_of w.wire)) (n + 1) ws)) (fit_run on m l (n + 1) ws)

-- the refusal of the earlier wire, if there is one
abbrev pub earlier_of : Result Unit FirstRefused → Result Unit FirstRefused → Result Unit Refusal
earlier_of (Ok x) (Ok y) = Ok tt
earlier_of (Ok x) (Err f) = Err f.refusal
earlier_of (Err e) (Ok y) = Err e.refusal
earlier_of (Err e) (Err f) = cond (nat_lt e.number f.number) (Err e.refusal) (Err f.refusal)

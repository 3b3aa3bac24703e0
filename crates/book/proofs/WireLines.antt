-- The wires of a book stand on lines that rise. Assumes nothing.
use Rattle.std.proofs.Common.{ℕ, ◌+◌, ◌<◌, ◌≤◌, List, [], ◌∷◌, Some, None, Ok, Err, Result, IfOk, sym, subst, arith}
use Rattle.std.specs.List.{AllByRecursion}
use Rattle.book.specs.declared.book.Book.{Book}
use Rattle.book.specs.declared.book.BookWire.{BookWire}
use Rattle.book.specs.declared.book_fault.BookFault.{BookFault}
use Rattle.book.specs.declared.form.Form.TheVariants.{Keys, Rank, Knob, Piston, Wire}
use Rattle.book.specs.Book.{LinesRise, wires_in}
use Rattle.book.specs.Entry.{wires_of}
use Rattle.book.specs.Grammar.{Lines, Judged, entries_from}

-- what holds from one line on holds from an earlier one on
module _ (m n : ℕ) (early : m ≤ n) where
  from_earlier : (ws : List BookWire) → AllByRecursion (λ w. n ≤ w.line) ws → AllByRecursion (λ w. m ≤ w.line) ws
  from_earlier [] h = tt
  from_earlier (w ∷ ws) h = (omega (arith, h.0), from_earlier ws h.1)

later : (n : ℕ) (ws : List BookWire) → AllByRecursion (λ w. n + 1 ≤ w.line) ws → AllByRecursion (λ w. n < w.line) ws
later n [] h = tt
later n (w ∷ ws) h = (omega (arith, h.0), later n ws h.1)

abbrev Rising : ℕ → List BookWire → Type 0
Rising n ws = AllByRecursion (λ w. n ≤ w.line) ws × LinesRise ws

rising : (n : ℕ) (ls : Lines) → Rising n (wires_of (entries_from n ls))
rising n [] = (tt, tt)
rising n (None ∷ ls) = let r = rising (n + 1) ls in (from_earlier n (n + 1) (omega arith) _ r.0, r.1)
rising n (Some (Keys row reach) ∷ ls) = let r = rising (n + 1) ls in (from_earlier n (n + 1) (omega arith) _ r.0, r.1)
rising n (Some (Rank row reach) ∷ ls) = let r = rising (n + 1) ls in (from_earlier n (n + 1) (omega arith) _ r.0, r.1)
rising n (Some (Knob knob steps home) ∷ ls) =
    let r = rising (n + 1) ls in (from_earlier n (n + 1) (omega arith) _ r.0, r.1)
rising n (Some (Piston piston lowest highest) ∷ ls) =
    let r = rising (n + 1) ls in (from_earlier n (n + 1) (omega arith) _ r.0, r.1)
rising n (Some (Wire board wire) ∷ ls) =
    let r = rising (n + 1) ls in ((omega arith, from_earlier n (n + 1) (omega arith) _ r.0), (later n _ r.0, r.1))

pub lines_rise : (text : List ℕ) (r : Result Book BookFault) → Judged r text → IfOk r (λ b. LinesRise (wires_in b))
lines_rise text (Ok b) judged = subst LinesRise (sym judged.3.wires) (rising 1 judged.0).1
lines_rise text (Err f) judged = tt

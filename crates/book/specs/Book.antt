-- What a book's record answers. Assumes nothing.
use Rattle.std.specs.Prelude.{ℕ, ◌<◌, Bool, true, false, cond, List, [], ◌∷◌, None, Option, nat_lt}
use Rattle.std.specs.List.{AllByRecursion}
use Rattle.std.specs.Option.{unwrap_or}
use Rattle.book.specs.declared.board.Board.{Board}
use Rattle.book.specs.declared.board.Board.TheVariants.{Coupler, Stop}
use Rattle.book.specs.declared.book.Book.{Book}
use Rattle.book.specs.declared.book.BookWire.{BookWire}
use Rattle.book.specs.Limits.{rows, knobs, pistons}
use Rattle.fittings.specs.Tables.{place_at}
use Rattle.fittings.specs.declared.Knob.{Knob}
use Rattle.fittings.specs.declared.Scope.{Scope}

-- the reach of a row: 0 where the book does not name it
abbrev pub reach_in : List (Option ℕ) → ℕ → ℕ
reach_in t r = cond (nat_lt r rows) (unwrap_or (place_at t r) 0) 0

abbrev pub keys_in : Book → ℕ → ℕ
keys_in b r = reach_in b.divisions r

abbrev pub pipes_in : Book → ℕ → ℕ
pipes_in b r = reach_in b.ranks r

abbrev pub knob_in : Book → ℕ → Option Knob
knob_in b k = cond (nat_lt k knobs) (place_at b.knobs k) None

abbrev pub scope_in : Book → ℕ → Option Scope
scope_in b p = cond (nat_lt p pistons) (place_at b.pistons p) None

-- the wires in their order
abbrev pub wires_in : Book → List BookWire
wires_in b = b.wires.items

-- each of these wires stands on an earlier line of the book than those after it
abbrev pub LinesRise : List BookWire → Type 0
LinesRise [] = Unit {0}
LinesRise (w ∷ ws) = AllByRecursion (λ v. w.line < v.line) ws × LinesRise ws

abbrev pub same_board : Board → Board → Bool
same_board Coupler Coupler = true
same_board Coupler Stop = false
same_board Stop Coupler = false
same_board Stop Stop = true

abbrev pub on_board : Board → BookWire → Bool
on_board b w = same_board b w.board

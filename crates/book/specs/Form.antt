-- The forms of a book, from their words and numbers. Assumes nothing.
use Rattle.std.specs.Prelude.{ℕ, ◌-◌, cond, ◌&&◌, List, ℤ, pos, negsuc, Some, None, Option, ◌==◌, nat_le, slice_index_or}
use Rattle.book.specs.declared.board.Board.{Board}
use Rattle.book.specs.declared.board.Board.TheVariants.{Coupler, Stop}
use Rattle.book.specs.declared.form.Form.{Form}
use Rattle.book.specs.declared.head.Head.{Head}
use Rattle.book.specs.Limits.{rows, most_places, knobs, least_steps, most_steps, pistons}
use Rattle.book.specs.declared.head.Head.TheVariants as head
use Rattle.book.specs.declared.form.Form.TheVariants as form

-- x, if a number is there, handed on
abbrev pub given : {X Y : Type 0} → Option X → (X → Option Y) → Option Y
given None f = None
given (Some x) f = f x

-- a number without a minus
abbrev pub natural : ℤ → Option ℕ
natural (pos n) = Some n
natural (negsuc n) = None

-- one from low to high
abbrev pub within : ℤ → ℕ → ℕ → Option ℕ
within (pos n) low high = cond (nat_le low n && nat_le n high) (Some n) None
within (negsuc n) low high = None

abbrev pub nth : List ℤ → ℕ → ℤ
nth zs k = slice_index_or zs k (pos 0)

-- 1 is the coupler board, 2 the stop board
abbrev pub board_of : ℕ → Board
board_of n = cond (n == 1) Coupler Stop

-- the form of a word and as many numbers as it takes, unless one is out of its range
abbrev pub row_from : (ℕ → ℕ → Form) → List ℤ → Option Form
row_from f zs = given (within (nth zs 0) 0 (rows - 1)) (λ row. given (within (nth zs 1) 0 most_places) (λ reach. Some (f row reach)))

abbrev pub knob_from : List ℤ → Option Form
knob_from zs =
    given (within (nth zs 0) 0 (knobs - 1)) (λ knob.
    given (within (nth zs 1) least_steps most_steps) (λ steps.
    given (within (nth zs 2) 0 (steps - 1)) (λ home. Some (form.Knob knob steps home))))

abbrev pub piston_from : List ℤ → Option Form
piston_from zs =
    given (within (nth zs 0) 0 (pistons - 1)) (λ piston.
    given (within (nth zs 2) 0 (knobs - 1)) (λ highest.
    given (within (nth zs 1) 0 highest) (λ lowest. Some (form.Piston piston lowest highest))))

abbrev pub wire_from : List ℤ → Option Form
wire_from zs =
    given (within (nth zs 0) 1 2) (λ board.
    given (natural (nth zs 1)) (λ from.
    given (natural (nth zs 2)) (λ lowest.
    given (natural (nth zs 3)) (λ highest.
    given (natural (nth zs 4)) (λ to.
    given (natural (nth zs 6)) (λ knob.
    given (natural (nth zs 7)) (λ position.
    Some (form.Wire (board_of board) (record { from = from; lowest = lowest; highest = highest; to = to; shift = nth zs 5; knob = knob; position = position })))))))))

abbrev pub form_from : Head → List ℤ → Option Form
form_from head.Keys zs = row_from form.Keys zs
form_from head.Rank zs = row_from form.Rank zs
form_from head.Knob zs = knob_from zs
form_from head.Piston zs = piston_from zs
form_from head.Wire zs = wire_from zs

-- The bytes of a book, by class, and the longest run of a class. Assumes nothing.
use Rattle.std.specs.Prelude.{ℕ, Bool, cond, not, ◌&&◌, ◌||◌, List, length, Some, None, Option, ◌==◌, nat_le, nat_lt}
use Rattle.std.specs.List.{prefix_len}

-- the bytes of a space, the brackets, a minus, and the one that ends a line
abbrev pub space : ℕ
space = 32

abbrev pub opening : ℕ
opening = 40

abbrev pub closing : ℕ
closing = 41

abbrev pub minus : ℕ
minus = 45

abbrev pub line_end : ℕ
line_end = 10

-- a to z
abbrev pub letter : ℕ → Bool
letter b = nat_le 97 b && nat_le b 122

-- a digit or a minus
abbrev pub numeric : ℕ → Bool
numeric b = b == minus || (nat_le 48 b && nat_le b 57)

-- what a line of a book may hold
abbrev pub allowed : ℕ → Bool
allowed b = letter b || (numeric b || (b == space || (b == opening || b == closing)))

-- anything but the byte that ends a line
abbrev pub inside : ℕ → Bool
inside b = not (b == line_end)

-- the place of the first byte that fails the test
abbrev pub first_outside : (ℕ → Bool) → List ℕ → Option ℕ
first_outside p bs = cond (nat_lt (prefix_len p bs) (length bs)) (Some (prefix_len p bs)) None

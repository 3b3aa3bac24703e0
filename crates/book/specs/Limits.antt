-- The sizes that a book is held to, and what a knob may be. Assumes nothing.
use Rattle.std.specs.Prelude.{ℕ, ◌<◌, ◌≤◌}

-- bytes of a book
abbrev pub most_bytes : ℕ
most_bytes = 65536

-- rows of each level, divisions or ranks
abbrev pub rows : ℕ
rows = 16

-- places of a row, keys or pipes
abbrev pub most_places : ℕ
most_places = 128

abbrev pub knobs : ℕ
knobs = 64

abbrev pub least_steps : ℕ
least_steps = 2

abbrev pub most_steps : ℕ
most_steps = 16

abbrev pub pistons : ℕ
pistons = 40

-- wires of a book, on both boards together
abbrev pub most_wires : ℕ
most_wires = 256

-- numbers of a line that are kept: no form takes as many
abbrev pub most_kept : ℕ
most_kept = 9

-- 2 to 16 steps with a home below them
abbrev pub Sound : ℕ → ℕ → Type 0
Sound steps home = (least_steps ≤ steps) × (steps ≤ most_steps) × (home < steps)

-- the lowest and the highest knob of a scope
abbrev pub Ordered : ℕ → ℕ → Type 0
Ordered lowest highest = (lowest ≤ highest) × (highest < knobs)

-- The knobs and pistons of a book, by number. Assumes nothing.
use Rattle.std.specs.Prelude.{ℕ, Option}
use Rattle.std.specs.Option.{option_map, unwrap_or}
use Rattle.book.specs.declared.book.Book.{Book}
use Rattle.book.specs.Book.{knob_in, scope_in}
use Rattle.fittings.specs.declared.Scope.{Scope}

-- the steps of a knob, none where the book does not define it; its home, 0 where it has none
abbrev pub book_steps : Book → ℕ → Option ℕ
book_steps b k = option_map (λ q. q.steps) (knob_in b k)

abbrev pub book_home : Book → ℕ → ℕ
book_home b k = unwrap_or (option_map (λ q. q.home) (knob_in b k)) 0

-- the knobs that a piston takes, none where the book does not define it
abbrev pub book_scope : Book → ℕ → Option Scope
book_scope = scope_in

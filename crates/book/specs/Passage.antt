-- How a line comes off the front of a text. Assumes nothing.
use Rattle.std.specs.Prelude.{◌≡◌, ◌+◌, [], ◌∷◌, Some, None, Option}
use Rattle.book.specs.declared.passage.Passage.{Passage}
use Rattle.book.specs.Reading.{cut}

-- the first line with its number, and what follows its end, on the next line; nothing changes where no line is ended
abbrev pub Comes : Passage → Option Passage → Passage → Type 0
Comes old None new = (new ≡ old) × (cut old.text.now ≡ old.text.now ∷ [])
Comes old (Some l) new = (l.line ≡ old.line) × (new.line ≡ old.line + 1) × (cut old.text.now ≡ l.text.now ∷ cut new.text.now)

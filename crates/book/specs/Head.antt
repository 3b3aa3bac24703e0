-- The words of a book, and how many numbers each takes. Assumes nothing.
use Rattle.std.specs.Prelude.{ℕ, cond, List, Some, None, codes, Option}
use Rattle.std.specs.Str.{bytes_eq}
use Rattle.book.specs.declared.head.Head.{Head}
use Rattle.book.specs.declared.head.Head.TheVariants.{Keys, Rank, Knob, Piston, Wire}

abbrev pub spelling : Head → List ℕ
spelling Keys = codes "keys"
spelling Rank = codes "rank"
spelling Knob = codes "knob"
spelling Piston = codes "piston"
spelling Wire = codes "wire"

abbrev pub head_of : List ℕ → Option Head
head_of w = cond (bytes_eq w (codes "keys")) (Some Keys) (cond (bytes_eq w (codes "rank")) (Some Rank) (cond (bytes_eq w (codes "knob")) (Some Knob) (cond (bytes_eq w (codes "piston")) (Some Piston) (cond (bytes_eq w (codes "wire")) (Some Wire) None))))

abbrev pub takes : Head → ℕ
takes Keys = 2
takes Rank = 2
takes Knob = 3
takes Piston = 3
takes Wire = 8

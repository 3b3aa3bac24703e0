-- What inspect says on the error stream. Assumes nothing.
use Rattle.std.specs.Prelude.{ℕ, List, None, Option}
use Rattle.book_file.specs.Unreadable.{sentence_of}
use Rattle.inspect.specs.declared.stopped.Stopped.{Stopped}
use Rattle.inspect.specs.declared.stopped.Stopped.TheVariants.{Book, Output}

-- nothing is claimed of the system's words
abbrev pub words_of : Stopped → Option (List ℕ)
words_of (Book u) = sentence_of u
words_of (Output e) = None

-- What pipes says on the error stream. Assumes nothing.
use Rattle.std.specs.Prelude.{ℕ, List, Some, None, Option, codes}
use Rattle.book_file.specs.Unreadable.{sentence_of}
use Rattle.pipes.specs.declared.stopped.Stopped.{Stopped}
use Rattle.pipes.specs.declared.stopped.Stopped.TheVariants.{Book, Memory, Input, Output}

-- nothing is claimed of the system's words
abbrev pub words_of : Stopped → Option (List ℕ)
words_of (Book u) = sentence_of u
words_of Memory = Some (codes "pipes: there is no memory for the listing; end other programs")
words_of (Input e) = None
words_of (Output e) = None

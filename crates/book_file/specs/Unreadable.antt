-- What reading a book's file comes to, and what is said where it cannot be read. Assumes nothing.
use Rattle.std.specs.Prelude.{◌≡◌, ◌≢◌, ℕ, List, [], Some, None, Ok, Err, Option, Result, Vec, vec_items, codes}
use Rattle.std.specs.IoError.{error_kind}
use Rattle.std.specs.declared.io.Error.{Error}
use Rattle.std.specs.declared.io.ErrorKind.TheVariants as kind
use Rattle.book_file.specs.declared.unreadable.Unreadable.{Unreadable}
use Rattle.book_file.specs.declared.unreadable.Unreadable.TheVariants.{Directory, NoLeave, NoMemory, Other}

-- the case of what the system says
abbrev pub Reason : Error → Unreadable → Type 0
Reason e Directory = error_kind e ≡ kind.IsADirectory
Reason e NoLeave = error_kind e ≡ kind.PermissionDenied
Reason e NoMemory = error_kind e ≡ kind.OutOfMemory
Reason e (Other other) = (other ≡ e) × (error_kind e ≢ kind.IsADirectory) × (error_kind e ≢ kind.PermissionDenied) × (error_kind e ≢ kind.OutOfMemory)

-- some error of the system is the reason, and not that the file is missing
abbrev pub Reasoned : Unreadable → Type 0
Reasoned u = (e : Error) × (error_kind e ≢ kind.NotFound) × Reason e u

-- a text that was read is the text, a missing file is an empty one, and every other error has its case
abbrev pub TextOf : {Z : Type 0} → Result (Vec ℕ Z) Error → Result (Vec ℕ Z) Unreadable → Type 0
TextOf (Ok read) (Ok text) = text ≡ read
TextOf (Ok read) (Err u) = ⊥
TextOf (Err e) (Ok text) = (error_kind e ≡ kind.NotFound) × (vec_items text ≡ [])
TextOf (Err e) (Err u) = (error_kind e ≢ kind.NotFound) × Reason e u

-- what is printed; nothing is claimed of the system's words
abbrev pub sentence_of : Unreadable → Option (List ℕ)
sentence_of Directory = Some (codes "organ.book: it is a directory; a book is a file of text")
sentence_of NoLeave = Some (codes "organ.book: no leave to read it; change its permissions")
sentence_of NoMemory = Some (codes "organ.book: there is no memory to read it; end other programs")
sentence_of (Other e) = None

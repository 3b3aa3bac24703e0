-- An error that is handed on has a reason. Assumes nothing.
use Rattle.std.proofs.Common.{ℕ, Ok, Err, IfErr, Result, Vec}
use Rattle.std.specs.declared.io.Error.{Error}
use Rattle.book_file.specs.declared.unreadable.Unreadable.{Unreadable}
use Rattle.book_file.specs.Unreadable.{Reasoned, TextOf}

pub reasoned : {Z : Type 0} (r : Result (Vec ℕ Z) Error) (t : Result (Vec ℕ Z) Unreadable) → TextOf r t → IfErr t Reasoned
reasoned r (Ok text) h = tt
reasoned (Ok read) (Err u) h = absurd h
reasoned (Err e) (Err u) h = (e, h.0, h.1)

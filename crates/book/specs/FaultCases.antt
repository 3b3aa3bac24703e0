-- Which fault of a book comes first. Assumes nothing.
use Rattle.std.specs.Prelude.{◌≡◌, [], ◌∷◌, ◌++◌, Err, codes}
use Rattle.book.specs.declared.book_fault.BookFault.TheVariants as fault
use Rattle.book.specs.Reading.{read_of}
use Rattle.book.specs.Cases.{ended, Faults}

-- in a line the fault with the lower number decides
pub record FaultOrder : Type 0 where
  -- a byte that may not stand there, before a missing bracket: every byte is looked at first
  pub byte_before_shape : Faults (codes "(keys 1 2 # $") (fault.Byte 1 10)
  -- a leading zero, before a word that no form has
  pub shape_before_form : Faults (codes "(stop 01)") (fault.Shape 1)
  -- a number too many, before one out of its range
  pub form_before_range : Faults (codes "(keys 16 129 0)") (fault.Form 1)
  -- a number out of its range, before a division that was given
  pub range_before_repeat : read_of (ended (codes "(keys 1 2)" ∷ codes "(keys 1 129)" ∷ [])) ≡ Err (fault.Range 2)
  -- the first faulty line decides, whatever its fault
  pub range_then_byte : read_of (ended ([] ∷ codes "(keys 16 2)" ∷ codes "#" ∷ [])) ≡ Err (fault.Range 2)
  pub repeat_then_shape : read_of (ended (codes "(keys 1 2)" ∷ codes "(keys 1 2)" ∷ codes "(" ∷ [])) ≡ Err (fault.Repeat 2)
  -- so a line that has no end is at fault only after good ones
  pub form_then_end : read_of (ended (codes "(stop 1)" ∷ []) ++ codes "(keys 1 2)") ≡ Err (fault.Form 1)
  -- a last line without its end, on its line
  pub end : read_of (ended (codes "(keys 1 2)" ∷ [] ∷ []) ++ codes "(rank 3 4)") ≡ Err (fault.Shape 3)
  -- and first for a byte in it
  pub end_byte : read_of (ended ([] ∷ []) ++ codes "(rank 3 4#") ≡ Err (fault.Byte 2 9)
  -- a capital letter is such a byte, and so are a plus, a tab and byte 13
  pub capital : Faults (codes "(Keys 1 2)") (fault.Byte 1 1)
  pub plus : Faults (codes "(keys +1 2)") (fault.Byte 1 6)
  pub tab : Faults (codes "(keys" ++ 9 ∷ codes "1 2)") (fault.Byte 1 5)
  pub byte_13 : Faults (codes "(keys 1 2)" ++ 13 ∷ []) (fault.Byte 1 10)

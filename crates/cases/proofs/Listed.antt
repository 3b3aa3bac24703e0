-- The listing of a text and the bytes of a line, by lists alone. Assumes nothing.
use Rattle.std.proofs.Common.{◌≡◌, ℕ, List, Ok, Err, Result, refl, ap, ◌∙◌}
use Rattle.midi.specs.Reading.{reading}
use Rattle.book.specs.declared.book_fault.BookFault.{BookFault}
use Rattle.book.specs.Entry.{Entry, wires_of}
use Rattle.book.specs.Reading.{read_of}
use Rattle.coupling.specs.Layout.{Reaches}
use Rattle.console.specs.Model.{Setup}
use Rattle.organ.specs.declared.refusal.Refusal.{Refusal}
use Rattle.organ.specs.Assembly.{Hung, bare}
use Rattle.organ.specs.Line.{line_bytes}
use Rattle.organ.specs.Refused.{fault_line, refusal_line}
use Rattle.recital.specs.Described.{keys_said, pipes_said, setup_said, stack_said}
use Rattle.recital.specs.Listings.{organ_listing, book_listing, listing_of}
use Rattle.cases.proofs.KeyLists.{first_desk}
use Rattle.cases.proofs.Rolls.{pipes, speaks, lines, lines-are}
use Rattle.cases.proofs.Hanging.{hang_from, hangs}

-- the lines of an organ with these reaches, or the line of the first wire that its board refuses
abbrev pub on_organ : Setup → Reaches → Reaches → Result Hung Refusal → List ℕ → List ℕ
on_organ s keys ranks (Ok h) bytes = lines s keys ranks h (first_desk s) (pipes s keys ranks h (first_desk s)) (reading bytes)
on_organ s keys ranks (Err r) bytes = line_bytes (refusal_line r)

abbrev pub on_book : Result (List Entry) BookFault → List ℕ → List ℕ
on_book (Ok es) bytes =
    on_organ (setup_said es) (keys_said es) (pipes_said es) (hang_from (keys_said es) (pipes_said es) bare (wires_of es)) bytes
on_book (Err f) bytes = line_bytes (fault_line f)

organ-is : (es : List Entry) (r : Result Hung Refusal) (bytes : List ℕ) → organ_listing (setup_said es) (stack_said es) r bytes ≡ on_organ (setup_said es) (keys_said es) (pipes_said es) r bytes
organ-is es (Ok h) bytes =
    lines-are (setup_said es) (keys_said es) (pipes_said es) h (first_desk (setup_said es)) (pipes (setup_said es) (keys_said es) (pipes_said es) h (first_desk (setup_said es))) (speaks (setup_said es) (keys_said es) (pipes_said es) h (first_desk (setup_said es))) (reading bytes)
organ-is es (Err r) bytes = refl

book-is : (x : Result (List Entry) BookFault) (bytes : List ℕ) → book_listing x bytes ≡ on_book x bytes
book-is (Ok es) bytes =
    ap (λ r. organ_listing (setup_said es) (stack_said es) r bytes) (hangs (keys_said es) (pipes_said es) (wires_of es))
    ∙ organ-is es (hang_from (keys_said es) (pipes_said es) bare (wires_of es)) bytes
book-is (Err f) bytes = refl

-- what is listed so is the listing
pub listed : (text bytes given : List ℕ) → on_book (read_of text) bytes ≡ given → listing_of text bytes ≡ given
listed text bytes given e = book-is (read_of text) bytes ∙ e

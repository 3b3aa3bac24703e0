-- The refused books, computed. Assumes nothing.
use Rattle.std.proofs.Common.{◌≡◌, ℕ, ◌<◌, cond, List, [], ◌∷◌, map, length, codes, Some, None, Ok, Err, Option, Result, refl, ap, lt-ltb}
use Rattle.std.specs.Fmt.{digits}
use Rattle.book.specs.declared.book_fault.BookFault.{BookFault}
use Rattle.book.specs.declared.book_fault.BookFault.TheVariants as fault
use Rattle.book.specs.Entry.{Entry, wires_of}
use Rattle.book.specs.Reading.{read_of, cut, lines_from}
use Rattle.organ.specs.declared.refusal.Refusal.{Refusal}
use Rattle.organ.specs.Assembly.{Hung, bare}
use Rattle.organ.specs.Line.{line_bytes}
use Rattle.organ.specs.Refused.{fault_line, refusal_line}
use Rattle.recital.specs.Described.{keys_said, pipes_said, setup_said}
use Rattle.recital.specs.Listings.{listing_of}
use Rattle.cases.specs.Refusals.{Refused, Taken, times, refused_wires, faulty_texts, good_books, full_book, overfull, RefusedBooks}
use Rattle.cases.proofs.Hanging.{hang_from}
use Rattle.cases.proofs.Listed.{on_organ, on_book, listed}

-- the one line for a text that is refused
abbrev refusal_of : Result Hung Refusal → Option (List ℕ)
refusal_of (Ok h) = None
refusal_of (Err r) = Some (line_bytes (refusal_line r))

abbrev book_refusal : Result (List Entry) BookFault → Option (List ℕ)
book_refusal (Ok es) = refusal_of (hang_from (keys_said es) (pipes_said es) bare (wires_of es))
book_refusal (Err f) = Some (line_bytes (fault_line f))

organ-refused : (es : List Entry) (x : Result Hung Refusal) (given bytes : List ℕ) → refusal_of x ≡ Some given → on_organ (setup_said es) (keys_said es) (pipes_said es) x bytes ≡ given
organ-refused es (Ok h) given bytes e = cc
organ-refused es (Err r) given bytes e = cc

book-refused : (x : Result (List Entry) BookFault) (given bytes : List ℕ) → book_refusal x ≡ Some given → on_book x bytes ≡ given
book-refused (Ok es) given bytes e = organ-refused es (hang_from (keys_said es) (pipes_said es) bare (wires_of es)) given bytes e
book-refused (Err f) given bytes e = cc

-- each text of a table has the line that stands beside it
refused : (rows : List (List ℕ × List ℕ)) → map (λ row. book_refusal (read_of row.0)) rows ≡ map (λ row. Some row.1) rows → Refused rows
refused [] e = tt
refused (row ∷ rows) e =
    let here : book_refusal (read_of row.0) ≡ Some row.1 = cc in
    let rest : map (λ row. book_refusal (read_of row.0)) rows ≡ map (λ row. Some row.1) rows = cc in
    (λ bytes. listed row.0 bytes row.1 (book-refused (read_of row.0) row.1 bytes here), refused rows rest)

-- for each text of a table nothing is listed before a byte is played
taken : (texts : List (List ℕ)) → map (λ text. on_book (read_of text) []) texts ≡ map (λ text. []) texts → Taken texts
taken [] e = tt
taken (text ∷ texts) e =
    let here : on_book (read_of text) [] ≡ [] = cc in
    let rest : map (λ text. on_book (read_of text) []) texts ≡ map (λ text. []) texts = cc in
    (listed text [] [] here, taken texts rest)

too-long : (text bytes : List ℕ) → 65536 < length text → listing_of text bytes ≡ codes "(fault 31 0)\n"
unfolding digits
too-long text bytes h =
    listed text bytes (codes "(fault 31 0)\n") (ap (λ b. on_book (cond b (Err fault.TooLong) (lines_from [] 1 (cut text))) bytes) (lt-ltb 65536 (length text) h))

pub refused_books : RefusedBooks
unfolding digits
refused_books =
    record {
      wires = refused refused_wires refl;
      texts = refused faulty_texts refl;
      too_long = too-long;
      longest = taken (times 65536 (codes "\n") ∷ []) refl;
      good = taken good_books refl;
      full = taken (full_book ∷ []) refl;
      more = refused overfull refl;
    }

-- A book that was read, and what is listed for it. Assumes nothing.
use Rattle.std.proofs.Common.{◌≡◌, ℕ, cond, List, ◌++◌, is_ok, IfOk, IsErrAnd, Ok, Err, Result, sym, refl, ap, ◌∙◌, subst}
use Rattle.chest.specs.Meaning.{Meaning}
use Rattle.book.specs.declared.book_fault.BookFault.{BookFault}
use Rattle.book.specs.declared.book.Book.{Book}
use Rattle.book.specs.Book.{keys_in}
use Rattle.book.specs.Entry.{Entry}
use Rattle.book.specs.Grammar.{Judged, entries_of}
use Rattle.book.specs.Reading.{Answers, read_of}
use Rattle.organ.specs.declared.refusal.Refusal.{Refusal}
use Rattle.organ.specs.declared.line.Line.{Line}
use Rattle.organ.specs.Assembly.{Hung, stack_meaning}
use Rattle.organ.specs.Line.{line_bytes}
use Rattle.organ.specs.Opening.{Opens, book_setup}
use Rattle.recital.specs.Described.{setup_said, hung_said, stack_said, book_hung, book_stack}
use Rattle.organ.specs.Refused.{fault_line, refusal_line}
use Rattle.recital.specs.declared.recital.Recital.{Recital}
use Rattle.recital.specs.Recital.{MagnetStack}
use Rattle.recital.specs.Performing.{Gives, IsBook, Performs, faulty, unwired, played, BeginsOn, ListingLaw}
use Rattle.recital.specs.Listings.{book_listing}
use Rattle.recital.proofs.Descriptions.{gives_said}
use Rattle.book.proofs.Judging.{good_read}
use Rattle.recital.proofs.Portions.{listing_on}
use Rattle.recital.proofs.Services.{given_is}

-- one line that is added, or none
pub added : {E : Type 0} (r : Result Unit E) (old new line : List ℕ) (P : List ℕ → Type 0) → P line → new ≡ cond (is_ok r) (old ++ line) old → IfOk r (λ x. (given : List ℕ) × (new ≡ old ++ given) × P given)
added (Ok x) old new line P p e = (line, e, p)
added (Err y) old new line P p e = tt

-- a wire that its board refuses
pub refuses : {C : Type 0} (meaning : C → Meaning) (settled : C → Type 0) (b : Book) (m : Meaning) (h : Result Hung Refusal) (r : Refusal) (bytes : List ℕ) → Opens meaning settled b m h (Err r) → Gives (book_setup b) (stack_meaning (keys_in b) m) h bytes (line_bytes (refusal_line r))
refuses meaning settled b m (Ok h) r bytes opens = absurd opens
refuses meaning settled b m (Err e) r bytes opens = ap (λ x. line_bytes (refusal_line x)) opens

module _ (text bytes given : List ℕ) where
  wired : (es : List Entry) → IsBook text es → (h : Result Hung Refusal) → hung_said es ≡ h → Gives (setup_said es) (stack_said es) h bytes given → Performs text bytes given
  wired es is (Ok h) e g = played es is h e g
  wired es is (Err r) e g = unwired es is r e g

  pub accepted : (b : Book) → Judged (Ok b) text → Gives (book_setup b) (book_stack b) (book_hung b) bytes given → Performs text bytes given
  accepted b j g =
      let es = entries_of j.0 in
      wired es (record { reads = good_read text j.0 j.1 j.2; lines = j.0; written = j.1; good = j.2; forms = refl }) (hung_said es) refl (gives_said b es j.3 bytes given g)

  fault_is : (f : BookFault) (x : Result (List Entry) BookFault) → Answers (Err f) x → x ≡ Err f
  fault_is f (Ok es) a = absurd a
  fault_is f (Err e) a = ap Err (sym a)

  pub rejected : (f : BookFault) → Answers (Err f) (read_of text) → Judged (Err f) text → given ≡ line_bytes (fault_line f) → Performs text bytes given
  rejected f a j e = faulty f (record { reads = fault_is f (read_of text) a; rejects = j }) e

-- no book, or none whose wires are all taken: one line, whatever the bytes
pub refused : (text : List ℕ) (x : Result (Recital MagnetStack) Line) (l : Line) → IsErrAnd x (λ m. m ≡ l) → ((bytes : List ℕ) → Performs text bytes (line_bytes l)) → BeginsOn text x
refused text (Ok r) l e performs = absurd e
refused text (Err m) l e performs = λ bytes. subst (λ y. Performs text bytes (line_bytes y)) (sym e) (performs bytes)

pub listing_law : ListingLaw
listing_law text bytes given (faulty f wrong e) = e ∙ sym (ap (λ x. book_listing x bytes) wrong.reads)
listing_law text bytes given (unwired es is r hung e) =
    given_is (setup_said es) (stack_said es) (Err r) bytes given e ∙ sym (listing_on text bytes es (Err r) is.reads hung)
listing_law text bytes given (played es is h hung v) =
    given_is (setup_said es) (stack_said es) (Ok h) bytes given v ∙ sym (listing_on text bytes es (Ok h) is.reads hung)

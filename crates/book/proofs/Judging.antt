-- A whole book against the grammar: what is accepted, with what entries, and what is refused, and why. Assumes nothing.
use Rattle.std.proofs.Common.{◌≡◌, ℕ, ◌+◌, ◌<◌, ◌≤◌, ltb, List, [], ◌∷◌, ◌++◌, length, Some, None, Ok, Err, Result, sym, ap, ◌∙◌, subst, ⊎_elim}
use Rattle.std.proofs.ByRecursion.{All-weaker}
use Rattle.std.proofs.lemmas.List.{append-nil, append_assoc}
use Rattle.std.proofs.lemmas.Bool.{cond-true, cond-false, cases_Bool, ltb-true, ltb-false, le-ltb}
use Rattle.book.specs.declared.book_fault.BookFault.{BookFault}
use Rattle.book.specs.declared.book_fault.BookFault.TheVariants as fault
use Rattle.book.specs.declared.form.Form.{Form}
use Rattle.book.specs.declared.book.Book.{Book}
use Rattle.book.specs.Entry.{Entry, Holds}
use Rattle.book.specs.Grammar.{head_in, numbers_in, form_text, Lines, text_of, entries_from, entries_of, Fits, FitAfter, Good, Refused, Rejects, Judged, SaidBy, Accepts}
use Rattle.book.specs.Head.{spelling}
use Rattle.book.specs.Limits.{most_bytes}
use Rattle.book.specs.Reading.{placed, with_line, cut, and_then, lines_from, read_of, Answers}
use Rattle.book.proofs.Course.{more_lines}
use Rattle.book.proofs.Heading.{spelling-word, written-clean, line_complete}
use Rattle.book.proofs.Gluing.{Inner, allowed-inner, cut_line, cut-some}
use Rattle.book.proofs.Outcomes.{Outcome, whole_outcome}

-- the entries that a good line adds
form_placed : (es : List Entry) (n : ℕ) (f : Form) → Fits es f → with_line es n (form_text f) ≡ Ok (es ++ record { line = n; form = f } ∷ [])
form_placed es n f fits = ap (placed es n) (line_complete n f fits.ranges fits.digits) ∙ cond-false _ _ _ fits.once

-- good lines are read
lines_complete : (es : List Entry) (n : ℕ) (ls : Lines) → FitAfter es n ls → lines_from es n (cut (text_of ls)) ≡ Ok (es ++ entries_from n ls)
lines_complete es n [] fit = ap Ok (sym (append-nil es))
lines_complete es n (None ∷ ls) fit = more_lines es n [] (cut (text_of ls)) (cut-some (text_of ls)) ∙ lines_complete es (n + 1) ls fit
lines_complete es n (Some f ∷ ls) fit =
    let e : Entry = record { line = n; form = f } in
    let inner = All-weaker _ Inner allowed-inner (form_text f) (written-clean (spelling (head_in f)) (numbers_in f) (spelling-word (head_in f)) fit.0.digits) in
    ap (lines_from es n) (cut_line (form_text f) (text_of ls) inner) ∙
    more_lines es n (form_text f) (cut (text_of ls)) (cut-some (text_of ls)) ∙
    ap (λ r. and_then r (λ fs. lines_from fs (n + 1) (cut (text_of ls)))) (form_placed es n f fit.0) ∙
    lines_complete (es ++ e ∷ []) (n + 1) ls fit.1 ∙
    ap Ok (append_assoc es (e ∷ []) (entries_from (n + 1) ls))

rejects : (bs : List ℕ) (f : BookFault) → length bs ≤ most_bytes → Refused [] 1 bs f → Rejects f bs
rejects bs fault.TooLong few o = absurd o.fault
rejects bs (fault.Byte n at) few o = (few, o)
rejects bs (fault.Shape n) few o = (few, o)
rejects bs (fault.Form n) few o = (few, o)
rejects bs (fault.Range n) few o = (few, o)
rejects bs (fault.Repeat n) few o = (few, o)

judged_short : (bs : List ℕ) (r : Result Book BookFault) (q : Result (List Entry) BookFault) → length bs ≤ most_bytes → Outcome [] 1 bs q → Answers r q → Judged r bs
unfolding Outcome
judged_short bs (Ok b) (Ok fs) few o a =
    (o.0, o.1, record { size = subst (λ x. length x ≤ most_bytes) o.1 few; forms = o.2 }, subst (Holds b) o.3 a)
judged_short bs (Ok b) (Err e) few o a = absurd a
judged_short bs (Err f) (Ok fs) few o a = absurd a
judged_short bs (Err f) (Err e) few o a = subst (λ x. Rejects x bs) (sym a) (rejects bs e few o)

judged_long : (bs : List ℕ) (r : Result Book BookFault) → most_bytes < length bs → Answers r (Err fault.TooLong) → Judged r bs
judged_long bs (Ok b) long a = absurd a
judged_long bs (Err f) long a = subst (λ x. Rejects x bs) (sym a) long

-- what the definition answers is right by the grammar
pub judged : (bs : List ℕ) (r : Result Book BookFault) → Answers r (read_of bs) → Judged r bs
judged bs r a =
    ⊎_elim
    (λ d. judged_long bs r (ltb-true _ _ d) (subst (Answers r) (cond-true _ _ _ d) a))
    (λ d. judged_short bs r (lines_from [] 1 (cut bs)) (ltb-false _ _ d) (whole_outcome bs) (subst (Answers r) (cond-false _ _ _ d) a))
    (cases_Bool (ltb most_bytes (length bs)))

said-by : (r : Result Book BookFault) (es : List Entry) → Answers r (Ok es) → SaidBy r es
said-by (Ok b) es a = a
said-by (Err f) es a = absurd a

-- a text of good lines is read as their forms
pub good_read : (bs : List ℕ) (ls : Lines) → bs ≡ text_of ls → Good ls → read_of bs ≡ Ok (entries_of ls)
good_read bs ls text good =
    let size = subst (λ x. length x ≤ most_bytes) (sym text) good.size in
    cond-false _ _ _ (le-ltb most_bytes (length bs) size) ∙ ap (λ x. lines_from [] 1 (cut x)) text ∙ lines_complete [] 1 ls good.forms

-- and what is right by the grammar it accepts
pub accepts : (bs : List ℕ) (r : Result Book BookFault) → Answers r (read_of bs) → Accepts r bs
accepts bs r a ls good text = said-by r (entries_of ls) (subst (Answers r) (good_read bs ls text good) a)

use Rattle.std.proofs.Common.{ℕ, ◌<◌, List, length, Ok, Err, sym, refl, ap, ◌∙◌, subst, arith}
use Rattle.std.proofs.lemmas.Result.{err_from_is_err_and}
use Rattle.book.specs.Reading.{Answers, read_of}
use Rattle.book.proofs.BookAnswers.{entered}
use Rattle.book.specs.declared.book_fault.BookFault.TheVariants as fault
use Rattle.book.proofs.BookCases.{sampled}
use Rattle.book.proofs.ByteLimits.{over}
use Rattle.book.proofs.Course.{next-line, shorter, bad_line, bad_book, bad_end, good_end}
use Rattle.book.proofs.Judging.{judged, accepts}
use Rattle.book.proofs.WireLines.{lines_rise}
use Rattle.book.proofs.book.Book.read.Goals as goal

-- a book that is too long has the definition's answer
too_long : (text : List ℕ) → 65536 < length text → Answers (Err fault.TooLong) (read_of text)
too_long text long = subst (Answers (Err fault.TooLong)) (sym (over text (omega arith))) refl

pub returns-then-text-gt-MOST_BYTES-clause-entries : goal.returns-then-text-gt-MOST_BYTES-clause-entries
returns-then-text-gt-MOST_BYTES-clause-entries c =
    entered c.args.text.now (Err fault.TooLong) (too_long c.args.text.now c.if-text-gt-MOST_BYTES.true)

pub returns-then-text-gt-MOST_BYTES-clause-sample : goal.returns-then-text-gt-MOST_BYTES-clause-sample
returns-then-text-gt-MOST_BYTES-clause-sample c =
    sampled c.args.text.now (Err fault.TooLong) (too_long c.args.text.now c.if-text-gt-MOST_BYTES.true)

pub loop-line-preserved : goal.loop-line-preserved
loop-line-preserved c =
    next-line _ _ _ c.loop-line.rest c.take_line.new.self c.in-Some.line c.loop-line.invariant c.in-Some.ensures _ (c.in_ok-add_line.ensures _ c.loop-line.invariant.holds)

pub loop-line-smaller : goal.loop-line-smaller
loop-line-smaller c = shorter c.loop-line.rest c.take_line.new.self c.in-Some.line c.in-Some.ensures

pub returns-in_err-add_line : goal.returns-in_err-add_line
returns-in_err-add_line c =
    let p = err_from_is_err_and c.from_residual.result c.from_residual.ensures.1 in
    let bad = bad_line _ c.add_line.new.self _ c.loop-line.rest c.take_line.new.self c.in-Some.line c.loop-line.invariant c.in-Some.ensures _ (c.in_err-add_line.ensures _ c.loop-line.invariant.holds) in
    let a = subst (λ r. Answers r (read_of c.args.text.now)) (sym (p.1 ∙ ap Err p.2)) (bad_book _ _ c.if-text-gt-MOST_BYTES.false bad) in
    record { answer = a; judged = judged c.args.text.now _ a; accepts = accepts c.args.text.now _ a; entries = entered c.args.text.now _ a; sample = sampled c.args.text.now _ a; lines = lines_rise c.args.text.now _ (judged c.args.text.now _ a) }

pub returns-in_err-read_end : goal.returns-in_err-read_end
returns-in_err-read_end c =
    let p = err_from_is_err_and c.from_residual-in_err-read_end.result c.from_residual-in_err-read_end.ensures.1 in
    let bad = bad_end _ _ c.loop-line.rest c.take_line.new.self c.loop-line.invariant c.in_default.ensures c.if-text-gt-MOST_BYTES.false _ (c.in_err-read_end.ensures _ _ c.loop-line.invariant.holds) in
    let a = subst (λ r. Answers r (read_of c.args.text.now)) (sym (p.1 ∙ ap Err p.2)) bad in
    record { answer = a; judged = judged c.args.text.now _ a; accepts = accepts c.args.text.now _ a; entries = entered c.args.text.now _ a; sample = sampled c.args.text.now _ a; lines = lines_rise c.args.text.now _ (judged c.args.text.now _ a) }

pub returns : goal.returns
returns c =
    let a = good_end _ _ c.loop-line.rest c.take_line.new.self c.loop-line.invariant c.in_default.ensures c.if-text-gt-MOST_BYTES.false _ (c.in_ok-read_end.ensures _ _ c.loop-line.invariant.holds) in
    record { answer = a; judged = judged c.args.text.now (Ok c.loop-line.book) a; accepts = accepts c.args.text.now (Ok c.loop-line.book) a; entries = entered c.args.text.now (Ok c.loop-line.book) a; sample = sampled c.args.text.now (Ok c.loop-line.book) a; lines = lines_rise c.args.text.now (Ok c.loop-line.book) (judged c.args.text.now (Ok c.loop-line.book) a) }

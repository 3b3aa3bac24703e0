-- What is played is a service; else the line of the refused wire, or that of the fault.
use Rattle.std.proofs.Common.{refl}
use Rattle.book.specs.Book.{pipes_in}
use Rattle.bottom.specs.MagnetChest.{magnet_meaning, MagnetSettled}
use Rattle.organ.specs.Line.{line_bytes}
use Rattle.organ.specs.Opening.{new_ranks}
use Rattle.organ.specs.Refused.{fault_line, refusal_line}
use Rattle.recital.specs.Described.{book_hung}
use Rattle.recital.proofs.Judgements.{refuses, refused, accepted, rejected}
use Rattle.recital.proofs.Services.{serves}
use Rattle.recital.proofs.recital.Recital+Stack+MagnetChest.open_text.Goals as goal

pub returns-clause-cases : goal.returns-clause-cases
returns-clause-cases c =
    let b = c.in_ok-book.book in
    let r = c.in_ok-recital.recital in
    let begins = c.in_ok-recital.ensures.cases in
    λ q bytes before after goes.
    let g = serves magnet_meaning MagnetSettled b (new_ranks (pipes_in b)) (book_hung b) r q bytes before after begins.0 begins.1 goes in
    (g.0, g.1, accepted c.args.text.now bytes g.0 b c.in_ok-book.ensures.judged g.2)

pub returns-in_err-recital-clause-cases : goal.returns-in_err-recital-clause-cases
returns-in_err-recital-clause-cases c =
    let b = c.in_ok-book.book in
    let text = c.args.text.now in
    let r = c.in_err-recital.field-0.0 in
    refused text c.from_residual-in_err-recital.result (refusal_line r) c.from_residual-in_err-recital.ensures.1 (λ bytes.
    accepted text bytes (line_bytes (refusal_line r)) b c.in_ok-book.ensures.judged (refuses magnet_meaning MagnetSettled b (new_ranks (pipes_in b)) (book_hung b) r bytes c.in_err-recital.ensures.cases))

pub returns-in_err-book-clause-cases : goal.returns-in_err-book-clause-cases
returns-in_err-book-clause-cases c =
    let text = c.args.text.now in
    let f = c.in_err-book.field-0.0 in
    refused text c.from_residual.result (fault_line f) c.from_residual.ensures.1 (λ bytes.
    rejected text bytes (line_bytes (fault_line f)) f c.in_err-book.ensures.answer c.in_err-book.ensures.judged refl)

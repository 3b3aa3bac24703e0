-- The organ is opened, and its reader is new.
use Rattle.std.proofs.Common.{◌≡◌, Ok, sym, subst, rules}
use Rattle.book.specs.Book.{pipes_in}
use Rattle.bottom.specs.MagnetChest.{magnet_meaning, MagnetSettled}
use Rattle.organ.specs.Opening.{Opens, new_ranks}
use Rattle.recital.specs.Described.{book_hung}
use Rattle.recital.proofs.Portions.{begun}
use Rattle.recital.proofs.recital.Recital+Stack+MagnetChest.open.Goals as goal

pub returns-clause-law : goal.returns-clause-law
returns-clause-law c =
    let b = c.args.book.now in
    let new = c.new.ensures.value in
    let is : c.open_magnets.result ≡ Ok c.in_ok-console.console = search rules in
    let opened = subst (Opens magnet_meaning MagnetSettled b (new_ranks (pipes_in b)) (book_hung b)) is c.open_magnets.ensures.opens in
    let opens = subst (λ x. Opens magnet_meaning MagnetSettled b (new_ranks (pipes_in b)) (book_hung b) (Ok x)) (sym new.0) opened in
    λ text answers. begun magnet_meaning MagnetSettled b c.new.result text new.1 answers opens

-- The wire is added to its row.
use Rattle.std.proofs.Common.{◌<◌, ◌&&◌, true, cond, eqb, get_or, sym, ap, ◌∙◌, subst}
use Rattle.sets.specs.NumberSet.{members, empty}
use Rattle.board.specs.Among.{leads_from}
use Rattle.board.specs.Outlets.{row_of}
use Rattle.coupling.proofs.Tables.{table_put}
use Rattle.board.proofs.Indexes.{either_way}
use Rattle.board.proofs.outlets.Outlets.add.Goals as goal

pub returns-then-row-lt-ROWS-clause-rows : goal.returns-then-row-lt-ROWS-clause-rows
returns-then-row-lt-ROWS-clause-rows c = λ r i hr.
    let self = c.args.self.now in
    let row = c.from-row.result in
    let rows = c.add_keys.new.self.rows in
    table_put rows row r c.args.number true c.with.result c.index-self-row.result (subst (λ n. row < n) (sym c.add_keys.new.self.by_row) c.if-row-lt-ROWS.true) (c.with.ensures.value c.requires) i
    ∙ either_way (eqb r row) (eqb i c.args.number) (leads_from r c.args.w) (row_of c.add_keys.new.self r i) (ap (eqb r) c.from-row.ensures)
    ∙ ap (λ xs. cond (eqb i c.args.number && leads_from r c.args.w) true (members (get_or xs r empty) i)) c.add_keys.ensures.rows

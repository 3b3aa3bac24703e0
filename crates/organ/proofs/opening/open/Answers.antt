-- The stack is assembled, and its console made.
use Rattle.std.proofs.Common.{subst, sym, ◌≡◌, Ok, IfOk, rules}
use Rattle.book.specs.Book.{keys_in}
use Rattle.organ.specs.Assembly.{Assembles, hang_all}
use Rattle.organ.specs.Paths.{PathLaw}
use Rattle.organ.specs.Stack.{stacked}
use Rattle.organ.proofs.Organs.{opens}
use Rattle.organ.proofs.Paths.{settled_stack}
use Rattle.organ.proofs.opening.open.Goals as goal

pub returns-clause-opens : goal.returns-clause-opens
returns-clause-opens g c = λ start.
    let book = c.args.book.now in
    let m = g.C.Chest.meaning c.args.bottom in
    let is : c.assemble.result ≡ Ok c.in_ok-stack.stack = search rules in
    let made = subst (Assembles g.C.Chest.meaning g.C.Chest.settled (keys_in book) m (hang_all (keys_in book) m book.wires.items)) is (c.assemble.ensures.cases start) in
    opens g.C.Chest.meaning g.C.Chest.settled book m c.in_ok-stack.stack c.new.result c.knob_table.result c.piston_table.result (hang_all (keys_in book) m book.wires.items) made c.new.ensures c.knob_table.ensures.steps c.knob_table.ensures.homes c.piston_table.ensures

pub returns-clause-paths : goal.returns-clause-paths
returns-clause-paths g c = λ start.
    let book = c.args.book.now in
    let m = g.C.Chest.meaning c.args.bottom in
    let is : c.assemble.result ≡ Ok c.in_ok-stack.stack = search rules in
    let made = subst (Assembles g.C.Chest.meaning g.C.Chest.settled (keys_in book) m (hang_all (keys_in book) m book.wires.items)) is (c.assemble.ensures.cases start) in
    let paths = subst (λ x. IfOk x (λ stack. PathLaw (keys_in book) m book.wires.items (stacked g.C.Chest.meaning stack).rule)) is (c.assemble.ensures.paths start) in
    let done = c.new.ensures (settled_stack g.C.Chest.meaning g.C.Chest.settled (keys_in book) m _ c.in_ok-stack.stack made) in
    subst (PathLaw (keys_in book) m book.wires.items) (sym done.0.rule) paths

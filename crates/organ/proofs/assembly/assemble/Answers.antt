-- The stack with the divisions of the book, or the refusal.
use Rattle.std.proofs.Common.{◌≡◌, ◌≤◌, rules, arith}
use Rattle.std.proofs.lemmas.Bool.Decides.{nat_tests}
use Rattle.chest.proofs.Arrays.{from_fn_each, reaches_held}
use Rattle.chest.specs.Reaches.{reach_of}
use Rattle.book.specs.Book.{keys_in}
use Rattle.organ.proofs.Fitters.{fitted_in_order}
use Rattle.organ.proofs.Paths.{paths_of, new_stack}
use Rattle.organ.proofs.RefusedLines.{refused_on_line}
use Rattle.organ.proofs.Stacks.{assembles_as}
use Rattle.organ.proofs.assembly.assemble.Goals as goal

pub returns-clause-cases : goal.returns-clause-cases
returns-clause-cases g c = λ start.
    let book = c.args.book.now in
    let keys : reach_of c.from_fn-reaches.result ≡ keys_in book = reaches_held c.from_fn-reaches.result (keys_in book) (λ r low. from_fn_each _ (λ i y. (y ≡ keys_in book i) × (y ≤ 128)) _ (λ i y q call. search rules) _ 16 r 0 c.from_fn-reaches.ensures.items low) (λ r past. grind (arith, nat_tests)) in
    assembles_as g.C.Chest.meaning g.C.Chest.settled (g.C.Chest.meaning c.args.bottom) _ (keys_in book) _ book.wires.items c.hang.result keys c.wires.ensures.items (c.hang.ensures start)

pub returns-clause-law : goal.returns-clause-law
returns-clause-law g c = λ start.
    let book = c.args.book.now in
    fitted_in_order (keys_in book) (g.C.Chest.meaning c.args.bottom) g.C.Chest.meaning g.C.Chest.settled book.wires.items c.hang.result (returns-clause-cases g c start)

pub returns-clause-lines : goal.returns-clause-lines
returns-clause-lines g c = λ start rise.
    let book = c.args.book.now in
    refused_on_line (keys_in book) (g.C.Chest.meaning c.args.bottom) g.C.Chest.meaning book.wires.items c.hang.result rise (returns-clause-law g c start)

pub returns-clause-paths : goal.returns-clause-paths
returns-clause-paths g c = λ start.
    let book = c.args.book.now in
    paths_of (keys_in book) (g.C.Chest.meaning c.args.bottom) g.C.Chest.meaning book.wires.items c.hang.result (returns-clause-law g c start)

pub returns-clause-made : goal.returns-clause-made
returns-clause-made g c = λ start.
    let book = c.args.book.now in
    new_stack (keys_in book) (g.C.Chest.meaning c.args.bottom) g.C.Chest.meaning book.wires.items c.hang.result (returns-clause-law g c start)

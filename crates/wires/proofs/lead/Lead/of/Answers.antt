use Rattle.std.proofs.Common.{rules, arith}
use Rattle.std.proofs.lemmas.Bool.Decides.{nat_tests}
use Rattle.std.proofs.lemmas.Grind.{common_steps}
use Rattle.coupling.specs.KeyDesk.{own}
use Rattle.wires.specs.Fitting.{lead_of}
use Rattle.wires.proofs.FirstFault.{wire-answered}
use Rattle.wires.proofs.Offered.{leads-answered}
use Rattle.wires.proofs.lead.Lead.of.Goals as goal

pub overflow_cast-result-5 : goal.overflow_cast-result-5
overflow_cast-result-5 g c =
    let within = c.if-not-contains.ensures.cases in
    let range = c.new.ensures in
    grind (arith, nat_tests, within.0, within.1, range.start, range.end, c.from-most.ensures)

pub returns-clause-law : goal.returns-clause-law
returns-clause-law g c =
    wire-answered (own c.args.desk.now) (g.C.Chest.meaning c.args.below.now).reach c.args.wire (lead_of c.args.wire) _ (first_of (search rules, grind (arith, common_steps)))

pub returns-clause-leads : goal.returns-clause-leads
returns-clause-leads g c =
    leads-answered (own c.args.desk.now) (g.C.Chest.meaning c.args.below.now).reach c.args.wire _ (first_of (search rules, grind (arith, common_steps)))

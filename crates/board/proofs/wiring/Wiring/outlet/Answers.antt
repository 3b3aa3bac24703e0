use Rattle.std.proofs.Common.{Some, ◌+◌, ◌-◌, sym, ◌∙◌, arith}
use Rattle.coupling.proofs.Desks.{beneath_most, beneath_row}
use Rattle.board.specs.Wiring.{beneath, panel}
use Rattle.board.proofs.Indexes.{outlet_some}
use Rattle.board.proofs.wiring.Wiring.outlet.Goals as goal

pub overflow_sub-result : goal.overflow_sub-result
overflow_sub-result c =
    let h = c.args.self.now in
    let some = outlet_some (beneath h) (panel h) c.args.w.now c.args.key.row c.args.key.place c.requires in
    omega (arith, some.0, c.from-2.ensures, c.from-3.ensures)

pub invariant_of-result : goal.invariant_of-result
invariant_of-result c =
    let h = c.args.self.now in
    let w = c.args.w.now in
    let some = outlet_some (beneath h) (panel h) w c.args.key.row c.args.key.place c.requires in
    let most = beneath_most h.desk w.to in
    let row = beneath_row h.desk w.to _ some.1 in
    record {
      row_in = omega (arith, row, c.from.ensures);
      place_in = omega (arith, most, some.1, c.from-2.ensures, c.from-3.ensures);
    }

pub returns : goal.returns
returns c =
    let h = c.args.self.now in
    let some = outlet_some (beneath h) (panel h) c.args.w.now c.args.key.row c.args.key.place c.requires in
    some.2 ∙ (λ i. Some (sym c.from.ensures i, c.args.key.place + sym c.from-2.ensures i - sym c.from-3.ensures i))

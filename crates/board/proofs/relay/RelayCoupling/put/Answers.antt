-- The key is put, and stands below; one that does not move leaves all as it was.
use Rattle.std.proofs.Common.{not, sym, refl, ap, ◌∙◌, subst}
use Rattle.std.proofs.lemmas.Bool.{false≢true}
use Rattle.wires.specs.Wired.{image_with, wired_layout, with_key}
use Rattle.coupling.proofs.Boards.{key_there, put-there, put-unmoved}
use Rattle.board.specs.Wiring.{wired, wires}
use Rattle.board.specs.Relay.{relay_layout}
use Rattle.board.specs.Counts.{Exact}
use Rattle.board.proofs.Standing.{counted}
use Rattle.board.proofs.relay.RelayCoupling.put.Goals as goal

pub swing_key-requires-clause-other : goal.swing_key-requires-clause-other
swing_key-requires-clause-other g c =
    let self = c.args.self.now in
    let at = c.args.at in
    (key_there (relay_layout self) at.row at.place c.args.on (sym (c.moves.ensures (image_with (wires self.wiring))) ∙ c.if-moves.true)).1 ∙ ap not (sym c.from.ensures)

pub put-requires : goal.put-requires
put-requires g c =
    let self = c.args.self.now in
    let at = c.args.at in
    (key_there (relay_layout self) at.row at.place c.args.on (sym (c.moves.ensures (image_with (wires self.wiring))) ∙ c.if-moves.true)).0

pub invariant_of-self : goal.invariant_of-self
invariant_of-self g c =
    let w = wired c.args.self.now.wiring in
    let at = c.args.at in
    record { exact = subst (Exact c.swing_key.new.self.table) (ap (with_key w at.row at.place) c.from.ensures ∙ sym c.put.ensures) c.swing_key.ensures.exact }

pub returns-then-moves : goal.returns-then-moves
returns-then-moves g c =
    let self = c.args.self.now in
    let w = wired self.wiring in
    let l = relay_layout self in
    let at = c.args.at in
    let on = c.args.on in
    let moves = sym (c.moves.ensures (image_with (wires self.wiring))) ∙ c.if-moves.true in
    let there = key_there l at.row at.place on moves in
    let exact = subst (λ on. Exact c.swing_key.new.self.table (with_key w at.row at.place on)) c.from.ensures c.swing_key.ensures.exact in
    record {
      own = ap wired_layout c.put.ensures ∙ sym (put-there l at.row at.place on there.0);
      still = λ no. absurd (false≢true (sym no ∙ moves));
      kept = ap (λ v. v.wires) c.put.ensures;
      obeys = counted g.C.Chest.meaning g.C.Chest.settled self.wiring.desk w (with_key w at.row at.place on) (wired c.put.new.self) self.ways.table c.swing_key.new.self.table c.args.below.now c.swing_key.new.below refl refl c.put.ensures self.exact exact c.swing_key.ensures.keeps;
    }

pub returns-else-moves-clause-own : goal.returns-else-moves-clause-own
returns-else-moves-clause-own g c =
    let self = c.args.self.now in
    let at = c.args.at in
    sym (put-unmoved (relay_layout self) at.row at.place c.args.on (sym (c.moves.ensures (image_with (wires self.wiring))) ∙ c.if-moves.false))

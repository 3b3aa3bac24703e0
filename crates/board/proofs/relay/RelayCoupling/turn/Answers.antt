-- The knob turns, and below stands what is then wanted.
use Rattle.std.proofs.Common.{refl}
use Rattle.wires.specs.Wired.{with_knob}
use Rattle.board.specs.Wiring.{wired}
use Rattle.board.proofs.Standing.{counted}
use Rattle.board.proofs.relay.RelayCoupling.turn.Goals as goal

pub returns-clause-obeys : goal.returns-clause-obeys
returns-clause-obeys g c =
    let self = c.args.self.now in
    let w = wired self.wiring in
    let to = c.args.to in
    counted g.C.Chest.meaning g.C.Chest.settled self.wiring.desk w (with_knob w to.knob to.position) (wired c.turn.new.self) self.ways.table c.swing_knob.new.self.table c.args.below.now c.swing_knob.new.below refl refl c.turn.ensures self.exact c.swing_knob.ensures.exact c.swing_knob.ensures.keeps

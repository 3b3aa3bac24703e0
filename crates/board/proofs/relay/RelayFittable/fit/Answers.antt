-- With no key set a wire more gives no way.
use Rattle.std.proofs.Common.{sym, ◌∙◌, subst}
use Rattle.coupling.proofs.Some.{free_of}
use Rattle.wires.proofs.Images.{ways_push_free}
use Rattle.board.specs.Wiring.{wired}
use Rattle.board.specs.Relay.{relay_layout, relay_sound}
use Rattle.board.specs.Counts.{Exact}
use Rattle.board.proofs.relay.RelayFittable.fit.Goals as goal

pub invariant_of-self : goal.invariant_of-self
invariant_of-self g c =
    let self = c.args.self.now in
    let w = wired self.wiring in
    let free = free_of (relay_layout self) (relay_sound self) (sym c.is_free.ensures ∙ c.if-not-is_free.false) in
    record { exact = subst (Exact self.ways.table) (sym c.add.ensures) (λ b q within. self.exact b q within ∙ sym (ways_push_free w.below w.wires _ w.panel w.register b q free)) }

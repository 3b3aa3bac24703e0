-- One knob of the desk is turned, and the wires stay.
use Rattle.std.proofs.Common.{sym, ap, ◌∙◌}
use Rattle.wires.specs.Wires.{live}
use Rattle.wires.specs.Wired.{image_with}
use Rattle.board.specs.Wiring.{wires}
use Rattle.board.specs.Among.{among, lands}
use Rattle.board.proofs.wiring.Wiring.turn.Goals as goal

pub invariant_of-self : goal.invariant_of-self
invariant_of-self c =
    let h = c.args.self.now in
    let own = c.turn.ensures (image_with (wires h)) in
    record {
      few = h.few;
      alive = c.live_after-self.ensures ∙ sym (ap (λ l. among (live l.panel) (wires h)) own);
      leading = h.leading;
      landing = λ p hp. h.landing p hp ∙ sym (ap (λ l. among (lands l.below p) (wires h)) own);
      waits = h.waits;
    }

pub returns : goal.returns
returns c =
    let h = c.args.self.now in
    let own = c.turn.ensures (image_with (wires h)) in
    λ i. record { reach = (own i).reach; below = (own i).below; wires = wires h; panel = (own i).panel; register = (own i).register }

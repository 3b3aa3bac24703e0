-- One key of the desk is put, and the wires stay.
use Rattle.std.proofs.Common.{◌≡◌, sym, ap, ◌∙◌}
use Rattle.coupling.specs.Layout.{with_key}
use Rattle.coupling.specs.KeyDesk.{layout_of}
use Rattle.coupling.proofs.Boards.{put-there}
use Rattle.wires.specs.Wires.{live}
use Rattle.wires.specs.Wired.{image_with}
use Rattle.board.specs.Wiring.{wires}
use Rattle.board.specs.Among.{among, lands}
use Rattle.board.proofs.wiring.Wiring.put.Goals as goal

pub invariant_of-self : goal.invariant_of-self
invariant_of-self c =
    let h = c.args.self.now in
    let at = c.args.at in
    let own = c.put.ensures (image_with (wires h)) ∙ put-there (layout_of h.desk (image_with (wires h))) at.row at.place c.args.on c.requires in
    record {
      few = h.few;
      alive = h.alive ∙ sym (ap (λ l. among (live l.panel) (wires h)) own);
      leading = h.leading;
      landing = λ p hp. h.landing p hp ∙ sym (ap (λ l. among (lands l.below p) (wires h)) own);
      waits = h.waits;
    }

pub returns : goal.returns
returns c =
    let h = c.args.self.now in
    let at = c.args.at in
    let own : layout_of c.put.new.self (image_with (wires h)) ≡ with_key (layout_of h.desk (image_with (wires h))) at.row at.place c.args.on = c.put.ensures (image_with (wires h)) ∙ put-there (layout_of h.desk (image_with (wires h))) at.row at.place c.args.on c.requires in
    λ i. record { reach = (own i).reach; below = (own i).below; wires = wires h; panel = (own i).panel; register = (own i).register }

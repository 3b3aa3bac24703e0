-- The wires that lead somewhere from the key and are live.
use Rattle.std.proofs.Common.{◌&&◌, ◌∙◌}
use Rattle.sets.specs.Numbers.{both}
use Rattle.wires.specs.Wires.{live}
use Rattle.board.specs.Wiring.{beneath, panel, wires}
use Rattle.board.specs.Among.{among, leads_from, lands}
use Rattle.board.proofs.Among.{among_both}
use Rattle.board.proofs.Indexes.{carries}
use Rattle.board.proofs.wiring.Wiring.wires_from.Goals as goal

pub returns : goal.returns
returns c =
    let h = c.args.self.now in
    let key = c.args.key in
    c.both.ensures
    ∙ (λ i k. (c.of.ensures ∙ (λ j. both (h.leading key.row key.row_in j) (h.landing key.place key.place_in j))) i k && h.alive i k)
    ∙ (λ i k. among_both (leads_from key.row) (lands (beneath h) key.place) (wires h) k i && among (live (panel h)) (wires h) k)
    ∙ (λ i k. among_both (λ w. leads_from key.row w && lands (beneath h) key.place w) (live (panel h)) (wires h) k i)
    ∙ (λ i. among (λ w. carries (beneath h) (panel h) w key.row key.place i) (wires h))

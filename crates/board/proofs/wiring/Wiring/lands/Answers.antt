use Rattle.std.proofs.Common.{◌&&◌, cond, nat_le, None, ap, ◌∙◌}
use Rattle.chest.specs.Reaches.{reaches_of}
use Rattle.wires.specs.Wires.{landing}
use Rattle.board.proofs.wiring.Wiring.lands.Goals as goal

pub returns : goal.returns
returns c =
    let w = c.args.w in
    let key = c.args.key in
    record {
      place = c.lands.ensures.place ∙ ap (λ t. cond (nat_le w.lowest key && nat_le key w.highest) (landing w.raise (reaches_of t w.to) key) None) c.below.ensures;
      row = c.lands.ensures.row;
    }

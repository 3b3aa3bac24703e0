-- Below is cleared, and the board knows its reaches and positions.
use Rattle.std.proofs.Common.{◌≡◌, ◌∙◌, subst}
use Rattle.chest.specs.Meaning.{Panel}
use Rattle.coupling.specs.Layout.{Reaches, new_layout}
use Rattle.coupling.specs.Making.{new_over}
use Rattle.chest.specs.Places.{none}
use Rattle.coupling.proofs.Boards.{new-board, positions_held}
use Rattle.coupling.proofs.board.Board.new.Goals as goal

pub returns : goal.returns
returns g c =
    let bare_image = g.K.Coupling.bare_image in
    let m = g.C.Chest.meaning c.clear.new.chest in
    let reach = c.reaches.ensures in
    let panel = c.new-positions.ensures ∙ positions_held m c.positions.result (g.met.C.Chest.bounded c.clear.new.chest) c.positions.ensures.value in
    let lay : g.K.Coupling.layout c.over.result ≡ new_over bare_image c.args.reaches m = c.over.ensures.value ∙ c.new-desk.ensures bare_image ∙ (λ i. new_layout bare_image c.args.reaches (reach i) (panel i)) in
    let silent = subst (λ x. (reach : Reaches) (panel : Panel) → x.image reach panel none ≡ none) c.over.ensures.value (g.met.K.Coupling.sound c.over.result).silent in
    record {
      items = lay;
      bare = c.over.ensures.bare;
      cleared = c.clear.ensures;
      after = λ settled.
          let below = c.clear.ensures settled in
          let made = new-board bare_image silent (g.K.Coupling.layout c.over.result) (g.C.Chest.meaning c.args.below) m c.args.reaches lay below.1 in
          ((below.0, made.0), made.1);
    }

use Rattle.std.proofs.Common.{◌≡◌, sym, ◌∙◌, subst, rules, false-eqb}
use Rattle.book.specs.Pieces.{shape_of}
use Rattle.book.specs.Reading.{some_form}
use Rattle.book.specs.Shapes.{Shapes}
use Rattle.book.proofs.Lining.{line_shaped}
use Rattle.book.proofs.passage.Passage.read.Goals as goal

pub returns : goal.returns
returns c =
    let line = c.args.self.line in
    let text = c.args.self.text.now in
    let shape = subst (λ o. Shapes line o (shape_of text)) c.in_ok-parts.ensures.ok_part c.read_shape.ensures in
    let mapped : c.map.result ≡ some_form c.read_form.result = search rules in
    mapped ∙ line_shaped line text c.in_ok-parts.parts c.read_form.result (sym c.in_default.is ∙ c.first_outside.ensures) (false-eqb _ 0 c.if-is_empty.ensures) shape c.read_form.ensures

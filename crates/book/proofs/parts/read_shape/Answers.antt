use Rattle.std.proofs.Common.{◌≡◌, ◌∷◌, sym, ap, ◌∙◌, subst}
use Rattle.book.specs.Bytes.{opening}
use Rattle.book.specs.Pieces.{pieces, run, mark, letters, shape_of}
use Rattle.book.specs.Shapes.{Shapes}
use Rattle.book.specs.Token.{token_before}
use Rattle.book.proofs.Counting.{shape_some, shape_none}
use Rattle.book.proofs.parts.read_shape.Goals as goal
use Rattle.book.proofs.parts.read_shape.Goals.{In-Word}

-- the bracket and the word come off the front
front : (c : In-Word) → pieces c.args.line.text.now ≡ mark opening ∷ (run letters c.in-Word.word.now ∷ pieces c.next_token-2.new.self.text.now)
front c =
    c.in_ok-next_token.ensures.answer.2 ∙ ap (λ t. token_before t (pieces c.next_token.new.self.text.now)) c.in-Open.is ∙
    ap (λ ps. mark opening ∷ ps) (c.in_ok-head.ensures.answer.2 ∙ ap (λ t. token_before t (pieces c.next_token-2.new.self.text.now)) c.in-Word.is)

pub returns-in_err-numbers : goal.returns-in_err-numbers
returns-in_err-numbers c =
    subst (λ r. Shapes c.args.line.line r (shape_of c.args.line.text.now)) (sym c.from_residual-in_err-numbers.ensures)
    (shape_none c.args.line.line c.args.line.text.now _ _ (front (goal.at.returns-in_err-numbers c).In-Word) c.in_err-numbers.ensures)

pub returns : goal.returns
returns c =
    shape_some c.args.line.line c.args.line.text.now (record { word = c.in-Word.word; line = c.in_ok-head.head.line; numbers = c.in_ok-numbers.numbers }) _ (front (goal.at.returns c).In-Word) (c.in_ok-head.ensures.answer.0 ∙ c.next_token.ensures.same) c.in_ok-numbers.ensures

use Rattle.std.proofs.Common.{ap, ◌∙◌, w16, SFits, rules, false-eqb}
use Rattle.std.proofs.lemmas.Int.{to_z-of_z}
use Rattle.book.specs.Pieces.{pieces, numbers_of}
use Rattle.book.specs.Token.{token_before}
use Rattle.book.proofs.Counting.{stop, go_on, kept_more, none-after_close}
use Rattle.book.proofs.parts.read_numbers.Goals as goal

pub loop-text-preserved : goal.loop-text-preserved
loop-text-preserved c =
    let after = c.next_token.new.self.text.now in
    let told = c.in_ok-text.ensures.answer in
    let z = c.in_ok-read_numeral-in-Number.field-0 in
    let p = c.try_push.ensures in
    let fits : SFits w16 z = search rules in
    go_on _ _ _ _ after _ z c.loop-text.invariant (told.2 ∙ ap (λ t. token_before t (pieces after)) c.in-Number.is) c.in_ok-read_numeral-in-Number.ensures (kept_more _ _ _ z _ c.try_push.result p.variant.0 p.ok p.err p.full (to_z-of_z w16 z fits) c.loop-text.invariant.kept)

pub returns-else-is_empty : goal.returns-else-is_empty
returns-else-is_empty c =
    let after = c.next_token.new.self.text.now in
    let cut = c.in_ok-text.ensures.answer.2 ∙ ap (λ t. token_before t (pieces after)) c.in-Close.is in
    stop _ _ _ c.loop-text.invariant (ap numbers_of cut ∙ none-after_close after (false-eqb _ 0 c.if-is_empty.ensures))

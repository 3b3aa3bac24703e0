use Rattle.std.proofs.Common.{◌≡◌, pos, ◌∙◌, ap, rules, w16, of_z}
use Rattle.book.proofs.Digital.{minus-some}
use Rattle.book.proofs.numerals.read_numeral.Goals as goal

pub returns : goal.returns
returns c =
    let t = c.try_from-2.ensures in
    let e = c.in_ok-n.ensures in
    let n = c.in_ok-size-2 in
    let is : c.in_ok-n.n ≡ pos n.field-0 = search rules in
    minus-some c.args.text.now n.field-0 c.in_ok-n.n c.if-first-ne45.false n.ensures.value is (λ none. c.if-n-eq0.false (ap (of_z w16) (is ∙ ap pos none))) n.ensures.bound

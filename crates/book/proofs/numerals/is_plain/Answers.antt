use Rattle.std.proofs.Common.{◌≡◌, ◌∙◌, rules, tests, arith}
use Rattle.std.specs.Char.{is_ascii_digit}
use Rattle.std.specs.Str.{all_ascii_digits}
use Rattle.std.proofs.lemmas.Bool.Decides.{nat_tests}
use Rattle.std.proofs.lemmas.Iterator.{YieldsList-from_slice}
use Rattle.std.proofs.lemmas.Iterator.Search.{all_from_yields_List}
use Rattle.book.proofs.Digital.{all_digits}
use Rattle.book.proofs.numerals.is_plain.Goals as goal

pub returns-then-digits-ne48 : goal.returns-then-digits-ne48
returns-then-digits-ne48 c =
    let all : c.all.result ≡ all_ascii_digits c.args.digits.now = all_from_yields_List is_ascii_digit _ _ c.all.result c.all.ensures.ran (YieldsList-from_slice c.args.digits.now (cc)) (λ x b q k. search (rules, tests)) ∙ all_digits c.args.digits.now in
    grind (arith, nat_tests)

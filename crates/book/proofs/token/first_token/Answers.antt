use Rattle.std.proofs.Common.{◌≡◌, length, sym, subst, arith, rules}
use Rattle.std.proofs.lemmas.List.{take_rest}
use Rattle.std.specs.Option.{option_map}
use Rattle.book.specs.Bytes.{letter, numeric}
use Rattle.book.specs.declared.token.Token.TheVariants.{Word, Number}
use Rattle.book.specs.Token.{Cuts}
use Rattle.book.proofs.Cutting.{split_first, number_cut, word_cut}
use Rattle.book.proofs.token.first_token.Goals as goal

pub returns-in-32 : goal.returns-in-32
returns-in-32 c =
    let text = c.args.text.now in
    let first = split_first text 32 _ (λ (e : length text ≡ 0). omega arith) c.in-32.is (take_rest text 1) in
    let mapped : c.map.result ≡ option_map (λ r. (Number r.0, r.1)) c.run.result = search rules in
    subst (Cuts text) (sym mapped) (number_cut text _ _ first (c.run.ensures numeric (λ b r says. search rules)))

pub returns-in_default-first : goal.returns-in_default-first
returns-in_default-first c =
    let text = c.args.text.now in
    let mapped : c.map-in_default-first.result ≡ option_map (λ r. (Word r.0, r.1)) c.run-in_default-first.result = search rules in
    subst (Cuts text) (sym mapped) (word_cut text _ (search rules) (search rules) (search rules) (c.run-in_default-first.ensures letter (λ b r says. search rules)))

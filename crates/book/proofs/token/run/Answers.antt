use Rattle.std.proofs.Common.{◌≡◌, ℕ, Bool, sym, ap, ◌∙◌, subst, rules}
use Rattle.std.proofs.lemmas.Iterator.{YieldsList-from_slice}
use Rattle.std.proofs.lemmas.Iterator.Consumers.{count_from_yields_List}
use Rattle.std.proofs.lemmas.Iterator.Search.{YieldsList-from_take_while}
use Rattle.std.proofs.lemmas.List.Folds.{length-prefix_len}
use Rattle.std.specs.Fn.{FnReturnsAt}
use Rattle.std.specs.List.{prefix_len}
use Rattle.book.proofs.token.run.Goals as goal
use Rattle.book.proofs.token.run.Given as given
use Rattle.book.proofs.token.run.Goals.{After-count}
use Rattle.std.specs.Prelude.{take, drop}

counted : (g : given.Over) (c : After-count g) (p : ℕ → Bool) → ((b : ℕ) (r : Bool) → FnReturnsAt g.F.Fn c.args.class b r → r ≡ p b) → c.count.result ≡ prefix_len p c.args.text.now
counted g c p says =
    count_from_yields_List c.take_while.result _ c.count.ensures.ran (YieldsList-from_take_while _ p (YieldsList-from_slice c.args.text.now (cc)) c.take_while.ensures.closure c.take_while.ensures.done (λ x b q k. (search rules, says x.now b (subst (λ y. FnReturnsAt g.F.Fn c.args.class y.now b) k.shows (search rules))))) ∙ length-prefix_len p c.args.text.now

pub returns-in-0 : goal.returns-in-0
returns-in-0 g c p says = sym (counted g (goal.at.returns-in-0 g c).After-count p says) ∙ c.in-0.is

pub returns : goal.returns
returns g c p says =
    let n = counted g (goal.at.returns g c).After-count p says in
    let some : c.count.result ≡ 0 → ⊥ = search rules in
    (λ none. some (n ∙ none), c.split_at.ensures.front ∙ ap (λ k. take k c.args.text.now) n, c.split_at.ensures.back ∙ ap (λ k. drop k c.args.text.now) n)

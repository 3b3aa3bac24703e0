use Rattle.std.proofs.Common.{◌≡◌, ◌<◌, rules, arith}
use Rattle.chest.proofs.Arrays.{from_fn_each, from_fn_all}
use Rattle.chest.proofs.walks.positions.Goals as goal

pub returns-clause-value : goal.returns-clause-value
returns-clause-value g c = λ k low.
    from_fn_each _ (λ i y. y ≡ (g.C.Chest.meaning c.args.chest.now).panel i) _ (λ i y q call. search rules) _ 64 k 0 c.from_fn.ensures.items low

pub returns-clause-bound : goal.returns-clause-bound
returns-clause-bound g c = from_fn_all _ (λ y. y < 16) _ (λ i y q call. search rules) (omega arith) _ 64 c.from_fn.ensures.items

use Rattle.std.proofs.Common.{◌≡◌, ◌≤◌, ◌∙◌, rules}
use Rattle.chest.proofs.Arrays.{from_fn_each, reaches_held}
use Rattle.chest.proofs.walks.reaches.Goals as goal

pub returns : goal.returns
returns g c =
    let m = g.C.Chest.meaning c.args.chest.now in
    c.new.ensures
    ∙ reaches_held c.from_fn.result m.reach (λ r low. from_fn_each _ (λ i y. (y ≡ m.reach i) × (y ≤ 128)) _ (λ i y q call. search rules) _ 16 r 0 c.from_fn.ensures.items low) (g.met.C.Chest.bounded c.args.chest.now).rows

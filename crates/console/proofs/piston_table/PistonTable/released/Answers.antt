use Rattle.std.proofs.Common.{◌≡◌, ℕ, ◌<◌, get_or, Some, None, Option, rules, refl, ap, ◌∙◌, arith}
use Rattle.std.specs.Option.{option_map, option_and_then}
use Rattle.std.proofs.lemmas.Bool.Decides.{nat_tests}
use Rattle.console.specs.declared.piston_table.Piston.{Piston}
use Rattle.console.proofs.piston_table.PistonTable.released.Goals as goal

abbrev emptied : Option Piston → Option Piston
emptied o = option_map (λ kept. record { scope = kept.scope; frame = None }) o

same_scope : (o : Option Piston) → option_map (λ x. x.scope) (emptied o) ≡ option_map (λ x. x.scope) o
same_scope None = refl
same_scope (Some kept) = refl

no_frame : (o : Option Piston) → option_and_then (λ x. x.frame) (emptied o) ≡ None
no_frame None = refl
no_frame (Some kept) = refl

pub returns : goal.returns
returns c =
    let each : (q : ℕ) → q < 40 → get_or c.map.result q None ≡ emptied (get_or c.args.self.pistons q None) = λ q low. let (f, g, at) = c.map.ensures.items.at q None None low in search rules in
    record {
      scope = λ q. let same : q < 40 → option_map (λ x. x.scope) (get_or c.map.result q None) ≡ option_map (λ x. x.scope) (get_or c.args.self.pistons q None) = λ low. ap (option_map (λ x. x.scope)) (each q low) ∙ same_scope _ in grind (arith, nat_tests);
      frame = λ q. let none : q < 40 → option_and_then (λ x. x.frame) (get_or c.map.result q None) ≡ None = λ low. ap (option_and_then (λ x. x.frame)) (each q low) ∙ no_frame _ in grind (arith, nat_tests);
    }

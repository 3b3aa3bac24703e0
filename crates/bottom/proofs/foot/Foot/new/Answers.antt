use Rattle.std.proofs.Common.{◌≡◌, ℕ, sym, ap, ◌∙◌, rules, arith}
use Rattle.std.proofs.lemmas.Bool.{false≢true}
use Rattle.chest.specs.Places.{Places}
use Rattle.chest.specs.Reaches.{reach_of, reaches_of}
use Rattle.chest.proofs.Counts.{changed-same}
use Rattle.bottom.proofs.Kept.{panel_zero}
use Rattle.bottom.proofs.Tables.{shown-zeros}
use Rattle.bottom.proofs.foot.Foot.new.Goals as goal

pub invariant_of-result-clause-stands : goal.invariant_of-result-clause-stands
invariant_of-result-clause-stands c k = omega (arith, panel_zero k, ap (λ (f : ℕ → ℕ). f k) c.new-2.ensures)

pub invariant_of-result-clause-inside : goal.invariant_of-result-clause-inside
invariant_of-result-clause-inside c r p h = absurd (false≢true (sym (ap (λ (s : Places). s r p) shown-zeros) ∙ h))

pub invariant_of-result-clause-exact : goal.invariant_of-result-clause-exact
invariant_of-result-clause-exact c = changed-same _

pub returns : goal.returns
returns c =
    let reach : reaches_of c.new.result ≡ reach_of c.args.reaches = search rules in
    λ i.
    record {
      reach = reach i;
      register = shown-zeros i;
      panel = (c.new-2.ensures ∙ (λ j k. panel_zero k j)) i;
      speaking = shown-zeros i;
      strobes = 0;
      rule = λ panel register. register;
    }

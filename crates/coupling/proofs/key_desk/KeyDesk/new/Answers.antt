-- No key.
use Rattle.std.proofs.Common.{◌≡◌, ℕ, get_or, replicate, sym, refl, ap, ◌∙◌}
use Rattle.std.proofs.lemmas.Bool.{false≢true}
use Rattle.fittings.proofs.Filled.{replicated}
use Rattle.chest.specs.Positions.{positions_of}
use Rattle.chest.specs.Reaches.{reaches_of}
use Rattle.sets.specs.Numbers.{nothing}
use Rattle.sets.specs.NumberSet.{members, empty}
use Rattle.sets.specs.declared.number_set.NumberSet.{NumberSet}
use Rattle.sets.proofs.Joined.{members_empty}
use Rattle.coupling.proofs.key_desk.KeyDesk.new.Goals as goal

-- no row has a key
free : (s : NumberSet) → members s ≡ nothing → (r : ℕ) → members (get_or (replicate 16 s) r empty) ≡ nothing
free s is r = replicated (λ t. members t ≡ nothing) 16 r s empty is members_empty

pub invariant_of-result : goal.invariant_of-result
invariant_of-result c =
    record {
      manual = refl;
      held = λ r p is. absurd (false≢true (sym (ap (λ s. s p) (free c.none.result c.none.ensures r)) ∙ is));
    }

pub returns : goal.returns
returns c = λ image.
    λ i. record { reach = c.new.ensures i; below = reaches_of c.args.below; panel = positions_of c.args.positions; register = λ r. free c.none.result c.none.ensures r i; image = image }

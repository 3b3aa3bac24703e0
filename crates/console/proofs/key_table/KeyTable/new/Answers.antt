use Rattle.std.proofs.Common.{◌≡◌, ℕ, false, [], is_some, None, refl, ap}
use Rattle.console.specs.declared.key_table.Division.{Division}
use Rattle.console.specs.KeyTable.{key_at, held_at}
use Rattle.fittings.proofs.Filled.{replicated}
use Rattle.console.proofs.key_table.KeyTable.new.Goals as goal

pub returns : goal.returns
returns c =
    let off = c.silent.ensures.sustain in
    let each = λ (P : Division → Type 0) (d : ℕ). replicated P 16 d c.silent.result (record { down = []; sustained = None }) in
    λ i. record {
      down = λ d k. each (λ x. key_at x.down k ≡ false) d (c.silent.ensures.down k) refl i;
      sustained = λ d k. each (λ x. held_at x.sustained k ≡ false) d (ap (λ o. held_at o k) off) refl i;
      sustain = λ d. each (λ x. is_some x.sustained ≡ false) d (ap is_some off) refl i;
    }

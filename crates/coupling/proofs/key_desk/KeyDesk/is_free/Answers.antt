use Rattle.std.proofs.Common.{not, refl, ap, ◌∙◌, rules}
use Rattle.std.proofs.lemmas.Iterator.{YieldsList-from_range}
use Rattle.std.proofs.lemmas.Iterator.Search.{any_from_yields_List}
use Rattle.coupling.specs.Some.{some}
use Rattle.coupling.specs.KeyDesk.{register}
use Rattle.coupling.proofs.Some.{some_of_range}
use Rattle.coupling.proofs.key_desk.KeyDesk.is_free.Goals as goal

pub returns : goal.returns
returns c =
    ap not (any_from_yields_List (λ r. some 128 (register c.args.self.now r)) _ _ _ c.any.ensures.ran (YieldsList-from_range 0 16 16 refl refl) (λ x b q k. search rules) ∙ some_of_range 16 (λ r. some 128 (register c.args.self.now r)))

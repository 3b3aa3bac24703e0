-- The one line is listed, and that is the text's listing.
use Rattle.std.proofs.Common.{◌++◌, ◌∙◌, vec_items, ap}
use Rattle.std.proofs.lemmas.Result.{IfOk-weaker}
use Rattle.organ.specs.Line.{line_bytes}
use Rattle.recital.specs.Performing.{Performs}
use Rattle.recital.proofs.Judgements.{added, listing_law}
use Rattle.recital.proofs.performing.perform.Goals as goal

pub returns-in-Err-clause-performs : goal.returns-in-Err-clause-performs
returns-in-Err-clause-performs c =
    let bytes = c.args.line.now in
    added c.add_to.result (vec_items c.args.listing.now) (vec_items c.add_to.new.listing) (line_bytes c.in-Err.refused) (Performs c.args.text.now bytes) (c.in-Err.ensures.cases bytes) c.add_to.ensures.items

pub returns-in-Err-clause-items : goal.returns-in-Err-clause-items
returns-in-Err-clause-items c =
    IfOk-weaker c.add_to.result _ _ (λ x g. g.1 ∙ ap (λ l. vec_items c.args.listing.now ++ l) (listing_law c.args.text.now c.args.line.now g.0 g.2)) (returns-in-Err-clause-performs c)

-- The answers for `play`: no byte yet, one more, and what the listing then has more.
use Rattle.std.proofs.Common.{get_or, vec_items, subst, arith}
use Rattle.std.proofs.lemmas.List.{take_more, take_all}
use Rattle.recital.specs.Recital.{GoesOn}
use Rattle.recital.proofs.Bytes.{goes_none, goes_more}
use Rattle.recital.proofs.Portions.{lists_on}
use Rattle.recital.proofs.recital.Recital.play.Goals as goal

pub loop-byte-init : goal.loop-byte-init
loop-byte-init g c = (
  omega (arith, c.in_ok-make_room.ensures.cases),
  goes_none c.args.self.now (vec_items c.make_room.new.listing),
)

pub loop-byte-preserved : goal.loop-byte-preserved
loop-byte-preserved g c =
    let bytes = c.args.bytes.now in
    let i = c.loop-byte.byte-index in (
      omega (arith, c.loop-byte.invariant.0, c.hear.ensures.bound.0, c.hear.ensures.bound.1),
      rw (take_more bytes i 0 c.loop-byte-test.true) (goes_more c.args.self.now c.loop-byte.self c.hear.new.self _ _ (vec_items c.loop-byte.listing) _ (get_or bytes i 0) c.loop-byte.invariant.1 c.hear.ensures.law),
    )

pub returns-clause-items : goal.returns-clause-items
returns-clause-items g c =
    let bytes = c.args.bytes.now in
    let old = vec_items c.args.listing.now in
    let new = vec_items c.loop-byte.listing in
    let played = rw (take_all c.loop-byte.byte-index bytes c.loop-byte-test.false) at c.loop-byte.invariant.1 in
    let goes = subst (λ xs. GoesOn g.C.Chest.meaning g.C.Chest.settled c.args.self.now c.loop-byte.self bytes xs new) c.make_room.ensures.items played in
    λ text line u. lists_on c.args.self.now c.loop-byte.self bytes old new text line goes u

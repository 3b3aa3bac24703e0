-- The answers for `respond_all`: one message more, and all.
use Rattle.std.proofs.Common.{◌≡◌, ◌≢◌, ◌<◌, ℕ, zero, suc, false, is_ok, List, [], ◌∷◌, IfErr, length, get_or, take, vec_items, Ok, sym, refl, ap, ◌∙◌, subst, true≢false, arith, rules}
use Rattle.std.proofs.lemmas.List.{take_more}
use Rattle.std.proofs.lemmas.Result.{IfOk-at_ok, err_from_is_err_and}
use Rattle.std.specs.List.{HoldsAt}
use Rattle.organ.specs.declared.action.Action.TheVariants.{Nothing}
use Rattle.organ.specs.Line.{LacksRoom}
use Rattle.organ.specs.Responses.{LacksRoomAt, Responds}
use Rattle.midi.specs.declared.message.Message.TheVariants.{NoteOff}
use Rattle.organ.specs.Action.{action_of}
use Rattle.organ.specs.Answered.{Answered}
use Rattle.organ.proofs.Answering.{answered_more}
use Rattle.organ.proofs.response.respond_all.Goals as goal

pub loop-answered-preserved : goal.loop-answered-preserved
loop-answered-preserved g c = (
  (omega (arith, c.respond.ensures.bound.0, c.loop-answered.invariant.0.0), omega (arith, c.respond.ensures.bound.1, c.loop-answered.invariant.0.1)),
  λ s p t.
      let ms = c.args.messages.now in
      let i = c.loop-answered.answered-counter in
      let m = get_or ms i (NoteOff 0 0 0) in
      let fine : c.respond.result ≡ Ok tt = search rules in
      let response = IfOk-at_ok (λ _. Responds g.C.Chest.meaning g.C.Chest.settled (action_of m) c.loop-answered.console c.respond.new.console (vec_items c.loop-answered.listing) (vec_items c.respond.new.listing)) fine c.respond.ensures.answers in
      rw (take_more ms i (NoteOff 0 0 0) c.loop-answered-test.true) (answered_more m (c.loop-answered.invariant.1 s p t) response),
)

pub returns-clause-answers : goal.returns-clause-answers
returns-clause-answers g c = λ s p t.
    let ms = c.args.messages.now in
    let all : c.loop-answered.answered-counter ≡ length ms = omega arith in
    subst (λ n. Answered g.C.Chest.meaning g.C.Chest.settled c.args.console.now c.loop-answered.console s p (take n ms) (vec_items c.args.listing.now) (vec_items c.loop-answered.listing)) all (c.loop-answered.invariant.1 s p t)

-- any default serves within a list
same_at : {X : Type 0} → (xs : List X) (i : ℕ) (d e : X) → i < length xs → get_or xs i d ≡ get_or xs i e
same_at [] i d e low = absurd (omega (arith, low))
same_at (x ∷ xs) zero d e low = refl
same_at (x ∷ xs) (suc i) d e low = same_at xs i d e (omega (arith, low))

pub returns-in_err-map_err-clause-full : goal.returns-in_err-map_err-clause-full
returns-in_err-map_err-clause-full g c =
    let ms = c.args.messages.now in
    let i = c.loop-answered.answered-counter in
    let p = err_from_is_err_and c.from_residual.result c.from_residual.ensures.1 in
    let failed : is_ok c.respond.result ≡ false = search rules in
    let asks : HoldsAt (λ m. action_of m ≢ Nothing) ms i = λ d q.
    true≢false (sym (c.respond.ensures.silent (ap action_of (same_at ms i (NoteOff 0 0 0) d c.loop-answered-test.true) ∙ q)) ∙ failed) in
    let room : LacksRoom c.respond.new.listing = search rules in
    let which : p.0.answered ≡ i = ap (λ e. e.answered) p.2 ∙ search rules in
    subst (λ r. IfErr r (λ e. LacksRoomAt ms e.answered c.respond.new.listing)) (sym p.1) (subst (λ n. LacksRoomAt ms n c.respond.new.listing) (sym which) (asks, c.loop-answered-test.true, room))

-- A wire is passed over, fitted or refused, and all are fitted.
use denote.Enum.Bare.{sameb}
use Rattle.std.proofs.Common.{◌≡◌, ◌+◌, get_or, drop, Ok, sym, refl, ap, ◌∙◌, subst, rules, OnOk}
use Rattle.book.specs.contracts.board.Board.{the_type}
use Rattle.book.specs.declared.board.Board.{Board}
use Rattle.book.specs.declared.board.Board.TheVariants.{Coupler, Stop}
use Rattle.book.specs.Book.{same_board}
use Rattle.board.specs.Relay.{TakesWire, Settled, wired_of}
use Rattle.wires.specs.Fitting.{fit_answer}
use Rattle.organ.specs.Pass.{fit_run}
use Rattle.organ.proofs.Runs.{blank, skip_here, fit_here}
use Rattle.organ.proofs.assembly.fit_all.Goals as goal
use Rattle.organ.proofs.assembly.fit_all.Goals.{then-eq+in_ok-map_err, else-eq}

same_is : (x y : Board) → sameb the_type x y ≡ same_board y x
same_is Coupler Coupler = refl
same_is Coupler Stop = refl
same_is Stop Coupler = refl
same_is Stop Stop = refl

pub loop-number-preserved : goal.loop-number-preserved
loop-number-preserved g c =
    let meaning = g.C.Chest.meaning in
    let settled = g.C.Chest.settled in
    let m = meaning c.args.board.now.below in
    let on = c.args.on in
    let ws = c.args.wires.now in
    let i = c.loop-number.number-counter in
    let inv = c.loop-number.invariant in
    let l = wired_of c.loop-number.board.coupling in
    let next = wired_of c.if-eq.board.coupling in
    let here = get_or ws i blank in
    let is = sym (same_is here.board on) ∙ sym c.eq.ensures in
    elim c.if-eq.branch [
      | then-eq+in_ok-map_err w ↦
          let fine : w.fit.result ≡ Ok tt = search rules in
          let answer = sym fine ∙ w.fit.ensures.answer ∙ (λ j. fit_answer l (meaning (inv.2 j)) here.wire) in
          let items = subst (λ r. OnOk r ((w.fit.new.self.below ≡ c.loop-number.board.below) × TakesWire c.loop-number.board.coupling here.wire w.fit.new.self.coupling)) fine w.fit.ensures.items in
          let added = ap (λ b. wired_of b.coupling) w.board-is ∙ items.1.0 in (
            inv.0 ∙ fit_here on m l ws i c.loop-number-test.true next (is ∙ w.if-eq.true) (sym answer) added,
            ap (λ x. x.reach) added ∙ inv.1,
            ap (λ b. b.below) w.board-is ∙ items.0 ∙ inv.2,
            λ start.
                subst (Settled meaning settled) (sym w.board-is) (w.fit.ensures.after (inv.3 start)).0,
          )
      | else-eq w ↦ (
        inv.0 ∙ skip_here on m l ws i c.loop-number-test.true (is ∙ w.if-eq.false) ∙ ap (λ b. fit_run on m (wired_of b.coupling) (i + 1) (drop (i + 1) ws)) (sym w.board-is),
        ap (λ b. (wired_of b.coupling).reach) w.board-is ∙ inv.1,
        ap (λ b. b.below) w.board-is ∙ inv.2,
        λ start.
            subst (Settled meaning settled) (sym w.board-is) (inv.3 start),
      )
    ]

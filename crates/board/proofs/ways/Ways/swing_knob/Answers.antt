-- Each wire that waits for the knob is walked once.
use Rattle.std.proofs.Common.{◌≡◌, ◌+◌, cond, get_or, Some, None, sym, ap, ◌∙◌, subst}
use Rattle.sets.specs.NumberSet.{remaining}
use Rattle.wires.specs.Wires.{span}
use Rattle.board.specs.Wiring.{beneath, register, wires}
use Rattle.board.specs.Swing.{swing, starts}
use Rattle.board.specs.Among.{waits}
use Rattle.board.specs.Waiting.{waiting_of}
use Rattle.board.specs.Counts.{at_place, Fits}
use Rattle.board.proofs.Sums.{mixed_start, mixed_end, left_less}
use Rattle.board.proofs.Among.{among_in, still_in, left_out}
use Rattle.board.proofs.Counting.{knob_new, knob_old, knob_same, knob_room, knob_more, knob_stays}
use Rattle.board.proofs.Standing.{keeps_same, keeps_more}
use Rattle.board.proofs.ways.Ways.swing_knob.Goals as goal

pub loop-number-init : goal.loop-number-init
loop-number-init g c =
    let h = c.args.wiring.now in
    let turn = c.args.turn in
    let knob = turn.to.knob in
    let s = remaining c.rest-rest.result in
    let is = c.rest-rest.ensures ∙ c.of.ensures ∙ ap (waiting_of h.waiting) c.knob.ensures.value ∙ h.waits knob turn.to.knob_in in (
      λ i left. sym (ap (λ x. x i) is) ∙ left,
      λ b q hb hq. c.requires.exact b q (hb, hq) ∙ sym (mixed_start (knob_new h knob turn.from turn.to.position b q) (knob_old h knob turn.from turn.to.position b q) (wires h) s h.few (λ i d l out. knob_same h knob turn.from turn.to.position b q c.requires.was turn.turns (get_or (wires h) i d) (left_out (waits knob) (wires h) s is i d l out))),
      keeps_same c.args.self.now.table c.args.below.now,
    )

pub swing_wire-requires : goal.swing_wire-requires
swing_wire-requires g c b q hb hq =
    let h = c.args.wiring.now in
    let turn = c.args.turn in
    let k = c.in-Some.number in
    let is = subst (λ w. swing w turn.to.knob turn.from turn.to.position ≡ Some c.in-Some-swing.swing) c.lead-w.ensures (sym c.swing.ensures ∙ c.in-Some-swing.is) in
    let room = knob_room h turn.to.knob turn.from turn.to.position b q c.requires.was turn.turns (remaining c.loop-number.rest) (remaining c.pop_first.new.self) k (at_place c.loop-number.self.table b q) (among_in (waits turn.to.knob) (wires h) k (c.loop-number.invariant.0 k c.in-Some.ensures.value.0)).0 c.in-Some.ensures.value (c.loop-number.invariant.1 b q hb hq) c.in-Some-swing.swing is in
    subst (λ w. Fits (starts c.in-Some-swing.swing) (at_place c.loop-number.self.table b q) (span (beneath h) (register h) b q w)) (sym c.lead-w.ensures) room

pub loop-number-smaller-in-Some-swing : goal.loop-number-smaller-in-Some-swing
loop-number-smaller-in-Some-swing g c =
    left_less (remaining c.loop-number.rest) (remaining c.pop_first.new.self) c.in-Some.number c.in-Some.ensures.bound c.in-Some.ensures.value

pub loop-number-preserved-in-Some-swing : goal.loop-number-preserved-in-Some-swing
loop-number-preserved-in-Some-swing g c =
    let h = c.args.wiring.now in
    let turn = c.args.turn in
    let k = c.in-Some.number in
    let s = remaining c.loop-number.rest in
    let t = remaining c.pop_first.new.self in
    let inv = c.loop-number.invariant in
    let pops = c.in-Some.ensures.value in
    let up = starts c.in-Some-swing.swing in
    let is = subst (λ w. swing w turn.to.knob turn.from turn.to.position ≡ Some c.in-Some-swing.swing) c.lead-w.ensures (sym c.swing.ensures ∙ c.in-Some-swing.is) in
    let within = (among_in (waits turn.to.knob) (wires h) k (inv.0 k pops.0)).0 in (
      λ i left. inv.0 i (still_in s t k pops i left),
      λ b q hb hq. knob_more h turn.to.knob turn.from turn.to.position b q c.requires.was turn.turns s t k (at_place c.loop-number.self.table b q) within pops (inv.1 b q hb hq) c.in-Some-swing.swing is (at_place c.swing_wire.new.self.table b q) (subst (λ w. at_place c.swing_wire.new.self.table b q + cond up 0 (span (beneath h) (register h) b q w) ≡ at_place c.loop-number.self.table b q + cond up (span (beneath h) (register h) b q w) 0) c.lead-w.ensures (c.swing_wire.ensures.moves b q hb hq)),
      keeps_more inv.2 c.swing_wire.ensures.keeps,
    )

pub loop-number-smaller : goal.loop-number-smaller
loop-number-smaller g c =
    left_less (remaining c.loop-number.rest) (remaining c.pop_first.new.self) c.in-Some.number c.in-Some.ensures.bound c.in-Some.ensures.value

pub loop-number-preserved : goal.loop-number-preserved
loop-number-preserved g c =
    let h = c.args.wiring.now in
    let turn = c.args.turn in
    let k = c.in-Some.number in
    let s = remaining c.loop-number.rest in
    let t = remaining c.pop_first.new.self in
    let inv = c.loop-number.invariant in
    let pops = c.in-Some.ensures.value in
    let is = subst (λ w. swing w turn.to.knob turn.from turn.to.position ≡ None) c.lead-w.ensures (sym c.swing.ensures ∙ c.in_default-swing.is) in
    let within = (among_in (waits turn.to.knob) (wires h) k (inv.0 k pops.0)).0 in (
      λ i left. inv.0 i (still_in s t k pops i left),
      λ b q hb hq. knob_stays h turn.to.knob turn.from turn.to.position b q c.requires.was turn.turns s t k (at_place c.loop-number.self.table b q) within pops (inv.1 b q hb hq) is,
      inv.2,
    )

pub returns-clause-exact : goal.returns-clause-exact
returns-clause-exact g c = λ b q within.
    let h = c.args.wiring.now in
    let turn = c.args.turn in
    c.loop-number.invariant.1 b q within.0 within.1 ∙ mixed_end (knob_new h turn.to.knob turn.from turn.to.position b q) (knob_old h turn.to.knob turn.from turn.to.position b q) (wires h) (remaining c.loop-number.rest) h.few c.in_default.ensures.value.0

-- Each wire that leads somewhere from the key is walked once.
use Rattle.std.proofs.Common.{◌≡◌, get_or, is_some, Some, sym, ap, ◌∙◌, subst}
use Rattle.sets.specs.NumberSet.{remaining}
use Rattle.wires.specs.declared.lead.Lead.{Lead}
use Rattle.board.specs.Wiring.{beneath, panel, wires}
use Rattle.wires.specs.Wires.{outlet, spot}
use Rattle.board.specs.Swing.{starts}
use Rattle.board.specs.Counts.{at_place}
use Rattle.board.proofs.Sums.{mixed_start, mixed_end, left_less}
use Rattle.board.proofs.Among.{among_in, still_in, left_out}
use Rattle.wires.proofs.Ways.{outlet-below}
use Rattle.board.proofs.Counting.{met, key_new, key_old, key_same, key_room, key_more}
use Rattle.board.proofs.Standing.{keeps_same, keeps_more}
use Rattle.board.proofs.ways.Ways.swing_key.Goals as goal

pub loop-number-init : goal.loop-number-init
loop-number-init g c =
    let h = c.args.wiring.now in
    let key = c.args.key in
    let on = starts c.args.swing in
    let s = remaining c.rest-rest.result in
    let is = c.rest-rest.ensures ∙ c.wires_from.ensures in (
      λ i left. sym (ap (λ x. x i) is) ∙ left,
      λ b q hb hq. c.requires.exact b q (hb, hq) ∙ sym (mixed_start (key_new h key.row key.place on b q) (key_old h key.row key.place on b q) (wires h) s h.few (λ i d l out. key_same h key.row key.place on b q c.requires.other (get_or (wires h) i d) (left_out (λ w. is_some (outlet (beneath h) (panel h) w key.row key.place)) (wires h) s is i d l out))),
      keeps_same c.args.self.now.table c.args.below.now,
    )

pub outlet-at-requires : goal.outlet-at-requires
outlet-at-requires g c =
    let h = c.args.wiring.now in
    let key = c.args.key in
    let leads = λ (w : Lead). is_some (outlet (beneath h) (panel h) w key.row key.place) in
    ap leads c.lead.ensures ∙ (among_in leads (wires h) c.in-Some.number (c.loop-number.invariant.0 c.in-Some.number c.in-Some.ensures.value.0)).1

pub bump-requires : goal.bump-requires
bump-requires g c =
    let h = c.args.wiring.now in
    let key = c.args.key in
    let at = c.outlet-at.result in
    let k = c.in-Some.number in
    let leads = λ (w : Lead). is_some (outlet (beneath h) (panel h) w key.row key.place) in
    let is = subst (λ w. outlet (beneath h) (panel h) w key.row key.place ≡ Some (spot at)) c.lead.ensures c.outlet-at.ensures in
    key_room h key.row key.place (starts c.args.swing) at.row at.place c.requires.other (remaining c.loop-number.rest) (remaining c.pop_first.new.self) k (at_place c.loop-number.self.table at.row at.place) (among_in leads (wires h) k (c.loop-number.invariant.0 k c.in-Some.ensures.value.0)).0 c.in-Some.ensures.value (c.loop-number.invariant.1 at.row at.place at.row_in at.place_in) (Some (spot at)) is (met at.row at.place)

pub loop-number-smaller : goal.loop-number-smaller
loop-number-smaller g c =
    left_less (remaining c.loop-number.rest) (remaining c.pop_first.new.self) c.in-Some.number c.in-Some.ensures.bound c.in-Some.ensures.value

pub loop-number-preserved : goal.loop-number-preserved
loop-number-preserved g c =
    let h = c.args.wiring.now in
    let key = c.args.key in
    let on = starts c.args.swing in
    let at = c.outlet-at.result in
    let k = c.in-Some.number in
    let s = remaining c.loop-number.rest in
    let t = remaining c.pop_first.new.self in
    let inv = c.loop-number.invariant in
    let pops = c.in-Some.ensures.value in
    let leads = λ (w : Lead). is_some (outlet (beneath h) (panel h) w key.row key.place) in
    let is = subst (λ w. outlet (beneath h) (panel h) w key.row key.place ≡ Some (spot at)) c.lead.ensures c.outlet-at.ensures in
    let within = (among_in leads (wires h) k (inv.0 k pops.0)).0 in (
      λ i left. inv.0 i (still_in s t k pops i left),
      λ b q hb hq. key_more h key.row key.place on b q c.requires.other s t k (at_place c.loop-number.self.table b q) within pops (inv.1 b q hb hq) (Some (spot at)) is (at_place c.bump.new.self.table b q) (c.bump.ensures.moves b q hb hq),
      keeps_more inv.2 (c.bump.ensures.keeps (beneath h) (outlet-below (beneath h) (panel h) c.lead.result.now key.row key.place (spot at) c.outlet-at.ensures)),
    )

pub returns-clause-exact : goal.returns-clause-exact
returns-clause-exact g c = λ b q within.
    let h = c.args.wiring.now in
    let key = c.args.key in
    let on = starts c.args.swing in
    c.loop-number.invariant.1 b q within.0 within.1 ∙ mixed_end (key_new h key.row key.place on b q) (key_old h key.row key.place on b q) (wires h) (remaining c.loop-number.rest) h.few c.in_default.ensures.value.0

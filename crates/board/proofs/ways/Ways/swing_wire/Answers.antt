-- Each set key of the wire's row is walked once.
use Rattle.std.proofs.Common.{◌≡◌, ◌+◌, ◌<◌, cond, Some, None, sym, ap, ◌∙◌, subst, arith}
use Rattle.std.specs.Option.{option_map}
use Rattle.sets.specs.NumberSet.{remaining}
use Rattle.board.specs.Wiring.{beneath, register}
use Rattle.board.specs.Swing.{starts}
use Rattle.board.specs.Counts.{at_place, Fits, one_at}
use Rattle.board.proofs.Sums.{left_less}
use Rattle.wires.proofs.Ways.{lands-below}
use Rattle.board.proofs.Counting.{met, wire_start, wire_stays, wire_all, wire_more, wire_room}
use Rattle.board.proofs.Standing.{keeps_same, keeps_more}
use Rattle.board.proofs.ways.Ways.swing_wire.Goals as goal

pub loop-key-init : goal.loop-key-init
loop-key-init g c =
    (wire_start c.args.wiring.now c.args.w (starts c.args.swing) c.args.self.now.table (remaining c.rest-rest.result) (c.rest-rest.ensures ∙ c.row.ensures ∙ ap (register c.args.wiring.now) c.from.ensures), keeps_same c.args.self.now.table c.args.below.now)

pub bump-requires : goal.bump-requires
bump-requires g c =
    let w = c.args.w in
    let up = starts c.args.swing in
    let at = c.in-Some-lands.at in
    let found = c.in-Some-lands.ensures in
    let to : w.to < 16 = omega (arith, found.row, at.row_in) in
    subst (λ r. Fits up (at_place c.loop-key.self.table r at.place) 1) (sym found.row) (wire_room c.args.wiring.now w up (remaining c.loop-key.rest) (remaining c.pop_first.new.self) c.in-Some.key c.in-Some.ensures.bound c.in-Some.ensures.value (Some at.place) (sym found.place) c.args.self.now.table c.loop-key.self.table w.to at.place to at.place_in (met w.to at.place) c.loop-key.invariant.0 c.requires)

pub loop-key-smaller-in-Some-lands : goal.loop-key-smaller-in-Some-lands
loop-key-smaller-in-Some-lands g c =
    left_less (remaining c.loop-key.rest) (remaining c.pop_first.new.self) c.in-Some.key c.in-Some.ensures.bound c.in-Some.ensures.value

pub loop-key-preserved-in-Some-lands : goal.loop-key-preserved-in-Some-lands
loop-key-preserved-in-Some-lands g c =
    let h = c.args.wiring.now in
    let w = c.args.w in
    let up = starts c.args.swing in
    let at = c.in-Some-lands.at in
    let found = c.in-Some-lands.ensures in
    let here = c.loop-key.self.table in
    let below = subst (λ r. at.place < beneath h r) (sym found.row) (lands-below (beneath h) w c.in-Some.key at.place (sym found.place)) in (
      wire_more h w up (remaining c.loop-key.rest) (remaining c.pop_first.new.self) c.in-Some.key c.in-Some.ensures.bound c.in-Some.ensures.value (Some at.place) (sym found.place) c.args.self.now.table here c.bump.new.self.table c.loop-key.invariant.0 (λ b q hb hq. subst (λ r. at_place c.bump.new.self.table b q + cond up 0 (one_at r at.place b q) ≡ at_place here b q + cond up (one_at r at.place b q) 0) found.row (c.bump.ensures.moves b q hb hq)),
      keeps_more c.loop-key.invariant.1 (c.bump.ensures.keeps (beneath h) below),
    )

pub loop-key-smaller : goal.loop-key-smaller
loop-key-smaller g c =
    left_less (remaining c.loop-key.rest) (remaining c.pop_first.new.self) c.in-Some.key c.in-Some.ensures.bound c.in-Some.ensures.value

pub loop-key-preserved : goal.loop-key-preserved
loop-key-preserved g c =
    let h = c.args.wiring.now in
    let w = c.args.w in
    let up = starts c.args.swing in
    let here = c.loop-key.self.table in (
      wire_more h w up (remaining c.loop-key.rest) (remaining c.pop_first.new.self) c.in-Some.key c.in-Some.ensures.bound c.in-Some.ensures.value None (sym c.lands.ensures.place ∙ ap (option_map (λ at. at.place)) c.in_default-lands.is) c.args.self.now.table here here c.loop-key.invariant.0 (wire_stays h w up here),
      c.loop-key.invariant.1,
    )

pub returns-clause-moves : goal.returns-clause-moves
returns-clause-moves g c =
    wire_all c.args.wiring.now c.args.w (starts c.args.swing) c.args.self.now.table c.loop-key.self.table (remaining c.loop-key.rest) c.in_default.ensures.value.0 c.loop-key.invariant.0

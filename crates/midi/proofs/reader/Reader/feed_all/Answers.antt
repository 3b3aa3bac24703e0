-- The loop feeds the bytes one by one, and what that adds is what the line's reading gains.
use Rattle.std.proofs.Common.{◌≡◌, ◌+◌, ◌<◌, ◌≤◌, [], ◌++◌, length, get_or, take, vec_items, vec_len, vec_capacity, Option, sym, ap, ◌∙◌, subst, refl, append-nil, rules, arith}
use Rattle.std.specs.Option.{option_to_list}
use Rattle.std.proofs.lemmas.List.{take_all}
use Rattle.midi.specs.State.{step, handed, state_after, Feeds}
use Rattle.midi.proofs.Lines.{handed-more, state_more, feeds_bytes, grown, catches_up}
use Rattle.midi.proofs.States.{handed-range}
use Rattle.midi.specs.declared.message.Message.{Message}
use Rattle.midi.specs.declared.state.State.{State}
use Rattle.midi.proofs.reader.Reader.feed_all.Goals as goal
use Rattle.midi.proofs.reader.Reader.feed_all.Goals.{in-Some, in_default}

pub loop-byte-preserved : goal.loop-byte-preserved
loop-byte-preserved c =
    let s = c.args.self.now.state in
    let t = c.loop-byte.self.state in
    let bs = c.args.bytes.now in
    let i = c.loop-byte.byte-index in
    let h : i < length bs = omega arith in
    let so_far = c.loop-byte.invariant.1 in
    let stepped : (c.feed.result, c.feed.new.self.state) ≡ step t (get_or bs i 0) = search rules in
    let added : (vec_items c.match-feed.out ≡ vec_items c.loop-byte.out ++ option_to_list c.feed.result) × (vec_len c.match-feed.out ≤ vec_len c.loop-byte.out + 1) × (vec_capacity c.match-feed.out ≡ vec_capacity c.loop-byte.out)
    = elim c.match-feed.branch [
      | in-Some w ↦ rw w.out-is (rw w.in-Some.is (w.push_reserved.ensures.items, omega (arith, w.push_reserved.ensures.len), w.push_reserved.ensures.capacity))
      | in_default w ↦ rw w.out-is (rw w.in_default.is (sym (append-nil (vec_items c.loop-byte.out)), omega arith, refl))
    ] in
    let message = handed-more s t bs i h so_far ∙ ap (λ (p : Option Message × State). handed s (take i bs) ++ option_to_list p.0) (sym stepped) in
    let items = grown (vec_items c.reserve.new.self) (handed s (take i bs)) (option_to_list c.feed.result) c.loop-byte.invariant.0 added.0 message in
    (items, ap (λ (p : Option Message × State). p.1) stepped ∙ state_more s t bs i h so_far, omega arith)

pub returns : goal.returns
returns c =
    let all = take_all c.loop-byte.byte-index c.args.bytes.now c.loop-byte-test.false in
    let items : vec_items c.loop-byte.out ≡ vec_items c.args.out.now ++ handed c.args.self.now.state c.args.bytes.now = cc in
    let after : c.loop-byte.self.state ≡ state_after c.args.self.now.state c.args.bytes.now = cc in
    let fed = subst (Feeds _ _ _) (sym after) (feeds_bytes c.args.self.now.state c.args.bytes.now) in
    record {
      items = items;
      after = after;
      cases = fed;
      succeeds = λ _. refl;
      range = λ _. handed-range c.args.self.now.state c.args.bytes.now c.args.self.now.ok;
      whole = λ _ new. items ∙ ap (λ l. vec_items c.args.out.now ++ l) (sym (fed.adds [] new));
      law = λ _ old line. catches_up _ _ _ _ _ _ fed items old line;
    }

-- The answer for `bare_stack`: each making, over the one before.
use Rattle.std.proofs.Common.{ap, ◌∙◌}
use Rattle.bottom.specs.MagnetChest.{magnet_meaning}
use Rattle.wires.specs.Wired.{bare_meaning}
use Rattle.board.specs.Relay.{meaning_of}
use Rattle.board.proofs.Made.{made_bare}
use Rattle.organ.proofs.stack.bare_stack.Goals as goal

pub returns : goal.returns
returns c =
    let stops = c.new-stops.ensures.after c.new.ensures.settled in
    let top = c.new-2.ensures.after stops.0 in
    record { settled = top.0; items = made_bare c.new-2.result.coupling c.args.keys (meaning_of magnet_meaning c.new-2.result.below) c.new-2.ensures.items c.new-2.ensures.bare; value = top.1 ∙ ap (bare_meaning c.args.keys) (stops.1 ∙ ap (bare_meaning c.args.keys) c.new.ensures.value) }

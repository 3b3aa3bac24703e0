use Rattle.std.proofs.Common.{rules}
use Rattle.console.specs.Walks.{frame_in}
use Rattle.console.proofs.walks.recall_knobs.Goals as goal

pub returns : goal.returns
returns g c = λ low.
    c.turn_knobs.ensures (frame_in c.args.knobs.now c.args.scope c.args.frame.now) (record { told = λ k o under is. search rules; positions = low })

-- The law, the range and the invariant follow from the step.
use Rattle.midi.proofs.Lines.{feeds_step}
use Rattle.midi.proofs.States.{line_to, fed_range}
use Rattle.midi.proofs.reader.Reader.feed.Goals as goal

pub returns : goal.returns
returns c =
    record {
      value = c.feed.ensures.value;
      line = line_to c.args.self.now.state c.args.self.now.ok;
      range = fed_range _ _ c.args.byte _ c.feed.ensures.value c.args.self.now.ok;
      law = feeds_step _ _ _ _ c.feed.ensures.value;
    }

-- What a reader keeps between two bytes. Assumes nothing.
use Rattle.midi.specs.declared.reader.Reader.{Reader}
use Rattle.midi.specs.declared.state.State.{State}

abbrev pub state_of : Reader → State
state_of r = r.state

-- What the part that both bottom chests share means. Assumes nothing.
use Rattle.std.specs.Prelude.{ℕ, List}
use Rattle.chest.specs.Places.{none}
use Rattle.chest.specs.Meaning.{Meaning}
use Rattle.chest.specs.Positions.{positions_of}
use Rattle.chest.specs.Reaches.{reach_of, reaches_of}
use Rattle.bottom.specs.declared.foot.Foot.{Foot}
use Rattle.bottom.specs.PipeTable.{shown}

-- its rule gives the register back, under every panel
abbrev pub foot_meaning : Foot → Meaning
foot_meaning f =
    record {
      reach = reaches_of f.reaches;
      register = shown f.pipes.set;
      panel = positions_of f.positions;
      speaking = shown f.pipes.speaking;
      strobes = f.strobes;
      rule = λ panel register. register;
    }

-- a bottom chest as it is made: a reach above 128 counts as 128, it is empty, every knob at 0, not strobed yet
abbrev pub new_bottom : List ℕ → Meaning
new_bottom reaches =
    record {
      reach = reach_of reaches;
      register = none;
      panel = λ k. 0;
      speaking = none;
      strobes = 0;
      rule = λ panel register. register;
    }

use Rattle.book.proofs.ByteLimits.{length_law, byte_law}
use Rattle.book.proofs.WireLimits.{wire_law}
use Rattle.book.proofs.Cases.{row_cases, knob_cases, piston_cases, wire_cases}
use Rattle.book.proofs.laws.limits_law.Goals as goal

pub returns : goal.returns
returns c =
    record {
      length = length_law;
      bytes = byte_law;
      wires = wire_law;
      row = row_cases;
      knob = knob_cases;
      piston = piston_cases;
      wire = wire_cases;
    }

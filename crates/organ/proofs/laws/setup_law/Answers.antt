-- The answer for `setup_law`.
use Rattle.std.proofs.Common.{refl, ap}
use Rattle.std.specs.Option.{option_map, unwrap_or}
use Rattle.organ.proofs.laws.setup_law.Goals as goal

pub returns : goal.returns
returns c = λ b.
    record {
      keys = λ division. refl;
      knob = λ k knob is. (ap (option_map (λ q. q.steps)) is, ap (λ o. unwrap_or (option_map (λ q. q.home) o) 0) is);
      no_knob = λ k is. (ap (option_map (λ q. q.steps)) is, ap (λ o. unwrap_or (option_map (λ q. q.home) o) 0) is);
      piston = λ q. refl;
    }

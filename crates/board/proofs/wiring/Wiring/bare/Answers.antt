-- No wire.
use Rattle.std.proofs.Common.{◌≤◌, length, sym, ap, subst, ◌∙◌, arith}
use Rattle.coupling.specs.KeyDesk.{beneath, panel}
use Rattle.wires.specs.Wires.{live}
use Rattle.board.specs.Among.{among, leads_from, lands, waits}
use Rattle.board.proofs.wiring.Wiring.bare.Goals as goal

pub invariant_of-result : goal.invariant_of-result
invariant_of-result c =
    record {
      few = subst (λ ws. length ws ≤ 128) (sym c.new.ensures) (omega arith);
      alive = c.none.ensures ∙ sym (ap (among (live (panel c.args.desk))) c.new.ensures);
      leading = λ r hr. c.none-2.ensures.rows r ∙ sym (ap (among (leads_from r)) c.new.ensures);
      landing = λ p hp. c.none-2.ensures.keys p ∙ sym (ap (among (lands (beneath c.args.desk) p)) c.new.ensures);
      waits = λ k hk. c.none-3.ensures k ∙ sym (ap (among (waits k)) c.new.ensures);
    }

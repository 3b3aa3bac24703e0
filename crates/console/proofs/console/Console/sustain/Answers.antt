-- The answers for `Console::sustain`.
use Rattle.std.proofs.Common.{cond, refl, ap, ◌∙◌, arith}
use Rattle.std.proofs.lemmas.Bool.Decides.{nat_tests}
use Rattle.console.specs.declared.call.Call.TheVariants.{Sustain}
use Rattle.console.specs.Keys.{Keys, sustain_begun, sustain_ended}
use Rattle.console.proofs.Follow.{row_follows, held-sustain, others_sustain, fewer_sustain}
use Rattle.console.proofs.console.Console.sustain.Goals as goal

pub returns : goal.returns
returns g c =
    let d = c.args.division in
    let on = c.args.on in
    let to : Keys → Keys = λ x. cond on (sustain_begun x d) (sustain_ended x d) in
    record {
      follows = λ s p t. row_follows g.met.C.Chest.quiet (Sustain d on) c.strobe.result c.switch_sustain.new.self c.show_row.new.chest c.strobe.new.self t (grind (arith, nat_tests)) refl c.strobe.ensures.after c.strobe.ensures.answer (to p.keys) d (g.met.C.Chest.bounded c.args.self.now.chest) refl (c.switch_sustain.ensures ∙ ap to t.keys) (held-sustain p.keys d on t.sane.held) (others_sustain p.keys d on) (fewer_sustain p.keys d on) c.show_row.ensures;
      same = tt;
    }

-- The wire is added to the knob that it waits for.
use Rattle.std.proofs.Common.{◌≡◌, ◌<◌, ℕ, true, eqb, sym, ap, ◌∙◌, subst, arith}
use Rattle.std.proofs.lemmas.Bool.Decides.{nat_tests}
use Rattle.board.specs.Among.{waits, waits_for}
use Rattle.board.specs.Waiting.{waiting_of}
use Rattle.coupling.proofs.Tables.{table_put}
use Rattle.board.proofs.Indexes.{either_way}
use Rattle.board.proofs.waiting.Waiting.add.Goals as goal

pub returns-then-knob-lt-KNOBS : goal.returns-then-knob-lt-KNOBS
returns-then-knob-lt-KNOBS c = λ k i hk.
    let self = c.args.self.now in
    let put = table_put self.table c.from-knob.result k c.args.number true c.with.result c.index-self-knob.result (subst (λ n. c.from-knob.result < n) (sym self.manual) c.if-knob-lt-KNOBS.true) (c.with.ensures.value c.requires) i in
    let knob = c.from-knob.ensures in
    put ∙ either_way (eqb k c.from-knob.result) (eqb i c.args.number) (waits k c.args.w) (waiting_of self k i) (ap (eqb k) knob ∙ swap k c.in-Some.setting.knob ∙ sym (ap (waits_for k) c.in-Some.is))
  where
    swap : (a b : ℕ) → eqb a b ≡ eqb b a
    swap a b = grind (arith, nat_tests)

use Rattle.std.proofs.Common.{◌≡◌, ℕ, true, false, ◌&&◌, ltb, Some, None, Option, MatchOption, unwrap_or, ◌≢◌, sym, ap, ◌∙◌, subst, arith}
use Rattle.std.specs.Option.{option_map}
use Rattle.std.proofs.lemmas.Bool.Decides.{nat_tests}
use Rattle.fittings.specs.declared.Knob.{Knob}
use Rattle.book.specs.Book.{knob_in}
use Rattle.console.specs.declared.knob_table.KnobTable.{KnobTable}
use Rattle.console.specs.KnobTable.{sound, steps_of, home_of}
use Rattle.organ.specs.Tables.{book_steps, book_home}
use Rattle.organ.proofs.Filling.{filled-more}
use Rattle.organ.proofs.tables.knob_table.Goals as goal
use Rattle.organ.proofs.tables.knob_table.Goals.{in-Some, in_default}

-- a table says this of one number, and of the others what another says
record Says (t next : KnobTable) (at : ℕ) (o : Option Knob) : Type 0 where
  steps : steps_of next at ≡ option_map (λ q. q.steps) o
  home : home_of next at ≡ unwrap_or (option_map (λ q. q.home) o) 0
  others : (k : ℕ) → k ≢ at → (steps_of next k ≡ steps_of t k) × (home_of next k ≡ home_of t k)

-- a table that took a sound knob says that knob there
taken : (r : Option KnobTable) (t next : KnobTable) (at : ℕ) (knob : Knob) → MatchOption r (ltb at 64 && sound knob.steps knob.home ≡ false) (λ u. (ltb at 64 && sound knob.steps knob.home ≡ true) × (steps_of u at ≡ Some knob.steps) × (home_of u at ≡ knob.home) × ((k : ℕ) → k ≢ at → (steps_of u k ≡ steps_of t k) × (home_of u k ≡ home_of t k))) → ltb at 64 && sound knob.steps knob.home ≡ true → next ≡ unwrap_or r t → Says t next at (Some knob)
taken None t next at knob with sound is = let no : ◌≡◌ {A = ℕ} 0 1 = cc in absurd (omega arith)
taken (Some u) t next at knob with sound is =
    record {
      steps = ap (λ x. steps_of x at) is ∙ with.1;
      home = ap (λ x. home_of x at) is ∙ with.2;
      others = λ k ne. (ap (λ x. steps_of x k) is ∙ (with.3 k ne).0, ap (λ x. home_of x k) is ∙ (with.3 k ne).1);
    }

pub loop-k-preserved : goal.loop-k-preserved
loop-k-preserved c =
    let book = c.args.book.now in
    let at = c.loop-k.k in
    let table = c.loop-k.table in
    let next = c.match-knob.table in
    let so_far = c.loop-k.invariant in
    let below = c.loop-k-test.true in
    let says : Says table next at (knob_in book at)
    = elim c.match-knob.branch [
      | in-Some w ↦
          let sound = w.in-Some.ensures.bound in
          subst (Says table next at) (sym w.in-Some.is ∙ c.knob.ensures.value) (taken w.with_knob.result table next at w.in-Some.knob w.with_knob.ensures.table (grind (arith, nat_tests)) (w.table-is ∙ w.unwrap_or-table.ensures))
      | in_default w ↦
          subst (Says table next at) (sym w.in_default.is ∙ c.knob.ensures.value) (record {
            steps = ap (λ x. steps_of x at) w.table-is ∙ so_far.0.1 at (omega arith);
            home = ap (λ x. home_of x at) w.table-is ∙ so_far.1.1 at (omega arith);
            others = λ k ne. (ap (λ x. steps_of x k) w.table-is, ap (λ x. home_of x k) w.table-is);
          })
    ] in (
      filled-more (book_steps book) None (steps_of table) (steps_of next) at so_far.0 says.steps (λ k ne. (says.others k ne).0),
      filled-more (book_home book) 0 (home_of table) (home_of next) at so_far.1 says.home (λ k ne. (says.others k ne).1),
    )

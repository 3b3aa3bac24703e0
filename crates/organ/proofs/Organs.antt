-- A console over a stack, as the book has it. Assumes nothing.
use Rattle.std.proofs.Common.{◌≡◌, ℕ, Ok, Err, Result, subst}
use Rattle.chest.specs.Meaning.{Meaning}
use Rattle.book.specs.declared.book.Book.{Book}
use Rattle.book.specs.Book.{keys_in}
use Rattle.console.specs.declared.console.Console.{Console}
use Rattle.console.specs.declared.knob_table.KnobTable.{KnobTable}
use Rattle.console.specs.declared.piston_table.PistonTable.{PistonTable}
use Rattle.console.specs.KnobTable.{steps_of, home_of}
use Rattle.console.specs.PistonTable.{scope_of}
use Rattle.console.specs.Model.{first}
use Rattle.console.specs.Record.{Making}
use Rattle.console.specs.Tracks.{Makes, setup_of}
use Rattle.organ.specs.declared.refusal.Refusal.{Refusal}
use Rattle.organ.specs.Assembly.{Hung, Assembles, stack_meaning}
use Rattle.organ.specs.Tables.{book_steps, book_home, book_scope}
use Rattle.organ.specs.Opening.{book_setup, organ_meaning, OrganTracks, Opens}
use Rattle.organ.specs.Stack.{Stack, stacked, StackSettled}

module _ {C : Type 0} (meaning : C → Meaning) (settled : C → Type 0) (b : Book) (m : Meaning) (stack : Stack C) (c : Console (Stack C)) (knobs : KnobTable) (pistons : PistonTable) where
  abbrev stack_means : Stack C → Meaning
  stack_means = stacked meaning

  pub opens : (h : Result Hung Refusal) → Assembles meaning settled (keys_in b) m h (Ok stack) → Makes stack_means (StackSettled meaning settled) stack knobs pistons c → ((k : ℕ) → steps_of knobs k ≡ book_steps b k) → ((k : ℕ) → home_of knobs k ≡ book_home b k) → ((q : ℕ) → scope_of pistons q ≡ book_scope b q) → Opens meaning settled b m h (Ok c)
  opens (Ok h) made makes steps homes scopes =
      let done = makes made.0 in
      let setup : setup_of (stack_means stack).reach knobs pistons ≡ book_setup b = λ i. record { reach = (made.1 i).reach; steps = λ k. steps k i; home = λ k. homes k i; scope = λ q. scopes q i } in
      (subst (λ x. Making x (stack_meaning (keys_in b) m h) (organ_meaning meaning settled c)) setup (subst (λ x. Making (setup_of (stack_means stack).reach knobs pistons) x (organ_meaning meaning settled c)) made.1 done.0), subst (λ x. OrganTracks meaning settled c x (first x)) setup done.1)
  opens (Err e) made makes steps homes scopes = absurd made

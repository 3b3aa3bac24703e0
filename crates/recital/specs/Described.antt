-- The organ that the forms of a book describe, and the same by the book's record. Assumes nothing.
use Rattle.std.specs.Prelude.{ℕ, cond, List, None, Option, Result, nat_lt}
use Rattle.std.specs.Option.{option_map, unwrap_or}
use Rattle.chest.specs.Meaning.{Meaning}
use Rattle.book.specs.declared.book.Book.{Book}
use Rattle.fittings.specs.declared.Knob.{Knob}
use Rattle.fittings.specs.declared.Scope.{Scope}
use Rattle.book.specs.Book.{keys_in, pipes_in}
use Rattle.book.specs.Entry.{Entry, said, keys_of, pipes_of, knob_of, scope_of, wires_of}
use Rattle.book.specs.Limits.{rows, knobs, pistons}
use Rattle.console.specs.Model.{Setup}
use Rattle.organ.specs.declared.refusal.Refusal.{Refusal}
use Rattle.organ.specs.Assembly.{Hung, hang_all, stack_meaning}
use Rattle.organ.specs.Opening.{new_ranks}

-- the keys of a division and the pipes of a rank, 0 where no form names it
abbrev pub keys_said : List Entry → ℕ → ℕ
keys_said es r = cond (nat_lt r rows) (unwrap_or (said (keys_of r) es) 0) 0

abbrev pub pipes_said : List Entry → ℕ → ℕ
pipes_said es r = cond (nat_lt r rows) (unwrap_or (said (pipes_of r) es) 0) 0

-- a knob and a piston's scope, none where no form defines it
abbrev pub knob_said : List Entry → ℕ → Option Knob
knob_said es k = cond (nat_lt k knobs) (said (knob_of k) es) None

abbrev pub scope_said : List Entry → ℕ → Option Scope
scope_said es q = cond (nat_lt q pistons) (said (scope_of q) es) None

-- what the model console is given
abbrev pub setup_said : List Entry → Setup
setup_said es =
    record {
      reach = keys_said es;
      steps = λ k. option_map (λ q. q.steps) (knob_said es k);
      home = λ k. unwrap_or (option_map (λ q. q.home) (knob_said es k)) 0;
      scope = scope_said es;
    }

-- the wires on their boards, or the first that its board refuses
abbrev pub hung_said : List Entry → Result Hung Refusal
hung_said es = hang_all (keys_said es) (new_ranks (pipes_said es)) (wires_of es)

-- what the stack of these wires means: couplers over stops over a new chest with the ranks
abbrev pub stack_said : List Entry → Hung → Meaning
stack_said es h = stack_meaning (keys_said es) (new_ranks (pipes_said es)) h

-- the same of the record
abbrev pub book_hung : Book → Result Hung Refusal
book_hung b = hang_all (keys_in b) (new_ranks (pipes_in b)) (b.wires.items)

abbrev pub book_stack : Book → Hung → Meaning
book_stack b h = stack_meaning (keys_in b) (new_ranks (pipes_in b)) h

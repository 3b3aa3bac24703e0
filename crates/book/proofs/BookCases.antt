-- The sample book is read, and its record answers what the forms say. Assumes nothing.
use Rattle.std.proofs.Common.{ℕ, List, Ok, Err, Result, refl, ap, subst, arith}
use Rattle.std.specs.List.{count_by}
use Rattle.std.specs.Option.{unwrap_or}
use Rattle.book.specs.declared.board.Board.TheVariants.{Coupler, Stop}
use Rattle.book.specs.declared.book.Book.{Book}
use Rattle.book.specs.declared.book_fault.BookFault.{BookFault}
use Rattle.book.specs.Book.{on_board}
use Rattle.book.specs.Reading.{Answers, read_of}
use Rattle.book.specs.BookCases.{sample, Sample, Sampled}

told : (b : Book) → Answers (Ok b) (read_of sample) → Sample b
told b h =
    record {
      keys = ap (λ o. unwrap_or o 0) (h.divisions 1 (omega arith));
      keys_3 = ap (λ o. unwrap_or o 0) (h.divisions 3 (omega arith));
      keys_9 = ap (λ o. unwrap_or o 0) (h.divisions 9 (omega arith));
      pipes = ap (λ o. unwrap_or o 0) (h.ranks 3 (omega arith));
      pipes_1 = ap (λ o. unwrap_or o 0) (h.ranks 1 (omega arith));
      pipes_5 = ap (λ o. unwrap_or o 0) (h.ranks 5 (omega arith));
      knob = h.knobs 9 (omega arith);
      knob_5 = h.knobs 5 (omega arith);
      knob_3 = h.knobs 3 (omega arith);
      scope = h.pistons 5 (omega arith);
      scope_9 = h.pistons 9 (omega arith);
      scope_1 = h.pistons 1 (omega arith);
      keys_15 = ap (λ o. unwrap_or o 0) (h.divisions 15 (omega arith));
      pipes_15 = ap (λ o. unwrap_or o 0) (h.ranks 15 (omega arith));
      knob_63 = h.knobs 63 (omega arith);
      scope_39 = h.pistons 39 (omega arith);
      keys_16 = refl;
      pipes_16 = refl;
      knob_64 = refl;
      scope_40 = refl;
      wires = h.wires;
      on_stop = ap (count_by (on_board Stop)) h.wires;
      on_coupler = ap (count_by (on_board Coupler)) h.wires;
    }

-- whatever answers as the definition does has this record of it
pub sampled : (text : List ℕ) (r : Result Book BookFault) → Answers r (read_of text) → Sampled r text
unfolding Sampled
sampled text (Ok b) a is = (b, refl, told b (subst (λ t. Answers (Ok b) (read_of t)) is a))
sampled text (Err f) a is = absurd (subst (λ t. Answers (Err f) (read_of t)) is a)

-- The low word first, and then the high one.
use Rattle.std.proofs.Common.{◌≡◌, ◌+◌, ℕ, Some, None, Option, sym, ◌∙◌, subst}
use Rattle.sets.specs.declared.word.Word.{Word}
use Rattle.sets.specs.Numbers.{PopsFirst}
use Rattle.sets.specs.NumberSet.{left_of, remaining}
use Rattle.sets.proofs.Joined.{left_word, left_next, left_last, left_none}
use Rattle.sets.proofs.rest.Rest.pop_first.Goals as goal

-- the high word as it is taken
moved : (w v : Word) {o p m n : Option Word} (r : Option ℕ) → o ≡ m → p ≡ n → PopsFirst (left_of w m) (left_of v n) r → PopsFirst (left_of w o) (left_of v p) r
moved w v {o} {p} {m} {n} r e f pops =
    subst (λ x. PopsFirst (left_of w x) (left_of v p) r) (sym e) (subst (λ x. PopsFirst (left_of w m) (left_of v x) r) (sym f) pops)

pub returns-in-Some-clause-value : goal.returns-in-Some-clause-value
returns-in-Some-clause-value c =
    let self = c.args.self.now in
    left_word self.word c.pop_first.new.self self.later self.first c.in-Some.number self.from c.in-Some.ensures.bound c.in-Some.ensures.value

pub returns-in_err-self-clause-value : goal.returns-in_err-self-clause-value
returns-in_err-self-clause-value c =
    let self = c.args.self.now in
    let word = c.pop_first.new.self in
    let last = sym c.take.ensures.value ∙ c.in_err-self.was in
    subst (PopsFirst (remaining self) (left_of word c.take.new.self)) (sym c.from_residual.ensures) (moved self.word word None last c.take.ensures.after (left_none self.word word c.in_default.ensures.value))

pub returns-in_err-number-clause-value : goal.returns-in_err-number-clause-value
returns-in_err-number-clause-value c =
    let self = c.args.self.now in
    let high = c.in_ok-self.field-0 in
    let word = c.pop_first-2.new.self in
    let later = sym c.take.ensures.value ∙ c.in_ok-self.was in
    subst (PopsFirst (remaining self) (left_of word c.take.new.self)) (sym c.from_residual-in_err-number.ensures) (moved self.word word None later c.take.ensures.after (left_last self.word high word c.in_default.ensures.value.0 c.in_err-number.ensures.value))

pub returns-clause-value : goal.returns-clause-value
returns-clause-value c =
    let self = c.args.self.now in
    let high = c.in_ok-self.field-0 in
    let word = c.pop_first-2.new.self in
    let later = sym c.take.ensures.value ∙ c.in_ok-self.was in
    moved self.word word (Some (64 + c.in_ok-number.number)) later c.take.ensures.after (left_next self.word high word c.in_ok-number.number c.in_default.ensures.value.0 c.in_ok-number.ensures.value)

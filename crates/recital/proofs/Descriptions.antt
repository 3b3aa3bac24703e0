-- The record of a book describes the organ that its forms describe. Assumes nothing.
use Rattle.std.proofs.Common.{◌≡◌, ℕ, ◌<◌, Bool, true, false, cond, ltb, List, None, unwrap_or, refl, ap, subst}
use Rattle.std.specs.Option.{option_map}
use Rattle.std.proofs.lemmas.Bool.{ltb-true}
use Rattle.book.specs.declared.book.Book.{Book}
use Rattle.book.specs.Book.{keys_in, pipes_in, knob_in, scope_in}
use Rattle.book.specs.Entry.{Entry, Holds, said, keys_of, pipes_of, knob_of, scope_of}
use Rattle.book.specs.Limits.{rows, knobs, pistons}
use Rattle.fittings.specs.Tables.{place_at}
use Rattle.organ.specs.Assembly.{Hung, hang_all, stack_meaning}
use Rattle.organ.specs.Opening.{book_setup, new_ranks}
use Rattle.recital.specs.Described.{keys_said, pipes_said, knob_said, scope_said, setup_said, hung_said, stack_said, book_hung, book_stack}
use Rattle.recital.specs.Performing.{Gives}

-- below a limit
guarded : {A : Type 0} (r n : ℕ) (x y d : A) → (r < n → x ≡ y) → cond (ltb r n) x d ≡ cond (ltb r n) y d
guarded r n x y d e = by (ltb r n) refl where
  by : (t : Bool) → ltb r n ≡ t → cond t x d ≡ cond t y d
  by true q = e (ltb-true r n q)
  by false q = refl

module _ (b : Book) (es : List Entry) (h : Holds b es) where
  keys-are : (r : ℕ) → keys_in b r ≡ keys_said es r
  keys-are r =
      guarded r rows (unwrap_or (place_at b.divisions r) 0) (unwrap_or (said (keys_of r) es) 0) 0 (λ q. ap (λ o. unwrap_or o 0) (h.divisions r q))

  pipes_are : (r : ℕ) → pipes_in b r ≡ pipes_said es r
  pipes_are r =
      guarded r rows (unwrap_or (place_at b.ranks r) 0) (unwrap_or (said (pipes_of r) es) 0) 0 (λ q. ap (λ o. unwrap_or o 0) (h.ranks r q))

  knob_is : (k : ℕ) → knob_in b k ≡ knob_said es k
  knob_is k = guarded k knobs (place_at b.knobs k) (said (knob_of k) es) None (h.knobs k)

  scope_is : (q : ℕ) → scope_in b q ≡ scope_said es q
  scope_is q = guarded q pistons (place_at b.pistons q) (said (scope_of q) es) None (h.pistons q)

  pub setup-is : book_setup b ≡ setup_said es
  setup-is = λ i.
      record {
        reach = λ r. keys-are r i;
        steps = λ k. option_map (λ q. q.steps) (knob_is k i);
        home = λ k. unwrap_or (option_map (λ q. q.home) (knob_is k i)) 0;
        scope = λ q. scope_is q i;
      }

  pub hung-is : book_hung b ≡ hung_said es
  hung-is = λ i. hang_all (λ r. keys-are r i) (new_ranks (λ r. pipes_are r i)) (h.wires i)

  pub stack_is : (hung : Hung) → book_stack b hung ≡ stack_said es hung
  stack_is hung = λ i. stack_meaning (λ r. keys-are r i) (new_ranks (λ r. pipes_are r i)) hung

  -- what is given by the record is given by the forms
  pub gives_said : (bytes given : List ℕ) → Gives (book_setup b) (book_stack b) (book_hung b) bytes given → Gives (setup_said es) (stack_said es) (hung_said es) bytes given
  gives_said bytes given g =
      subst (λ (X : Type 0). X) (λ i. Gives (setup-is i) (λ hung. stack_is hung i) (hung-is i) bytes given) g

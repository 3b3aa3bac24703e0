-- The pipes whose notes a drain sends, one number after another, and by row and place. Assumes nothing.
use Rattle.std.specs.Prelude.{◌≡◌, ◌≢◌, ℕ, zero, suc, ◌+◌, ◌*◌, ◌/◌, ◌%◌, ◌<◌, ◌≤◌, Bool, true, false, List, [], ◌∷◌, ◌++◌, map, length, drop, get_or, All, Any, AllPairs, Contains}
use Rattle.std.proofs.Common.{sym, refl, ap, ◌∙◌, subst, inl, inr, ⊎_elim, add-one, arith, length-take}
use Rattle.std.specs.List.{AllByRecursion}
use Rattle.std.proofs.lemmas.List.{get_or-map, length-map}
use Rattle.std.proofs.lemmas.List.Elements.{All-nil, All-push, All-map, All-weaker, All-from_recursion, recursion_from_All, Contains-get_or, Contains-append_left, Contains-push, Contains-push_cases}
use Rattle.std.proofs.lemmas.List.Folds.{flat_map-map}
use Rattle.std.proofs.lemmas.List.Quantifiers.{all_pairs_push}
use Rattle.std.proofs.lemmas.Bool.{cases_eq, cases_lt, false≢true}
use Rattle.std.proofs.lemmas.Bool.Decides.{nat_tests}
use Rattle.chest.specs.Places.{Places, put, differ}
use Rattle.bottom.specs.Drain.{count_of_places, holds, pending, agreed, written_below, drained}
use Rattle.bottom.specs.Notes.{Pipe, Before, note_of, NotesSent}
use Rattle.bottom.proofs.CatchUpLemmas.{holds_at}
use Rattle.bottom.proofs.Pending.{Turn, still, full, next, turn, written_none, length-spelled}
use Rattle.bottom.proofs.Receiver.{Inside, drained-law}

differ-apart : (a b : Bool) → differ a b ≡ true → a ≢ b
differ-apart true true e same = false≢true e
differ-apart true false e same = false≢true (sym same)
differ-apart false true e same = false≢true same
differ-apart false false e same = false≢true e

apart-differ : (a b : Bool) → a ≢ b → differ a b ≡ true
apart-differ true true ne = absurd (ne refl)
apart-differ true false ne = refl
apart-differ false true ne = refl
apart-differ false false ne = absurd (ne refl)

-- by its number, a pipe
pipe_of : ℕ → Pipe
pipe_of n = (n / 128, n % 128)

before-number : (m n : ℕ) → m < n → Before (pipe_of m) (pipe_of n)
unfolding pipe_of
before-number m n h =
    ⊎_elim
    (λ (low : m / 128 < n / 128). inl low)
    (λ (high : n / 128 ≤ m / 128). inr (omega arith, omega arith))
    (cases_lt (m / 128) (n / 128))

number-before : (r p n : ℕ) → p < 128 → Before (r, p) (pipe_of n) → 128 * r + p < n
unfolding pipe_of
number-before r p n low before =
    ⊎_elim (λ (row : r < n / 128). omega arith) (λ (place : (r ≡ n / 128) × (p < n % 128)). omega (arith, place.0, place.1)) before

module _ (s t : Places) (room : ℕ) where
  -- what is written of the pipes with numbers below n
  record Written (n : ℕ) (ns : List ℕ) : Type 0 where
    low : All (λ k. k < n) ns
    apart : All (λ k. differ (holds s k) (holds t k) ≡ true) ns
    rises : AllPairs (λ j k. j < k) ns
    every : 3 * length ns + 3 ≤ room → (k : ℕ) → k < n → differ (holds s k) (holds t k) ≡ true → Contains ns k
    whole : (j k : ℕ) → differ (holds s j) (holds t j) ≡ true → Contains ns k → j < k → Contains ns j

  written-start : Written 0 []
  written-start =
      record {
        low = All-nil (λ k. k < 0);
        apart = All-nil (λ k. differ (holds s k) (holds t k) ≡ true);
        rises = λ i j d less long. absurd (omega arith);
        every = λ fits k h e. absurd (omega arith);
        whole = λ j k e has less. absurd (omega (arith, has.1));
      }

  written-same : (n : ℕ) (ns : List ℕ) → Written n ns → ((k : ℕ) → differ (holds s k) (holds t k) ≡ true → 3 * length ns + 3 ≤ room → k ≢ n) → Written (n + 1) ns
  written-same n ns w not-next =
      record {
        low = All-weaker (λ k. k < n) (λ k. k < n + 1) (λ k h. omega arith) ns w.low;
        apart = w.apart;
        rises = w.rises;
        every = λ fits k h e. w.every fits k (let other = not-next k e fits in omega arith) e;
        whole = w.whole;
      }

  written-more : (n : ℕ) (ns : List ℕ) → Written n ns → differ (holds s n) (holds t n) ≡ true → 3 * length ns + 3 ≤ room → Written (n + 1) (ns ++ n ∷ [])
  written-more n ns w pending fits =
      record {
        low = All-push (λ k. k < n + 1) ns n (All-weaker (λ k. k < n) (λ k. k < n + 1) (λ k h. omega arith) ns w.low) (omega arith);
        apart = All-push (λ k. differ (holds s k) (holds t k) ≡ true) ns n w.apart pending;
        rises = all_pairs_push (λ j k. j < k) ns n w.rises w.low;
        every = λ more k h e. has k h e;
        whole = λ j k e in-list less. has j (⊎_elim (λ (old : Contains ns k). below k j old less) (λ (last : n ≡ k). omega arith) (Contains-push_cases ns n k in-list)) e;
      }
    where
      has : (k : ℕ) → k < n + 1 → differ (holds s k) (holds t k) ≡ true → Contains (ns ++ n ∷ []) k
      has k h e =
          ⊎_elim
          (λ (same : k ≡ n). subst (Contains (ns ++ n ∷ [])) (sym same) (Contains-push ns n))
          (λ (other : k ≢ n). Contains-append_left ns (n ∷ []) k (w.every fits k (omega arith) e))
          (cases_eq k n)

      below : (k j : ℕ) → Contains ns k → j < k → j < n + 1
      below k j old less = let small = w.low old.0 k old.1 in omega (arith, old.2)

  written-turn : (n : ℕ) → Turn s t room n → Written n (written_below n s t room) → Written (n + 1) (written_below (n + 1) s t room)
  written-turn n (still d e) w =
      subst (Written (n + 1)) (sym e) (written-same n _ w (λ k is fits same. false≢true (sym d ∙ ap (λ j. differ (holds s j) (holds t j)) (sym same) ∙ is)))
  written-turn n (full d e) w =
      subst (Written (n + 1)) (sym e) (written-same n _ w (λ k is fits same. omega arith))
  written-turn n (next d l e) w = subst (Written (n + 1)) (sym e) (written-more n _ w d l)

  written : (n : ℕ) → Written n (written_below n s t room)
  written zero = subst (Written 0) (sym (written_none s t room)) written-start
  written (suc n) =
      subst (λ m. Written m (written_below m s t room)) (add-one n) (written-turn n (turn s t room n) (written n))

-- what agrees with what speaks at a place goes on to
module _ (t : Places) where
  agreed-kept : (u : Places) (ns : List ℕ) (r p : ℕ) → u r p ≡ t r p → agreed u t ns r p ≡ t r p
  agreed-kept u [] r p e = e
  agreed-kept u (n ∷ ns) r p e = agreed-kept (put u (n / 128) (n % 128) (holds t n)) ns r p there where
    there : put u (n / 128) (n % 128) (holds t n) r p ≡ t r p
    there = let same : r ≡ n / 128 → p ≡ n % 128 → holds t n ≡ t r p = λ a b i. t (sym a i) (sym b i) in grind (arith, nat_tests)

  agreed-each : (u : Places) (ns : List ℕ) → AllByRecursion (λ k. agreed u t ns (k / 128) (k % 128) ≡ t (k / 128) (k % 128)) ns
  agreed-each u [] = tt
  agreed-each u (n ∷ ns) =
      (agreed-kept (put u (n / 128) (n % 128) (holds t n)) ns (n / 128) (n % 128) (grind (arith, nat_tests)), agreed-each (put u (n / 128) (n % 128) (holds t n)) ns)

  agreed-other : (u : Places) (ns : List ℕ) (r p : ℕ) → AllByRecursion (λ k. (r ≡ k / 128) × (p ≡ k % 128) → ⊥) ns → agreed u t ns r p ≡ u r p
  agreed-other u [] r p none = refl
  agreed-other u (n ∷ ns) r p none =
      agreed-other (put u (n / 128) (n % 128) (holds t n)) ns r p none.1 ∙ there none.0
    where
      there : ((r ≡ n / 128) × (p ≡ n % 128) → ⊥) → put u (n / 128) (n % 128) (holds t n) r p ≡ u r p
      there ne = grind (arith, nat_tests)

-- a pipe is in the list of those with these numbers
contains-pipe : (ns : List ℕ) (r p k : ℕ) → r ≡ k / 128 → p ≡ k % 128 → Contains ns k → Contains (map pipe_of ns) (r, p)
unfolding pipe_of
contains-pipe ns r p k row place (i, low, is) = (
  i,
  omega (arith, low, length-map ns pipe_of),
  get_or-map pipe_of ns i k (r, p) low ∙ ap pipe_of is ∙ (λ j. (sym row j, sym place j)),
)

module _ (s t : Places) (in-s : Inside s) (in-t : Inside t) (old : List ℕ) where
  numbers : List ℕ
  numbers = written_below count_of_places s t (length old)

  told : List Pipe
  told = map pipe_of numbers

  all : Written s t (length old) count_of_places numbers
  unfolding numbers
  all = written s t (length old) count_of_places

  -- where two sets differ there is a pipe
  inside : (r p : ℕ) → s r p ≢ t r p → (r < 16) × (p < 128)
  inside r p ne =
      ⊎_elim
      (λ (row : r < 16).
      ⊎_elim
      (λ (place : p < 128). (row, place))
      (λ (past : 128 ≤ p). absurd (ne (in-s r p (λ w. let l = w.1 in omega arith) ∙ sym (in-t r p (λ w. let l = w.1 in omega arith)))))
      (cases_lt p 128))
      (λ (past : 16 ≤ r). absurd (ne (in-s r p (λ w. let l = w.0 in omega arith) ∙ sym (in-t r p (λ w. let l = w.0 in omega arith)))))
      (cases_lt r 16)

  number-differ : (r p : ℕ) → p < 128 → s r p ≢ t r p → differ (holds s (128 * r + p)) (holds t (128 * r + p)) ≡ true
  number-differ r p low ne = (λ i. differ (holds_at s r p low i) (holds_at t r p low i)) ∙ apart-differ (s r p) (t r p) ne

  told-rising : AllPairs Before told
  unfolding told
  told-rising i j d less long =
      let high : j < length numbers = omega (arith, long, length-map numbers pipe_of) in
      let low : i < length numbers = omega arith in
      subst (λ (x : Pipe × Pipe). Before x.0 x.1) (λ k. (sym (get_or-map pipe_of numbers i 0 d low) k, sym (get_or-map pipe_of numbers j 0 d high) k)) (before-number _ _ (all.rises i j 0 less high))

  told-whole : (r p : ℕ) → s r p ≢ t r p → Any (Before (r, p)) told → Contains told (r, p)
  unfolding told
  told-whole r p ne (k, q, long, is, before) =
      let there = inside r p ne in
      let place = there.1 in
      let low : k < length numbers = omega (arith, long, length-map numbers pipe_of) in
      let later = number-before r p (get_or numbers k 0) place (subst (Before (r, p)) (sym is ∙ get_or-map pipe_of numbers k 0 q low) before) in
      contains-pipe numbers r p (128 * r + p) (omega arith) (omega arith) (all.whole (128 * r + p) (get_or numbers k 0) (number-differ r p place ne) (Contains-get_or numbers k 0 low) later)

  pub notes-sent : (after : Places) (new : List ℕ) (count : ℕ) → after ≡ (drained s t (length old)).sent → count ≡ length (drained s t (length old)).bytes → new ≡ (drained s t (length old)).bytes ++ drop count old → NotesSent t s after old new count
  unfolding numbers told pipe_of
  notes-sent after new count sent answer items =
      let long = length-spelled t numbers in
      let few : 3 * length numbers ≤ length old = omega (arith, length-take (length old / 3) (pending s t count_of_places)) in
      record {
        pipes = told;
        inside = All-map (λ p. (p.0 < 16) × (p.1 < 128)) pipe_of numbers (All-weaker (λ k. k < count_of_places) (λ k. (k / 128 < 16) × (k % 128 < 128)) (λ k h. (omega arith, omega arith)) numbers all.low);
        pending = All-map (λ p. s p.0 p.1 ≢ t p.0 p.1) pipe_of numbers (All-weaker (λ k. differ (holds s k) (holds t k) ≡ true) (λ k. holds s k ≢ holds t k) (λ k e. differ-apart (holds s k) (holds t k) e) numbers all.apart);
        rising = told-rising;
        whole = told-whole;
        answer = omega (arith, answer, long, length-map numbers pipe_of);
        room = omega (arith, answer, long, few);
        bytes = items ∙ ap (λ bs. bs ++ drop count old) (sym (flat_map-map (note_of t) pipe_of numbers));
        sent = subst (λ (u : Places). All (λ (p : Pipe). u p.0 p.1 ≡ t p.0 p.1) told) (sym sent) (All-map (λ p. agreed s t numbers p.0 p.1 ≡ t p.0 p.1) pipe_of numbers (All-from_recursion _ numbers (agreed-each t s numbers)));
        others = λ r p no. ap (λ (u : Places). u r p) sent ∙ agreed-other t s numbers r p (recursion_from_All _ numbers (λ k d low here. no (contains-pipe numbers r p (get_or numbers k d) here.0 here.1 (Contains-get_or numbers k d low))));
        stops = λ r p ne. ⊎_elim (λ (done : (drained s t (length old)).sent ≡ t). absurd (ne (ap (λ (u : Places). u r p) (sent ∙ done)))) (λ (full : length old < length (drained s t (length old)).bytes + 3). omega (arith, answer)) (drained-law s t (length old) in-s in-t).stops;
      }

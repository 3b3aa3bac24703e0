-- The pending places that a drain writes, one number after another. Assumes nothing.
use Rattle.std.proofs.Common.{◌≡◌, ℕ, ◌+◌, ◌*◌, ◌/◌, ◌%◌, ◌<◌, ◌≤◌, true, false, cond, List, [], ◌∷◌, ◌++◌, length, take, sym, refl, ap, ◌∙◌, ⊎_elim, append-nil, add-one, arith, length-take}
use Rattle.std.specs.List.{flat_map}
use Rattle.std.proofs.lemmas.List.{take_all, take-append-le, length_push}
use Rattle.std.proofs.lemmas.Bool.{cases_lt, cases_Bool}
use Rattle.chest.specs.Places.{Places, put, differ}
use Rattle.bottom.specs.Drain.{holds, pending, spelled, agreed, written_below}

pub pending-none : (s t : Places) → pending s t 0 ≡ []
unfolding pending
pending-none s t = refl

pub pending-more : (s t : Places) (n : ℕ) → pending s t (n + 1) ≡ pending s t n ++ cond (differ (holds s n) (holds t n)) (n ∷ []) []
unfolding pending
pending-more s t n = ap (pending s t) (add-one n)

pub length-spelled : (t : Places) (ns : List ℕ) → length (flat_map (spelled t) ns) ≡ 3 * length ns
length-spelled t [] = refl
length-spelled t (n ∷ ns) = let rest = length-spelled t ns in omega arith

-- one place more
pub agreed-push : (s t : Places) (ns : List ℕ) (n : ℕ) → agreed s t (ns ++ n ∷ []) ≡ put (agreed s t ns) (n / 128) (n % 128) (holds t n)
agreed-push s t [] n = refl
agreed-push s t (m ∷ ns) n = agreed-push (put s (m / 128) (m % 128) (holds t m)) t ns n

module _ (s t : Places) (room : ℕ) where
  pub written_none : written_below 0 s t room ≡ []
  written_none = ap (take (room / 3)) (pending-none s t) ∙ take_all (room / 3) [] (omega arith)

  -- a place that is not pending adds nothing
  pub written-still : (n : ℕ) → differ (holds s n) (holds t n) ≡ false → written_below (n + 1) s t room ≡ written_below n s t room
  written-still n e =
      ap (take (room / 3)) (pending-more s t n ∙ ap (λ b. pending s t n ++ cond b (n ∷ []) []) e ∙ append-nil (pending s t n))

  -- nor does any where the room is used up
  pub written-full : (n : ℕ) → room < 3 * length (written_below n s t room) + 3 → written_below (n + 1) s t room ≡ written_below n s t room
  written-full n h =
      let long : room / 3 ≤ length (pending s t n) = omega (arith, length-take (room / 3) (pending s t n)) in
      ap (take (room / 3)) (pending-more s t n) ∙ take-append-le (room / 3) (pending s t n) (cond (differ (holds s n) (holds t n)) (n ∷ []) []) long

  -- another one is the next that is written
  pub written_next : (n : ℕ) → differ (holds s n) (holds t n) ≡ true → 3 * length (written_below n s t room) + 3 ≤ room → written_below (n + 1) s t room ≡ written_below n s t room ++ n ∷ []
  written_next n e h =
      let short : length (pending s t n) < room / 3 = omega (arith, length-take (room / 3) (pending s t n)) in
      ap (take (room / 3)) (pending-more s t n ∙ ap (λ b. pending s t n ++ cond b (n ∷ []) []) e)
      ∙ take_all (room / 3) (pending s t n ++ n ∷ []) (omega (arith, length_push (pending s t n) n))
      ∙ ap (λ ns. ns ++ n ∷ []) (sym (take_all (room / 3) (pending s t n) (omega arith)))

  -- it is one of these three
  pub data Turn (n : ℕ) : Type 0 where
    still : differ (holds s n) (holds t n) ≡ false → written_below (n + 1) s t room ≡ written_below n s t room → Turn n
    full : room < 3 * length (written_below n s t room) + 3 → written_below (n + 1) s t room ≡ written_below n s t room → Turn n
    next : differ (holds s n) (holds t n) ≡ true → 3 * length (written_below n s t room) + 3 ≤ room → written_below (n + 1) s t room ≡ written_below n s t room ++ n ∷ [] → Turn n

  pub turn : (n : ℕ) → Turn n
  turn n =
      ⊎_elim
      (λ (e : differ (holds s n) (holds t n) ≡ true).
      ⊎_elim
      (λ (h : room < 3 * length (written_below n s t room) + 3). full h (written-full n h))
      (λ (h : 3 * length (written_below n s t room) + 3 ≤ room). next e h (written_next n e h))
      (cases_lt room (3 * length (written_below n s t room) + 3)))
      (λ (e : differ (holds s n) (holds t n) ≡ false). still e (written-still n e))
      (cases_Bool (differ (holds s n) (holds t n)))

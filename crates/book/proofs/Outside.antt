-- The first byte of a text that fails a test. Assumes nothing.
use Rattle.std.proofs.Common.{◌≡◌, ℕ, zero, suc, ◌+◌, ◌<◌, ◌≤◌, Bool, true, false, ltb, List, [], ◌∷◌, length, get_or, take, Some, None, sym, ap, ◌∙◌, ⊎_elim, arith}
use Rattle.std.specs.List.{prefix_len, AllByRecursion}
use Rattle.std.proofs.lemmas.List.Sums.{prefix_len_is}
use Rattle.std.proofs.lemmas.Bool.{cond-true, cond-false, cases_Bool, lt-ltb, le-ltb, ltb-true, ltb-false}
use Rattle.book.specs.Bytes.{first_outside}

module _ (p : ℕ → Bool) (bs : List ℕ) where
  pub some-outside : (n : ℕ) → Some n ≡ first_outside p bs → (n ≡ prefix_len p bs) × (n < length bs)
  some-outside n e =
      ⊎_elim
      (λ d.
      let s = e ∙ cond-true _ (Some (prefix_len p bs)) None d in
      let same : n ≡ prefix_len p bs = cc in
      (same, omega (arith, ltb-true _ _ d)))
      (λ d. absurd (let s = e ∙ cond-false _ (Some (prefix_len p bs)) None d in grind arith))
      (cases_Bool (ltb (prefix_len p bs) (length bs)))

  pub none-outside : None ≡ first_outside p bs → length bs ≤ prefix_len p bs
  none-outside e =
      ⊎_elim
      (λ d. absurd (let s = e ∙ cond-true _ (Some (prefix_len p bs)) None d in grind arith))
      (λ d. ltb-false _ _ d)
      (cases_Bool (ltb (prefix_len p bs) (length bs)))

  -- the byte at n fails, and those before it pass
  pub outside-at : (n : ℕ) → n < length bs → ((k : ℕ) → k < n → p (get_or bs k 0) ≡ true) → p (get_or bs n 0) ≡ false → Some n ≡ first_outside p bs
  outside-at n in' passes stops =
      let is = prefix_len_is p bs n 0 (omega arith) passes (λ _. stops) in
      ap Some (sym is) ∙ sym (cond-true _ _ _ (lt-ltb (prefix_len p bs) (length bs) (omega (arith, is))))

  pub outside-none : ((k : ℕ) → k < length bs → p (get_or bs k 0) ≡ true) → None ≡ first_outside p bs
  outside-none passes =
      let is = prefix_len_is p bs (length bs) 0 (omega arith) passes (λ h. absurd (omega (arith, h))) in
      sym (cond-false _ _ _ (le-ltb (prefix_len p bs) (length bs) (omega (arith, is))))

-- the bytes before a place up to which all pass
pub passed : (p : ℕ → Bool) (bs : List ℕ) (k : ℕ) → k ≤ prefix_len p bs → AllByRecursion (λ b. p b ≡ true) (take k bs)
passed p bs zero h = tt
passed p [] (suc k) h = tt
passed p (b ∷ bs) (suc k) h =
    ⊎_elim
    (λ d. (d, passed p bs k (omega (arith, cond-true (p b) (1 + prefix_len p bs) 0 d))))
    (λ d. absurd (omega (arith, cond-false (p b) (1 + prefix_len p bs) 0 d)))
    (cases_Bool (p b))

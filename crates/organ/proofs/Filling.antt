-- Filling a console's tables from a book, number by number. Assumes nothing.
use Rattle.std.proofs.Common.{◌≡◌, ℕ, ◌+◌, ◌<◌, ◌≤◌, ◌≢◌, ap, sym, ◌∙◌, ⊎_elim, arith}
use Rattle.std.proofs.lemmas.Bool.{cases_eq}

-- what a table says is what is wanted of the numbers below n, and nothing of the others
module _ {X : Type 0} (want : ℕ → X) (nothing : X) where
  abbrev pub Filled : (ℕ → X) → ℕ → Type 0
  Filled says n = ((k : ℕ) → k < n → says k ≡ want k) × ((k : ℕ) → n ≤ k → says k ≡ nothing)

  -- one number more, where the others stay as they are
  pub filled-more : (says next : ℕ → X) (n : ℕ) → Filled says n → next n ≡ want n → ((k : ℕ) → k ≢ n → next k ≡ says k) → Filled next (n + 1)
  filled-more says next n so here others = (λ k low. below k low, λ k high. others k (λ (e : k ≡ n). omega arith) ∙ so.1 k (omega arith)) where
    below : (k : ℕ) → k < n + 1 → next k ≡ want k
    below k low =
        ⊎_elim
        (λ (e : k ≡ n). ap next e ∙ here ∙ sym (ap want e))
        (λ (ne : k ≢ n). others k ne ∙ so.0 k (omega arith))
        (cases_eq k n)

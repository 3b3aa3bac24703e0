-- The first bytes that a reader gives. Assumes nothing.
use Rattle.std.proofs.Common.{◌≡◌, ℕ, List, [], ◌++◌, take, IfSome, Some, None, Option, ap, ◌∙◌, subst, arith}
use Rattle.std.specs.Option.{option_map}
use Rattle.std.proofs.lemmas.List.{take_all, length-take}

cut_once : (o : Option (List ℕ)) (n k : ℕ) (start read text : List ℕ) → k ≡ n → start ≡ [] → IfSome (option_map (take k) o) (λ xs. read ≡ start ++ xs) → text ≡ take n read → IfSome o (λ all. text ≡ take n all)
cut_once None n k start read text same new bytes cut = tt
cut_once (Some all) n k start read text same new bytes cut =
    cut ∙ ap (take n) (bytes ∙ (λ i. new i ++ take (same i) all)) ∙ take_all n (take n all) (omega (arith, length-take n all))

-- of a reader that is cut off after k bytes, all that comes is read
pub first : {R : Type 0} (remaining : R → Option (List ℕ)) (inner reader : R) (n k : ℕ) (start read text : List ℕ) → inner ≡ reader → k ≡ n → start ≡ [] → IfSome (option_map (take k) (remaining inner)) (λ xs. read ≡ start ++ xs) → text ≡ take n read → IfSome (remaining reader) (λ all. text ≡ take n all)
first remaining inner reader n k start read text is same new bytes cut =
    cut_once (remaining reader) n k start read text same new (subst (λ r. IfSome (option_map (take k) (remaining r)) (λ xs. read ≡ start ++ xs)) is bytes) cut

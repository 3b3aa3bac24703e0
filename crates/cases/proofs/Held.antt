-- Places in a list, and the image of them: the places to which wires lead from each. Assumes nothing.
use Rattle.std.proofs.Common.{◌≡◌, ℕ, ◌+◌, Bool, true, false, cond, ◌&&◌, ◌||◌, eqb, ltb, List, [], ◌∷◌, ◌++◌, Some, None, Option, sym, refl, ap, ◌∙◌, arith}
use Rattle.std.specs.List.{flat_map}
use Rattle.std.specs.Option.{option_to_list}
use Rattle.std.proofs.lemmas.List.Sums.{sum_by-cons}
use Rattle.std.proofs.lemmas.Bool.Decides.{nat_tests}
use Rattle.chest.specs.Places.{Places, none, put}
use Rattle.chest.specs.Meaning.{Panel}
use Rattle.wires.specs.declared.lead.Lead.{Lead}
use Rattle.coupling.specs.Layout.{Reaches}
use Rattle.wires.specs.Wires.{image, through, ways_to, outlet, meets}
use Rattle.wires.specs.Laws.{either}
use Rattle.wires.proofs.Images.{image-ways, ways_free}
use Rattle.wires.proofs.Ways.{through-put}
use Rattle.wires.proofs.Shown.{image-law}

-- just these places
abbrev pub held : List (ℕ × ℕ) → Places
held [] = none
held (t ∷ ts) = put (held ts) t.0 t.1 true

-- two lists in a row
pub either_held : (xs ys : List (ℕ × ℕ)) → held (xs ++ ys) ≡ either (held xs) (held ys)
either_held [] ys = refl
either_held (t ∷ xs) ys = ap (λ s. put s t.0 t.1 true) (either_held xs ys) ∙ λ i b q. by (eqb b t.0 && eqb q t.1) (held xs b q) (held ys b q) i where
  by : (on x y : Bool) → cond on true (x || y) ≡ (cond on true x || y)
  by true x y = refl
  by false x y = refl

-- one place more
apart : (row place : ℕ) (s : Places) → put s row place true ≡ either (put none row place true) s
apart row place s = λ i r p. by (eqb r row && eqb p place) (s r p) i where
  by : (on x : Bool) → cond on true x ≡ (cond on true false || x)
  by true x = refl
  by false x = refl

module _ (reach : Reaches) (panel : Panel) where
  -- the places to which wires lead from one key, and from each of several
  abbrev pub outlets : List Lead → ℕ × ℕ → List (ℕ × ℕ)
  outlets ws t = flat_map (λ w. option_to_list (outlet reach panel w t.0 t.1)) ws

  abbrev pub all_outlets : List Lead → List (ℕ × ℕ) → List (ℕ × ℕ)
  all_outlets ws ts = flat_map (outlets ws) ts

  -- no wire has a way from no key, and from one key where it leads there
  no_way : (b q : ℕ) (w : Lead) → through reach panel none b q w ≡ 0
  no_way b q w =
      let all = ways_free reach (w ∷ []) panel none b q (λ r p. refl) in
      omega (arith, sum_by-cons (through reach panel none b q) w [])

  one_way : (row key b q : ℕ) (w : Lead) → through reach panel (put none row key true) b q w ≡ cond (meets (outlet reach panel w row key) b q) 1 0
  one_way row key b q w =
      let more = through-put reach panel none row key true b q w in
      let free = no_way b q w in
      grind (arith, nat_tests)

  or_meets : (b q m n : ℕ) (o : Option (ℕ × ℕ)) (ts : List (ℕ × ℕ)) → m ≡ cond (meets o b q) 1 0 → ltb 0 n ≡ held ts b q → ltb 0 (m + n) ≡ held (option_to_list o ++ ts) b q
  or_meets b q m n None ts e f = grind (arith, nat_tests)
  or_meets b q m n (Some t) ts e f = grind (arith, nat_tests)

  -- so the number of ways from one key is above 0 at the places to which wires lead
  met : (row key b q : ℕ) (ws : List Lead) → ltb 0 (ways_to reach ws panel (put none row key true) b q) ≡ held (outlets ws (row, key)) b q
  met row key b q [] = refl
  met row key b q (w ∷ ws) =
      ap (ltb 0) (sum_by-cons (through reach panel (put none row key true) b q) w ws)
      ∙ or_meets b q _ _ (outlet reach panel w row key) (outlets ws (row, key)) (one_way row key b q w) (met row key b q ws)

  image-one : (ws : List Lead) (row key : ℕ) → image reach ws panel (put none row key true) ≡ held (outlets ws (row, key))
  image-one ws row key = λ i b q. (image-ways reach ws panel (put none row key true) b q ∙ met row key b q ws) i

  -- the image of keys: the places to which wires lead from each of them
  pub image-held : (ws : List Lead) (ks : List (ℕ × ℕ)) → image reach ws panel (held ks) ≡ held (all_outlets ws ks)
  image-held ws [] = image-law.silent reach ws panel
  image-held ws (t ∷ ks) =
      ap (image reach ws panel) (apart t.0 t.1 (held ks))
      ∙ image-law.keys reach ws panel (put none t.0 t.1 true) (held ks)
      ∙ (λ i. either (image-one ws t.0 t.1 i) (image-held ws ks i))
      ∙ sym (either_held (outlets ws t) (all_outlets ws ks))

-- Values that are never equal, and what an equation between two alike gives. Assumes nothing.
use Rattle.std.proofs.Common.{◌≡◌, Bool, true, cond, Some, None, Ok, Err, Option, Result, sym, ◌∙◌, ⊎_elim, arith}
use Rattle.std.proofs.lemmas.Bool.{cond-true, cond-false, cases_Bool}
use Rattle.std.proofs.lemmas.Option.{none-some}

pub ok_err : {X E : Type 0} (x : X) (e : E) → ◌≡◌ {A = Result X E} (Ok x) (Err e) → ⊥
ok_err x e is = grind arith

pub ok_same : {X E : Type 0} (x y : X) → ◌≡◌ {A = Result X E} (Ok x) (Ok y) → x ≡ y
ok_same x y e = cc

-- a test that has to be true for something to be there
pub some-cond : {X : Type 0} (x : X) (b : Bool) (o : Option X) → Some x ≡ cond b o None → (b ≡ true) × (Some x ≡ o)
some-cond x b o e =
    ⊎_elim
    (λ d. (d, e ∙ cond-true b o None d))
    (λ d. absurd (none-some x (sym (e ∙ cond-false b o None d))))
    (cases_Bool b)

pub err_same : {X E : Type 0} (e f : E) → ◌≡◌ {A = Result X E} (Err e) (Err f) → e ≡ f
err_same e f is = cc

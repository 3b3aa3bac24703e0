-- What the entries say once one more is added. Assumes nothing.
use Rattle.std.proofs.Common.{◌≡◌, ℕ, ◌<◌, true, cond, not, ◌&&◌, eqb, List, [], ◌∷◌, ◌++◌, is_some, is_ok, Some, None, Option, Result, sym, refl, ap, ◌∙◌, subst, ⊎_elim}
use Rattle.std.proofs.lemmas.List.{append-nil, append_assoc}
use Rattle.std.proofs.lemmas.Bool.{cond-true, cond-false, cases_eq, eq-eqb, ne_eqb, true≢false}
use Rattle.book.specs.declared.form.Form.{Form}
use Rattle.book.specs.declared.book.BookWire.{BookWire}
use Rattle.book.specs.declared.book.Book.{Book}
use Rattle.book.specs.Entry.{Entry, first_said, said, wire_of, wires_of, Holds, keys_of, pipes_of, knob_of, scope_of}
use Rattle.book.specs.Limits.{rows, knobs, pistons}
use Rattle.book.specs.declared.tables.Taken.{Taken}
use Rattle.fittings.specs.Tables.{place_at}
use Rattle.book.specs.Tables.{Gives}

first-assoc : {X : Type 0} (a b c : Option X) → first_said a (first_said b c) ≡ first_said (first_said a b) c
first-assoc None b c = refl
first-assoc (Some x) b c = refl

first-none : {X : Type 0} (a : Option X) → first_said a None ≡ a
first-none None = refl
first-none (Some x) = refl

pub said-push : {X : Type 0} (says : Form → Option X) (es : List Entry) (e : Entry) → said says (es ++ e ∷ []) ≡ first_said (said says es) (says e.form)
said-push says [] e = first-none (says e.form)
said-push says (d ∷ es) e = ap (first_said (says d.form)) (said-push says es e) ∙ first-assoc (says d.form) (said says es) (says e.form)

pub wires-push : (es : List Entry) (e : Entry) → wires_of (es ++ e ∷ []) ≡ wires_of es ++ wire_of e
wires-push [] e = append-nil (wire_of e)
wires-push (d ∷ es) e = ap (λ l. wire_of d ++ l) (wires-push es e) ∙ sym (append_assoc (wire_of d) (wires_of es) (wire_of e))

pub no_wire : (es : List Entry) (e : Entry) (ws : List BookWire) → wire_of e ≡ [] → ws ≡ wires_of es → ws ≡ wires_of (es ++ e ∷ [])
no_wire es e ws none is = is ∙ sym (append-nil (wires_of es)) ∙ ap (λ l. wires_of es ++ l) (sym none) ∙ sym (wires-push es e)

module _ {X : Type 0} (n : ℕ) (says : ℕ → Form → Option X) (es : List Entry) (e : Entry) where
  -- the new entry says nothing of this table
  pub same_table : (t : List (Option X)) → ((j : ℕ) → says j e.form ≡ None) → ((j : ℕ) → j < n → place_at t j ≡ said (says j) es) → (j : ℕ) → j < n → place_at t j ≡ said (says j) (es ++ e ∷ [])
  same_table t silent old j in' =
      old j in' ∙ sym (said-push (says j) es e ∙ ap (first_said (said (says j) es)) (silent j) ∙ first-none (said (says j) es))

  fresh : (o : Option X) → true ≡ not (is_some o) → o ≡ None
  fresh None h = refl
  fresh (Some x) h = absurd (true≢false h)

  -- it gives one place
  pub more_table : (old new : List (Option X)) (at k : ℕ) (x : X) (done : Result (Unit {0}) Taken) → at ≡ k → Gives old new at x done → is_ok done ≡ true → ((j : ℕ) → says j e.form ≡ cond (eqb j k) (Some x) None) → ((j : ℕ) → j < n → place_at old j ≡ said (says j) es) → (j : ℕ) → j < n → place_at new j ≡ said (says j) (es ++ e ∷ [])
  more_table old new at k x done here given is speaks holds j in' =
      let g = subst (λ i. Gives old new i x done) here given in
      let now = g.places j ∙ ap (λ d. cond (d && eqb j k) (Some x) (place_at old j)) is in
      let then = said-push (says j) es e ∙ ap (first_said (said (says j) es)) (speaks j) in
      ⊎_elim
      (λ (same : j ≡ k).
      let test = eq-eqb j k same in
      let empty : place_at old j ≡ None = ap (place_at old) same ∙ fresh (place_at old k) (sym is ∙ g.answer) in
      now ∙ cond-true _ _ _ test ∙ sym (then ∙ ap (λ o. first_said o (cond (eqb j k) (Some x) None)) (sym (holds j in') ∙ empty) ∙ cond-true _ _ _ test))
      (λ other.
      let test = ne_eqb j k other in
      now ∙ cond-false _ _ _ test ∙ holds j in' ∙ sym (then ∙ ap (first_said (said (says j) es)) (cond-false _ _ _ test) ∙ first-none (said (says j) es)))
      (cases_eq j k)

-- where the entry is of another kind, the tables and the wires stay as they are
module _ (b : Book) (es : List Entry) (h : Holds b es) (e : Entry) where
  pub divisions_stay : ((r : ℕ) → keys_of r e.form ≡ None) → (r : ℕ) → r < rows → place_at b.divisions r ≡ said (keys_of r) (es ++ e ∷ [])
  divisions_stay silent = same_table rows keys_of es e b.divisions silent h.divisions

  pub ranks_stay : ((r : ℕ) → pipes_of r e.form ≡ None) → (r : ℕ) → r < rows → place_at b.ranks r ≡ said (pipes_of r) (es ++ e ∷ [])
  ranks_stay silent = same_table rows pipes_of es e b.ranks silent h.ranks

  pub knobs-stay : ((k : ℕ) → knob_of k e.form ≡ None) → (k : ℕ) → k < knobs → place_at b.knobs k ≡ said (knob_of k) (es ++ e ∷ [])
  knobs-stay silent = same_table knobs knob_of es e b.knobs silent h.knobs

  pub pistons-stay : ((p : ℕ) → scope_of p e.form ≡ None) → (p : ℕ) → p < pistons → place_at b.pistons p ≡ said (scope_of p) (es ++ e ∷ [])
  pistons-stay silent = same_table pistons scope_of es e b.pistons silent h.pistons

  pub wires-stay : wire_of e ≡ [] → b.wires.items ≡ wires_of (es ++ e ∷ [])
  wires-stay none = no_wire es e _ none h.wires

  pub wires-grow : (ws : List BookWire) (w : BookWire) → ws ≡ b.wires.items ++ w ∷ [] → wire_of e ≡ w ∷ [] → ws ≡ wires_of (es ++ e ∷ [])
  wires-grow ws w is one = is ∙ (λ i. h.wires i ++ sym one i) ∙ sym (wires-push es e)

-- a place is refused where the entries say something of it
pub full_or_free : {X : Type 0} (old new : List (Option X)) (at k : ℕ) (x : X) (done : Result (Unit {0}) Taken) (o : Option X) → at ≡ k → Gives old new at x done → place_at old k ≡ o → is_ok done ≡ not (is_some o)
full_or_free old new at k x done o here g is = g.answer ∙ ap (λ o. not (is_some o)) (ap (place_at old) here ∙ is)

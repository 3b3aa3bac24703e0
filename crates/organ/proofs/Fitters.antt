-- One walk over the wires of a book is what a fitter says of it. Assumes nothing.
use Rattle.std.proofs.Common.{◌≡◌, Bool, true, false, cond, List, [], ◌∷◌, ◌++◌, Ok, Err, Result, IfOk, sym, refl, ap, ◌∙◌, subst, append_assoc, append-nil}
use Rattle.chest.specs.Meaning.{Meaning}
use Rattle.book.specs.declared.board.Board.{Board}
use Rattle.book.specs.declared.board.Board.TheVariants.{Coupler, Stop}
use Rattle.book.specs.declared.book.BookWire.{BookWire}
use Rattle.book.specs.Book.{same_board, on_board}
use Rattle.book.proofs.Clash.{ok_err, err_same}
use Rattle.board.specs.Relay.{RelayBoard, wired_of, meaning_of}
use Rattle.wires.specs.declared.fault.BoardFault.{BoardFault}
use Rattle.wires.specs.declared.lead.Lead.{Lead}
use Rattle.coupling.specs.Layout.{Reaches}
use Rattle.wires.specs.Fitting.{lead_of}
use Rattle.organ.specs.declared.refusal.Refusal.{Refusal}
use Rattle.organ.specs.Assembly.{unless_refused, hung_on, hang_after, hang_all, coupler_wired, stack_meaning, Assembles}
use Rattle.organ.specs.Fitter.{just_its_own, each_its_own, answer_after, AllTaken, RefusedFor, FittedInOrder}

-- a board's own wires of two lists
own_of_both : (b : Board) (xs ys : List BookWire) → just_its_own b (xs ++ ys) ≡ just_its_own b xs ++ just_its_own b ys
own_of_both b [] ys = refl
own_of_both b (x ∷ xs) ys = either (on_board b x) (own_of_both b xs ys) where
  either : (t : Bool) → just_its_own b (xs ++ ys) ≡ just_its_own b xs ++ just_its_own b ys → cond t (lead_of x.wire ∷ just_its_own b (xs ++ ys)) (just_its_own b (xs ++ ys)) ≡ cond t (lead_of x.wire ∷ just_its_own b xs) (just_its_own b xs) ++ just_its_own b ys
  either true rest = ap (λ ws. lead_of x.wire ∷ ws) rest
  either false rest = rest

-- a wire more on its board
on_its_board : (c s : List Lead) (b : Board) (lead : Lead) → hung_on b (record { couplers = c; stops = s }) lead ≡ record { couplers = c ++ cond (same_board Coupler b) (lead ∷ []) []; stops = s ++ cond (same_board Stop b) (lead ∷ []) [] }
on_its_board c s Coupler lead = λ i. record { couplers = c ++ lead ∷ []; stops = sym (append-nil s) i }
on_its_board c s Stop lead = λ i. record { couplers = sym (append-nil c) i; stops = s ++ lead ∷ [] }

one_more : (front : List BookWire) (w : BookWire) → hung_on w.board (each_its_own front) (lead_of w.wire) ≡ each_its_own (front ++ w ∷ [])
one_more front w =
    on_its_board (just_its_own Coupler front) (just_its_own Stop front) w.board (lead_of w.wire)
    ∙ λ i. record { couplers = sym (own_of_both Coupler front (w ∷ [])) i; stops = sym (own_of_both Stop front (w ∷ [])) i }

module _ (keys : Reaches) (m : Meaning) where
  -- each wire of a list is taken by its board after a front and those of the list before it
  TakenAfter : List BookWire → List BookWire → Type 0
  TakenAfter front [] = Unit {0}
  TakenAfter front (w ∷ ws) = (answer_after keys m front w ≡ Ok tt) × TakenAfter (front ++ w ∷ []) ws

  taken_after : (front ws : List BookWire) → ((before : List BookWire) (w : BookWire) (after : List BookWire) → front ++ ws ≡ before ++ w ∷ after → answer_after keys m before w ≡ Ok tt) → TakenAfter front ws
  unfolding TakenAfter
  taken_after front [] t = tt
  taken_after front (w ∷ ws) t =
      (t front w ws refl, taken_after (front ++ w ∷ []) ws (λ b x a e. t b x a (sym (append_assoc front (w ∷ []) ws) ∙ e)))

  at : (front before : List BookWire) (w : BookWire) (rest : List BookWire) → TakenAfter front (before ++ w ∷ rest) → answer_after keys m (front ++ before) w ≡ Ok tt
  unfolding TakenAfter
  at front [] w rest t = ap (λ f. answer_after keys m f w) (append-nil front) ∙ t.0
  at front (x ∷ before) w rest t =
      ap (λ f. answer_after keys m f w) (sym (append_assoc front (x ∷ []) before)) ∙ at (front ++ x ∷ []) before w rest t.1

  all_taken : (ws : List BookWire) → TakenAfter [] ws → AllTaken keys m ws
  all_taken ws t = λ front w rest e. at [] front w rest (subst (TakenAfter []) e t)

  -- a walk that takes all, and one that comes to a wire which is refused
  takes : (front ws : List BookWire) → TakenAfter front ws → hang_after keys m (each_its_own front) ws ≡ Ok (each_its_own (front ++ ws))
  unfolding TakenAfter
  takes front [] t = ap (λ f. Ok (each_its_own f)) (sym (append-nil front))
  takes front (w ∷ ws) t =
      ap (λ a. unless_refused a w.line (hang_after keys m (hung_on w.board (each_its_own front) (lead_of w.wire)) ws)) t.0
      ∙ ap (λ h. hang_after keys m h ws) (one_more front w)
      ∙ takes (front ++ w ∷ []) ws t.1
      ∙ ap (λ f. Ok (each_its_own f)) (append_assoc front (w ∷ []) ws)

  refuses : (front mid : List BookWire) (w : BookWire) (rest : List BookWire) (f : BoardFault) → TakenAfter front mid → answer_after keys m (front ++ mid) w ≡ Err f → hang_after keys m (each_its_own front) (mid ++ w ∷ rest) ≡ Err (record { line = w.line; fault = f })
  unfolding TakenAfter
  refuses front [] w rest f t e =
      ap (λ a. unless_refused a w.line (hang_after keys m (hung_on w.board (each_its_own front) (lead_of w.wire)) rest)) (ap (λ x. answer_after keys m x w) (sym (append-nil front)) ∙ e)
  refuses front (x ∷ mid) w rest f t e =
      ap (λ a. unless_refused a x.line (hang_after keys m (hung_on x.board (each_its_own front) (lead_of x.wire)) (mid ++ w ∷ rest))) t.0
      ∙ ap (λ h. hang_after keys m h (mid ++ w ∷ rest)) (one_more front x)
      ∙ refuses (front ++ x ∷ []) mid w rest f t.1 (ap (λ y. answer_after keys m y w) (append_assoc front (x ∷ []) mid) ∙ e)

  -- one of the two it is
  data Verdict (front ws : List BookWire) : Type 0 where
    fine : TakenAfter front ws → Verdict front ws
    stops : (mid : List BookWire) (w : BookWire) (rest : List BookWire) (f : BoardFault) → ws ≡ mid ++ w ∷ rest → TakenAfter front mid → answer_after keys m (front ++ mid) w ≡ Err f → Verdict front ws

  one_before : (front : List BookWire) (x : BookWire) (ws : List BookWire) → answer_after keys m front x ≡ Ok tt → Verdict (front ++ x ∷ []) ws → Verdict front (x ∷ ws)
  unfolding TakenAfter
  one_before front x ws a (fine t) = fine (a, t)
  one_before front x ws a (stops mid w rest f is t e) =
      stops (x ∷ mid) w rest f (ap (λ l. x ∷ l) is) (a, t) (ap (λ y. answer_after keys m y w) (sym (append_assoc front (x ∷ []) mid)) ∙ e)

  verdict : (front ws : List BookWire) → Verdict front ws
  unfolding TakenAfter
  verdict front [] = fine tt
  verdict front (w ∷ ws) = by (answer_after keys m front w) refl (verdict (front ++ w ∷ []) ws) where
    by : (a : Result Unit BoardFault) → answer_after keys m front w ≡ a → Verdict (front ++ w ∷ []) ws → Verdict front (w ∷ ws)
    by (Ok u) e rest = one_before front w ws e rest
    by (Err f) e rest = stops [] w ws f refl tt (ap (λ y. answer_after keys m y w) (append-nil front) ∙ e)

  module _ {C : Type 0} (meaning : C → Meaning) (settled : C → Type 0) (ws : List BookWire) where
    result_is : (f : Refusal) (x : Result (RelayBoard (RelayBoard C)) Refusal) → Assembles meaning settled keys m (Err f) x → x ≡ Err f
    result_is f (Ok s) made = absurd made
    result_is f (Err e) made = ap Err made

    -- all were taken
    with_all : (x : Result (RelayBoard (RelayBoard C)) Refusal) → TakenAfter [] ws → Assembles meaning settled keys m (Ok (each_its_own ws)) x → FittedInOrder keys m meaning ws x
    with_all (Err e) t made = absurd made
    with_all (Ok s) t made =
        record {
          refused = λ r. (λ e. absurd (ok_err s r e), λ f. absurd (ok_err tt r.fault (sym (all_taken ws t f.front f.wire f.rest f.are) ∙ f.refused)));
          taken = (all_taken ws t, made.1, made.2);
        }

    -- one was refused
    with_one : (x : Result (RelayBoard (RelayBoard C)) Refusal) (e : Refusal) → hang_all keys m ws ≡ Err e → RefusedFor keys m ws e → x ≡ Err e → FittedInOrder keys m meaning ws x
    with_one x e is one made =
        record {
          refused = λ r. (λ q. subst (RefusedFor keys m ws) (err_same e r (sym made ∙ q)) one, λ f. made ∙ ap Err (err_same e r (sym is ∙ hangs_so r f)));
          taken = subst (λ y. IfOk y (λ stack. AllTaken keys m ws × (meaning_of (meaning_of meaning) stack ≡ stack_meaning keys m (each_its_own ws)) × (wired_of stack.coupling ≡ coupler_wired keys m (just_its_own Coupler ws)))) (sym made) tt;
        }
      where
        hangs_so : (r : Refusal) → RefusedFor keys m ws r → hang_all keys m ws ≡ Err r
        hangs_so r f =
            ap (hang_all keys m) f.are
            ∙ refuses [] f.front f.wire f.rest r.fault (taken_after [] f.front f.taken) f.refused
            ∙ λ i. Err (record { line = sym f.line i; fault = r.fault })

    pub fitted_in_order : (x : Result (RelayBoard (RelayBoard C)) Refusal) → Assembles meaning settled keys m (hang_all keys m ws) x → FittedInOrder keys m meaning ws x
    fitted_in_order x made = by (verdict [] ws) where
      by : Verdict [] ws → FittedInOrder keys m meaning ws x
      by (fine t) = with_all x t (subst (λ h. Assembles meaning settled keys m h x) (takes [] ws t) made)
      by (stops mid w rest f are t e) =
          let r : Refusal = record { line = w.line; fault = f } in
          let is : hang_all keys m ws ≡ Err r = ap (hang_all keys m) are ∙ refuses [] mid w rest f t e in
          with_one x r is (record { front = mid; wire = w; rest = rest; are = are; taken = all_taken mid t; refused = e; line = refl }) (result_is r x (subst (λ h. Assembles meaning settled keys m h x) is made))

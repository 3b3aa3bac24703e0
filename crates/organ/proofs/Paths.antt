-- How a key reaches a pipe of an assembled organ. Assumes nothing.
use Rattle.std.proofs.Common.{◌≡◌, ℕ, suc, ◌<◌, Bool, true, false, cond, ◌&&◌, ◌||◌, List, [], ◌∷◌, ◌++◌, length, take, drop, get_or, pos, Decides, Ok, Err, Result, IfOk, sym, refl, ap, ◌∙◌, subst, arith}
use Rattle.std.specs.List.{HoldsAt}
use Rattle.std.proofs.Math.Seq.{drop-cons}
use Rattle.std.proofs.lemmas.List.{take-append-drop, get_or_default}
use Rattle.std.proofs.lemmas.Bool.Decides.{Decides-and, Decides-by_or}
use Rattle.chest.specs.Places.{Places}
use Rattle.chest.specs.Meaning.{Meaning, Panel}
use Rattle.fittings.specs.declared.Wire.{Wire}
use Rattle.book.specs.declared.board.Board.{Board}
use Rattle.book.specs.declared.board.Board.TheVariants.{Coupler, Stop}
use Rattle.book.specs.declared.book.BookWire.{BookWire}
use Rattle.book.specs.Book.{same_board, on_board}
use Rattle.wires.specs.declared.lead.Lead.{Lead}
use Rattle.coupling.specs.Layout.{Reaches}
use Rattle.wires.specs.Wires.{image, some_wire}
use Rattle.wires.specs.Laws.{Reached}
use Rattle.wires.specs.Fitting.{lead_of}
use Rattle.wires.specs.Offered.{Shiftable}
use Rattle.wires.proofs.Shown.{image-law}
use Rattle.wires.proofs.Offered.{leads-from, leads-reached}
use Rattle.wires.proofs.FirstFault.{fitting-law}
use Rattle.organ.specs.declared.refusal.Refusal.{Refusal}
use Rattle.organ.specs.Assembly.{Hung, board_answer, stop_wired, coupler_wired, stop_meaning, Assembles}
use Rattle.organ.specs.Fitter.{just_its_own, each_its_own, AllTaken, FittedInOrder}
use Rattle.organ.specs.NewStack.{NewStack}
use Rattle.organ.specs.Paths.{WireLeads, SomeLeads, Path, PathLaw, SpeaksByPaths}
use Rattle.organ.specs.Stack.{Stack, stacked, StackSettled}
use Rattle.organ.specs.Opening.{new_ranks}

any_wire : BookWire
any_wire =
    record { line = 0; board = Coupler; wire = record { from = 0; lowest = 0; highest = 0; to = 0; shift = pos 0; knob = 0; position = 0 } }

-- a wire that its board takes has a shift that it keeps
module _ (keys : Reaches) (m : Meaning) where
  shift_of_taken : (b : Board) (h : Hung) (w : Wire) → board_answer keys m b h w ≡ Ok tt → Shiftable w
  shift_of_taken Coupler h w e =
      let fits = (fitting-law.taken (coupler_wired keys m h.couplers) (stop_meaning keys m h.stops) w).0 e in
      record { least = fits.1.0.0.1; most = fits.1.0.0.2 }
  shift_of_taken Stop h w e =
      let fits = (fitting-law.taken (stop_wired keys m h.stops) m w).0 e in
      record { least = fits.1.0.0.1; most = fits.1.0.0.2 }

  shifts : (ws : List BookWire) → AllTaken keys m ws → (i : ℕ) (d : BookWire) → i < length ws → Shiftable (get_or ws i d).wire
  shifts ws taken i d low =
      let cut : ws ≡ take i ws ++ get_or ws i d ∷ drop (suc i) ws = sym (take-append-drop i ws) ∙ ap (λ xs. take i ws ++ xs) (drop-cons ws i d low) in
      shift_of_taken (get_or ws i d).board (each_its_own (take i ws)) (get_or ws i d).wire (taken (take i ws) (get_or ws i d) (drop (suc i) ws) cut)

module _ (reach : Reaches) (panel : Panel) (s : Places) (row place : ℕ) where
  -- a wire for a board, as it is kept there, leads to a place
  abbrev LeadsKept : Board → BookWire → Type 0
  LeadsKept b w = (w.board ≡ b) × Reached reach panel s row place (lead_of w.wire)

  of_board : (b : Board) (w : BookWire) → Decides (on_board b w) (w.board ≡ b)
  of_board b w = by b w.board where
    by : (b c : Board) → Decides (same_board b c) (c ≡ b)
    by Coupler Coupler = (λ e. refl, λ e. refl)
    by Coupler Stop = (λ e. cc, λ e. cc)
    by Stop Coupler = (λ e. cc, λ e. cc)
    by Stop Stop = (λ e. refl, λ e. refl)

  alone : (lead : Lead) → Decides (image reach (lead ∷ []) panel s row place) (Reached reach panel s row place lead)
  alone lead =
      (λ e. first ((image-law.exact reach (lead ∷ []) panel s row place).0 e), λ p. (image-law.exact reach (lead ∷ []) panel s row place).1 (0, omega arith, λ d. p))
    where
      first : ((i : ℕ) × (i < length (lead ∷ [])) × HoldsAt (Reached reach panel s row place) (lead ∷ []) i) → Reached reach panel s row place lead
      first there = subst (λ i. Reached reach panel s row place (get_or (lead ∷ []) i lead)) (let z : there.0 ≡ 0 = omega (arith, there.1) in z) (there.2 lead)

  no_wires : image reach [] panel s row place ≡ false
  unfolding image some_wire
  no_wires = refl

  -- a place is in the image of a board's own wires exactly if one of them leads there
  own_image : (b : Board) (ws : List BookWire) → Decides (image reach (just_its_own b ws) panel s row place) ((i : ℕ) × (i < length ws) × HoldsAt (LeadsKept b) ws i)
  own_image b ws =
      Decides-by_or (λ w. on_board b w && image reach (lead_of w.wire ∷ []) panel s row place) (LeadsKept b) (λ xs. image reach (just_its_own b xs) panel s row place) (λ w. Decides-and _ _ (of_board b w) (alone (lead_of w.wire))) no_wires (λ w xs. more w xs) ws
    where
      more : (w : BookWire) (xs : List BookWire) → image reach (just_its_own b (w ∷ xs)) panel s row place ≡ ((on_board b w && image reach (lead_of w.wire ∷ []) panel s row place) || image reach (just_its_own b xs) panel s row place)
      more w xs = by (on_board b w) where
        by : (t : Bool) → image reach (cond t (lead_of w.wire ∷ just_its_own b xs) (just_its_own b xs)) panel s row place ≡ ((t && image reach (lead_of w.wire ∷ []) panel s row place) || image reach (just_its_own b xs) panel s row place)
        by true = ap (λ (f : Places). f row place) (image-law.wires reach (lead_of w.wire ∷ []) (just_its_own b xs) panel s)
        by false = refl

module _ (keys : Reaches) (m : Meaning) (ws : List BookWire) (taken : AllTaken keys m ws) (panel : Panel) where
  module _ (reach : Reaches) (s : Places) (row place : ℕ) where
    -- so a place is in that image exactly if some wire of the book for that board leads there, as the book writes it
    written : (b : Board) → ((i : ℕ) × (i < length ws) × HoldsAt (LeadsKept reach panel s row place b) ws i) → (key_row key : ℕ) × (s key_row key ≡ true) × SomeLeads panel b key_row key row place ws × (place < reach row)
    written b (i, low, holds) =
        let w = get_or ws i any_wire in
        let kept = holds any_wire in
        let leads = leads-from reach panel s row place w.wire (shifts keys m ws taken i any_wire low) kept.1 in
        let one : WireLeads panel b w.wire.from leads.key row place w = record { on = kept.0; live = leads.live; from = refl; low = leads.low; high = leads.high; to_row = leads.row; shifted = leads.shifted } in
        (w.wire.from, leads.key, leads.held, (i, low, λ d. subst (WireLeads panel b w.wire.from leads.key row place) (get_or_default ws i any_wire d low) one), leads.below)

    kept : (b : Board) (key_row key : ℕ) → s key_row key ≡ true → SomeLeads panel b key_row key row place ws → place < reach row → (i : ℕ) × (i < length ws) × HoldsAt (LeadsKept reach panel s row place b) ws i
    kept b key_row key held (i, low, holds) below = (
      i,
      low,
      λ d.
          let leads = holds d in
          let w = get_or ws i d in
          let there : s w.wire.from key ≡ true = ap (λ r. s r key) leads.from ∙ held in
          (leads.on, leads-reached reach panel s row place w.wire (shifts keys m ws taken i d low) (record { key = key; live = leads.live; row = leads.to_row; held = there; low = leads.low; high = leads.high; shifted = leads.shifted; below = below })),
    )

  -- the pipes to which the couplers and then the stops lead
  module _ (sounding : Places) (rank pipe : ℕ) where
    abbrev led_keys : Places
    led_keys = image keys (just_its_own Coupler ws) panel sounding

    reached_pipe : image m.reach (just_its_own Stop ws) panel led_keys rank pipe ≡ true → Path keys m.reach ws panel sounding rank pipe
    reached_pipe e =
        let stop = written m.reach led_keys rank pipe Stop ((own_image m.reach panel led_keys rank pipe Stop ws).0 e) in
        let coupler = written keys sounding stop.0 stop.1 Coupler ((own_image keys panel sounding stop.0 stop.1 Coupler ws).0 stop.2) in
        record { division = coupler.0; key = coupler.1; sounds = coupler.2; to_division = stop.0; to_key = stop.1; coupler = coupler.3; there = coupler.4; stop = stop.3; has = stop.4 }

    pipe_reached : Path keys m.reach ws panel sounding rank pipe → image m.reach (just_its_own Stop ws) panel led_keys rank pipe ≡ true
    pipe_reached p =
        let set : led_keys p.to_division p.to_key ≡ true = (own_image keys panel sounding p.to_division p.to_key Coupler ws).1 (kept keys sounding p.to_division p.to_key Coupler p.division p.key p.sounds p.coupler p.there) in
        (own_image m.reach panel led_keys rank pipe Stop ws).1 (kept m.reach led_keys rank pipe Stop p.to_division p.to_key set p.stop p.has)

pub paths_of : {C : Type 0} (keys : Reaches) (m : Meaning) (meaning : C → Meaning) (ws : List BookWire) (x : Result (Stack C) Refusal) → FittedInOrder keys m meaning ws x → IfOk x (λ stack. PathLaw keys m ws (stacked meaning stack).rule)
paths_of keys m meaning ws (Err r) law = tt
paths_of keys m meaning ws (Ok stack) law =
    subst (λ (x : Meaning). PathLaw keys m ws x.rule) (sym law.taken.1) (λ panel sounding. (image m.reach (just_its_own Stop ws) panel (image keys (just_its_own Coupler ws) panel sounding), refl, λ rank pipe. both panel sounding rank pipe))
  where
    both : (panel : Panel) (sounding : Places) (rank pipe : ℕ) → Decides (image m.reach (just_its_own Stop ws) panel (image keys (just_its_own Coupler ws) panel sounding) rank pipe) (Path keys m.reach ws panel sounding rank pipe)
    both panel sounding rank pipe =
        (reached_pipe keys m ws law.taken.0 panel sounding rank pipe, pipe_reached keys m ws law.taken.0 panel sounding rank pipe)

-- a stack that was assembled is settled
pub settled_stack : {C : Type 0} (meaning : C → Meaning) (settled : C → Type 0) (keys : Reaches) (m : Meaning) (h : Result Hung Refusal) (stack : Stack C) → Assembles meaning settled keys m h (Ok stack) → StackSettled meaning settled stack
settled_stack meaning settled keys m (Ok h) stack made = made.0
settled_stack meaning settled keys m (Err e) stack made = absurd made

-- over new ranks, which let speak just what is set
pub speaks_by_paths : {A : Type 0} (keys ranks : Reaches) (ws : List BookWire) (rule : A → Panel → Places → Places) (x : Result A Refusal) → IfOk x (λ a. PathLaw keys (new_ranks ranks) ws (rule a)) → IfOk x (λ a. SpeaksByPaths keys ranks ws (rule a))
speaks_by_paths keys ranks ws rule (Err e) law = tt
speaks_by_paths keys ranks ws rule (Ok a) law = λ panel sounding rank pipe.
    let found = law panel sounding in
    subst (λ (f : Places). Decides (f rank pipe) (Path keys ranks ws panel sounding rank pipe)) (sym found.1) (found.2 rank pipe)

-- what the stack means besides its rule
pub new_stack : {C : Type 0} (keys : Reaches) (m : Meaning) (meaning : C → Meaning) (ws : List BookWire) (x : Result (Stack C) Refusal) → FittedInOrder keys m meaning ws x → IfOk x (λ stack. NewStack keys m (stacked meaning stack))
new_stack keys m meaning ws (Err r) law = tt
new_stack keys m meaning ws (Ok stack) law =
    subst (NewStack keys m) (sym law.taken.1) (record { reach = λ d. refl; register = λ d k. refl; panel = refl; speaking = refl; strobes = refl })

-- Two boards over a chest: what their runs of wires come to, and what the stack means. Assumes nothing.
use Rattle.std.proofs.Common.{◌≡◌, ℕ, ◌+◌, Bool, true, false, cond, ltb, List, [], ◌∷◌, Ok, Err, Result, sym, refl, ap, ◌∙◌, subst, MatchResult}
use Rattle.chest.specs.Places.{none}
use Rattle.chest.specs.Meaning.{Meaning, with_register}
use Rattle.book.specs.declared.board.Board.{Board}
use Rattle.book.specs.declared.board.Board.TheVariants.{Coupler, Stop}
use Rattle.book.specs.declared.book.BookWire.{BookWire}
use Rattle.board.specs.Relay.{RelayBoard, wired_of, meaning_of, Settled}
use Rattle.wires.specs.declared.fault.BoardFault.{BoardFault}
use Rattle.wires.specs.declared.lead.Lead.{Lead}
use Rattle.chest.specs.Reaches.{reach_of}
use Rattle.coupling.specs.Layout.{Reaches}
use Rattle.wires.specs.Wired.{Wired, with_wire, wired_meaning, bare_wired}
use Rattle.wires.specs.Fitting.{fit_answer, lead_of}
use Rattle.organ.specs.declared.refusal.Refusal.{Refusal}
use Rattle.book.specs.Book.{same_board}
use Rattle.organ.specs.declared.assembly.FirstRefused.{FirstRefused}
use Rattle.organ.specs.Assembly.{Hung, bare, hang_all, stop_wired, stop_meaning, coupler_wired, stack_meaning, Assembles}
use Rattle.organ.specs.Pass.{unless_first_refused, fit_run, earlier_of}
use Rattle.organ.proofs.Passes.{both, passes}
use Rattle.organ.proofs.Runs.{run_reach}
use Rattle.organ.specs.Stack.{Stack, StackSettled}

abbrev with_wires : Wired → List Lead → Wired
with_wires l ws = record { reach = l.reach; below = l.below; wires = ws; panel = l.panel; register = l.register }

-- a run changes nothing of a board but its wires
abbrev Keeps : Wired → Result Wired FirstRefused → Type 0
Keeps l (Ok l') = l' ≡ with_wires l l'.wires
Keeps l (Err e) = Unit {0}

keeps_one : (l : Wired) (w : Lead) (r : Result Wired FirstRefused) → Keeps (with_wire l w) r → Keeps l r
keeps_one l w (Ok l') k = k
keeps_one l w (Err e) k = tt

keeps_either : (l : Wired) (b : Bool) (a : Result Unit BoardFault) (n line : ℕ) (x y : Result Wired FirstRefused) → Keeps l x → Keeps l y → Keeps l (cond b (unless_first_refused a n line x) y)
keeps_either l true (Ok u) n line x y k j = k
keeps_either l true (Err e) n line x y k j = tt
keeps_either l false a n line x y k j = j

keeps_run : (on : Board) (m : Meaning) (l : Wired) (n : ℕ) (ws : List BookWire) → Keeps l (fit_run on m l n ws)
keeps_run on m l n [] = refl
keeps_run on m l n (w ∷ ws) =
    let lead = lead_of w.wire in
    keeps_either l (same_board on w.board) (fit_answer l m w.wire) n w.line (fit_run on m (with_wire l lead) (n + 1) ws) (fit_run on m l (n + 1) ws) (keeps_one l lead (fit_run on m (with_wire l lead) (n + 1) ws) (keeps_run on m (with_wire l lead) (n + 1) ws)) (keeps_run on m l (n + 1) ws)

-- a run that ends well
run_wires : (on : Board) (m : Meaning) (l l' : Wired) (ws : List BookWire) → fit_run on m l 0 ws ≡ Ok l' → l' ≡ with_wires l l'.wires
run_wires on m l l' ws e = subst (Keeps l) e (keeps_run on m l 0 ws)

module _ (keys : Reaches) (m : Meaning) (ws : List BookWire) where
  -- a new stop board over the cleared chest, and its run
  pub stop_new : (reaches : List ℕ) (below : Meaning) (l : Wired) → reach_of reaches ≡ keys → below ≡ with_register m none → l ≡ bare_wired reaches below → l ≡ stop_wired keys m []
  stop_new reaches below l k b is =
      is ∙ (λ i. record { reach = k i; below = (b i).reach; wires = []; panel = (b i).panel; register = none })

  pub stop_run : (below : Meaning) (l : Wired) (x : Result Wired FirstRefused) → below ≡ with_register m none → l ≡ stop_wired keys m [] → fit_run Stop below l 0 ws ≡ x → fit_run Stop m (stop_wired keys m []) 0 ws ≡ x
  stop_run below l x b is run =
      run_reach Stop m below (sym (ap (λ y. y.reach) b)) (stop_wired keys m []) 0 ws ∙ ap (λ y. fit_run Stop below y 0 ws) (sym is) ∙ run

  -- the same of the coupler board over the stop board
  pub coupler_new : (reaches : List ℕ) (below : Meaning) (l : Wired) → reach_of reaches ≡ keys → below.reach ≡ keys → below.panel ≡ m.panel → l ≡ bare_wired reaches below → l ≡ coupler_wired keys m []
  coupler_new reaches below l k r p is =
      is ∙ (λ i. record { reach = k i; below = r i; wires = []; panel = p i; register = none })

  pub coupler_run : (below : Meaning) (l : Wired) (x : Result Wired FirstRefused) → below.reach ≡ keys → l ≡ coupler_wired keys m [] → fit_run Coupler below l 0 ws ≡ x → fit_run Coupler (stop_meaning keys m []) (coupler_wired keys m []) 0 ws ≡ x
  coupler_run below l x r is run =
      run_reach Coupler (stop_meaning keys m []) below (sym r) (coupler_wired keys m []) 0 ws ∙ ap (λ y. fit_run Coupler below y 0 ws) (sym is) ∙ run

  -- what both runs come to
  pub hung : (x y : Result Wired FirstRefused) → fit_run Coupler (stop_meaning keys m []) (coupler_wired keys m []) 0 ws ≡ x → fit_run Stop m (stop_wired keys m []) 0 ws ≡ y → hang_all keys m ws ≡ both x y
  hung x y c s = sym (passes keys m bare 0 ws) ∙ λ i. both (c i) (s i)

  -- and what the stack then means
  pub stack_means : (couplers stops : Wired) (foot below : Meaning) → fit_run Coupler (stop_meaning keys m []) (coupler_wired keys m []) 0 ws ≡ Ok couplers → fit_run Stop m (stop_wired keys m []) 0 ws ≡ Ok stops → foot ≡ with_register m none → below ≡ with_register (wired_meaning stops foot) none → wired_meaning couplers below ≡ stack_meaning keys m (record { couplers = couplers.wires; stops = stops.wires })
  stack_means couplers stops foot below c s f b =
      let lc = run_wires Coupler (stop_meaning keys m []) (coupler_wired keys m []) couplers ws c in
      let ls = run_wires Stop m (stop_wired keys m []) stops ws s in
      (λ i. wired_meaning (lc i) (b i)) ∙ (λ i. wired_meaning (coupler_wired keys m couplers.wires) (with_register (wired_meaning (ls i) (f i)) none))

-- both boards took their wires and the stack is settled, or just the first refusal
module _ {C : Type 0} (meaning : C → Meaning) (settled : C → Type 0) where
  abbrev pub Hangs : Reaches → Meaning → Result Hung Refusal → Stack C → Result Unit Refusal → Type 0
  Hangs keys m h s (Ok x) = Assembles meaning settled keys m h (Ok s)
  Hangs keys m h s (Err e) = Assembles meaning settled keys m h (Err e)

-- the runs of the boards that assembling makes and fits, from what each of its calls promises
pub record Runs {C : Type 0} (meaning : C → Meaning) (settled : C → Type 0) (keys : Reaches) (m : Meaning) (ws : List BookWire) (s0 s1 : RelayBoard C) (c0 c1 : Stack C) : Type 0 where
  pub stop : (y : Result Wired FirstRefused) → fit_run Stop (meaning s0.below) (wired_of s0.coupling) 0 ws ≡ y → fit_run Stop m (stop_wired keys m []) 0 ws ≡ y
  pub coupler : (x : Result Wired FirstRefused) → fit_run Coupler (meaning_of meaning c0.below) (wired_of c0.coupling) 0 ws ≡ x → fit_run Coupler (stop_meaning keys m []) (coupler_wired keys m []) 0 ws ≡ x
  pub foot : meaning s1.below ≡ with_register m none
  pub low : meaning_of meaning c1.below ≡ with_register (meaning_of meaning s1) none
  pub steady : StackSettled meaning settled c1

module _ {C : Type 0} {meaning : C → Meaning} {settled : C → Type 0} (keys : Reaches) (m : Meaning) (ws : List BookWire) (reaches : List ℕ) (s0 s1 : RelayBoard C) (c0 c1 : Stack C) where
  pub runs : reach_of reaches ≡ keys → wired_of s0.coupling ≡ bare_wired reaches (meaning s0.below) → meaning s0.below ≡ with_register m none → Settled meaning settled s0 → (wired_of s1.coupling).reach ≡ (wired_of s0.coupling).reach → s1.below ≡ s0.below → (Settled meaning settled s0 → Settled meaning settled s1) → wired_of c0.coupling ≡ bare_wired reaches (meaning_of meaning c0.below) → (Settled meaning settled s1 → Settled meaning settled c0.below × (meaning_of meaning c0.below ≡ with_register (meaning_of meaning s1) none)) → (Settled meaning settled s1 → StackSettled meaning settled c0) → c1.below ≡ c0.below → (StackSettled meaning settled c0 → StackSettled meaning settled c1) → Runs meaning settled keys m ws s0 s1 c0 c1
  runs k items cleared steady reach below steady1 items2 cleared2 steady2 below2 steady3 =
      let lay = stop_new keys m ws reaches (meaning s0.below) (wired_of s0.coupling) k cleared items in
      let s1-steady = steady1 steady in
      let low = (cleared2 s1-steady).1 in
      let keyed : (meaning_of meaning c0.below).reach ≡ keys = ap (λ x. x.reach) low ∙ reach ∙ ap (λ x. x.reach) lay in
      let foot : meaning s1.below ≡ with_register m none = ap (λ b. meaning b) below ∙ cleared in
      let panel : (meaning_of meaning c0.below).panel ≡ m.panel = ap (λ x. x.panel) low ∙ ap (λ x. x.panel) foot in
      record {
        stop = λ y. stop_run keys m ws (meaning s0.below) (wired_of s0.coupling) y cleared lay;
        coupler = λ x. coupler_run keys m ws (meaning_of meaning c0.below) (wired_of c0.coupling) x keyed (coupler_new keys m ws reaches (meaning_of meaning c0.below) (wired_of c0.coupling) k keyed panel items2);
        foot = foot;
        low = ap (λ b. meaning_of meaning b) below2 ∙ low;
        steady = steady3 (steady2 s1-steady);
      }

  -- what assembling comes to
  pub hangs : Runs meaning settled keys m ws s0 s1 c0 c1 → (x y : Result Unit FirstRefused) → MatchResult x (λ u. fit_run Coupler (meaning_of meaning c0.below) (wired_of c0.coupling) 0 ws ≡ Ok (wired_of c1.coupling)) (λ e. fit_run Coupler (meaning_of meaning c0.below) (wired_of c0.coupling) 0 ws ≡ Err e) → MatchResult y (λ u. fit_run Stop (meaning s0.below) (wired_of s0.coupling) 0 ws ≡ Ok (wired_of s1.coupling)) (λ e. fit_run Stop (meaning s0.below) (wired_of s0.coupling) 0 ws ≡ Err e) → Hangs meaning settled keys m (hang_all keys m ws) c1 (earlier_of x y)
  hangs f (Ok u) (Ok v) c s =
      let cr = f.coupler _ c in
      let sr = f.stop _ s in
      subst (λ h. Hangs meaning settled keys m h c1 (Ok tt)) (sym (hung keys m ws _ _ cr sr)) (f.steady, stack_means keys m ws (wired_of c1.coupling) (wired_of s1.coupling) (meaning s1.below) (meaning_of meaning c1.below) cr sr f.foot f.low, run_wires Coupler (stop_meaning keys m []) (coupler_wired keys m []) (wired_of c1.coupling) ws cr)
  hangs f (Ok u) (Err b) c s =
      subst (λ h. Hangs meaning settled keys m h c1 (Err b.refusal)) (sym (hung keys m ws _ _ (f.coupler _ c) (f.stop _ s))) refl
  hangs f (Err a) (Ok v) c s =
      subst (λ h. Hangs meaning settled keys m h c1 (Err a.refusal)) (sym (hung keys m ws _ _ (f.coupler _ c) (f.stop _ s))) refl
  hangs f (Err a) (Err b) c s =
      subst (λ h. Hangs meaning settled keys m h c1 (cond (ltb a.number b.number) (Err a.refusal) (Err b.refusal))) (sym (hung keys m ws _ _ (f.coupler _ c) (f.stop _ s))) (same (ltb a.number b.number))
    where
      same : (t : Bool) → Hangs meaning settled keys m (cond t (Err a.refusal) (Err b.refusal)) c1 (cond t (Err a.refusal) (Err b.refusal))
      same true = refl
      same false = refl

-- the same for equal keys and wires
pub assembles_as : {C : Type 0} (meaning : C → Meaning) (settled : C → Type 0) (m : Meaning) (keys keys' : Reaches) (ws ws' : List BookWire) (r : Result (Stack C) Refusal) → keys ≡ keys' → ws ≡ ws' → Assembles meaning settled keys m (hang_all keys m ws) r → Assembles meaning settled keys' m (hang_all keys' m ws') r
assembles_as meaning settled m keys keys' ws ws' r k w h =
    subst (λ x. Assembles meaning settled keys' m (hang_all keys' m x) r) w
    (subst (λ x. Assembles meaning settled x m (hang_all x m ws) r) k h)

-- What messages ask for lies in its bounds, and each such call is asked for by one. Assumes nothing.
use Rattle.std.proofs.Common.{◌≡◌, ℕ, ◌+◌, ◌-◌, ◌<◌, ◌≤◌, Bool, true, false, cond, ltb, leb, eqb, inl, inr, ⊎_elim, refl, sym, ap, ◌∙◌, subst, arith}
use Rattle.std.proofs.lemmas.Bool.{eqb-true}
use Rattle.std.proofs.lemmas.Bool.Decides.{nat_tests}
use Rattle.std.proofs.lemmas.Fmt.{decimal_digit}
use Rattle.std.specs.Prelude.{◌++◌, codes}
use Rattle.organ.specs.Line.{line_end}
use Rattle.midi.specs.declared.message.Message.{Message}
use Rattle.midi.specs.declared.message.Message.TheVariants.{NoteOff, NoteOn, KeyPressure, Controller, Program, ChannelPressure, Bend}
use Rattle.midi.specs.Reading.{InRange}
use Rattle.console.specs.declared.call.Call.{Call}
use Rattle.console.specs.declared.call.Call.TheVariants.{Press, Lift, Sustain, Clear, Turn, Capture, Recall, Cancel}
use Rattle.organ.specs.declared.action.Action.{Action}
use Rattle.organ.specs.declared.action.Action.TheVariants.{Nothing, Perform, LowNote}
use Rattle.organ.specs.Action.{action_of, key_action, note_setting, note_action, controller_action}
use Rattle.organ.specs.Asking.{Askable, asker, AskedBy, TooLow, Asks, AskingLaw}

-- what is asked for, if it is a call, can be asked for
abbrev Fine : Action → Type 0
Fine Nothing = Unit {0}
Fine (Perform call) = Askable call
Fine (LowNote division note) = Unit {0}

either : (b : Bool) (x y : Action) → (b ≡ true → Fine x) → (b ≡ false → Fine y) → Fine (cond b x y)
either true x y f g = f refl
either false x y f g = g refl

division : (c : ℕ) → c < 16 → eqb c 15 ≡ false → c < 15
division c h e = grind (arith, nat_tests, e)

fine_key : (c k v : ℕ) → c < 15 → k < 128 → Fine (key_action c k v)
fine_key c k v h low =
    either (ltb k 36) (LowNote c k) (cond (ltb 0 v) (Perform (Press c (k - 36))) (Perform (Lift c (k - 36)))) (λ e. tt) (λ e. either (ltb 0 v) (Perform (Press c (k - 36))) (Perform (Lift c (k - 36))) (λ f. (h, omega (arith, low))) (λ f. (h, omega (arith, low))))

fine_setting : (k v : ℕ) → k < 128 → Fine (note_setting k v)
fine_setting k v low =
    either (eqb v 0) Nothing (cond (eqb k 127) (Perform Cancel) (Perform (Capture k))) (λ e. tt) (λ e. either (eqb k 127) (Perform Cancel) (Perform (Capture k)) (λ f. tt) (λ f. grind (arith, nat_tests, f, low)))

fine_note : (c k v : ℕ) → c < 16 → k < 128 → Fine (note_action c k v)
fine_note c k v h low =
    either (eqb c 15) (note_setting k v) (key_action c k v) (λ e. fine_setting k v low) (λ e. fine_key c k v (division c h e) low)

fine_controller : (c n v : ℕ) → c < 16 → v < 128 → Fine (controller_action c n v)
fine_controller c n v h low =
    let set : Action = cond (ltb n 64) (Perform (Turn n v)) Nothing in
    let clear : Action = cond (eqb n 123) (Perform (Clear c)) Nothing in
    let own : Action = cond (eqb n 64) (Perform (Sustain c (ltb 63 v))) clear in
    either (eqb c 15) set (cond (eqb n 64) (Perform (Sustain c _)) clear) (λ e. either (ltb n 64) (Perform (Turn n v)) Nothing (λ f. (grind (arith, nat_tests, f), low)) (λ f. tt)) (λ e. either (eqb n 64) (Perform (Sustain c _)) clear (λ f. division c h e) (λ f. either (eqb n 123) (Perform (Clear c)) Nothing (λ g. division c h e) (λ g. tt)))

fine : (m : Message) → InRange m → Fine (action_of m)
fine (NoteOff c k v) r = fine_note c k 0 r.0 r.1
fine (NoteOn c k v) r = fine_note c k v r.0 r.1
fine (KeyPressure c k p) r = tt
fine (Controller c n v) r = fine_controller c n v r.0 r.2
fine (Program c p) r = either (eqb c 15) (Perform (Recall p)) Nothing (λ e. r.1) (λ e. tt)
fine (ChannelPressure c p) r = tt
fine (Bend c v) r = tt

-- a division is not the channel of knobs and pistons
plain : (d : ℕ) → d < 15 → eqb d 15 ≡ false
plain d h = grind (arith, nat_tests, h)

on_division : (d : ℕ) (x y : Action) → d < 15 → cond (eqb d 15) x y ≡ y
on_division d x y h = ap (λ b. cond b x y) (plain d h)

-- the note of a key
note_of : (d k : ℕ) (f : ℕ → Action) → cond (ltb (k + 36) 36) (LowNote d (k + 36)) (f (k + 36 - 36)) ≡ f k
note_of d k f =
    ap (λ b. cond b (LowNote d (k + 36)) (f (k + 36 - 36))) (let e : ltb (k + 36) 36 ≡ false = grind (arith, nat_tests) in e) ∙ ap f (let e : k + 36 - 36 ≡ k = omega arith in e)

asked : (call : Call) → Askable call → InRange (asker call) × Asks (asker call) call
asked (Press d k) a =
    ((omega (arith, a.0), omega (arith, a.1), omega arith), on_division d (note_setting (k + 36) 64) (key_action d (k + 36) 64) a.0 ∙ note_of d k (λ n. Perform (Press d n)))
asked (Lift d k) a =
    ((omega (arith, a.0), omega (arith, a.1), omega arith), on_division d (note_setting (k + 36) 0) (key_action d (k + 36) 0) a.0 ∙ note_of d k (λ n. Perform (Lift d n)))
asked (Sustain d true) a =
    ((omega (arith, a), omega arith, omega arith), on_division d Nothing (Perform (Sustain d true)) a)
asked (Sustain d false) a =
    ((omega (arith, a), omega arith, omega arith), on_division d Nothing (Perform (Sustain d false)) a)
asked (Clear d) a =
    ((omega (arith, a), omega arith, omega arith), on_division d Nothing (Perform (Clear d)) a)
asked (Turn k q) a =
    ((omega arith, omega (arith, a.0), a.1), ap (λ b. cond b (Perform (Turn k q)) Nothing) (let e : ltb k 64 ≡ true = grind (arith, nat_tests, a) in e))
asked (Capture p) a =
    ((omega arith, omega (arith, a), omega arith), ap (λ b. cond b (Perform Cancel) (Perform (Capture p))) (let e : eqb p 127 ≡ false = grind (arith, nat_tests, a) in e))
asked (Recall p) a = ((omega arith, a), refl)
asked Cancel a = ((omega arith, omega arith, omega arith), refl)

-- a note below that of key 0
too_low : (d n v : ℕ) → d < 15 → n < 36 → note_action d n v ≡ LowNote d n
too_low d n v h low =
    on_division d (note_setting n v) (key_action d n v) h
    ∙ ap (λ b. cond b (LowNote d n) (cond (ltb 0 v) (Perform (Press d (n - 36))) (Perform (Lift d (n - 36))))) (let e : ltb n 36 ≡ true = grind (arith, nat_tests, low) in e)

-- what a message asks for, it is one of those that ask for it
abbrev Told : Message → Action → Type 0
Told m Nothing = Unit {0}
Told m (Perform call) = AskedBy call m
Told m (LowNote division note) = TooLow division note m

told-either : (m : Message) (b : Bool) (x y : Action) → (b ≡ true → Told m x) → (b ≡ false → Told m y) → Told m (cond b x y)
told-either m true x y f g = f refl
told-either m false x y f g = g refl

a_division : (c : ℕ) → c < 16 → eqb c 15 ≡ false → c ≤ 14
a_division c h e = grind (arith, nat_tests, e)

above : (n : ℕ) → ltb n 36 ≡ false → n ≡ n - 36 + 36
above n e = let h : 36 ≤ n = grind (arith, nat_tests, e) in omega arith

sounds : (v : ℕ) → ltb 0 v ≡ true → 1 ≤ v
sounds v e = grind (arith, nat_tests, e)

silent : (v : ℕ) → ltb 0 v ≡ false → v ≡ 0
silent v e = grind (arith, nat_tests, e)

told_on : (c n v : ℕ) → c < 16 → Told (NoteOn c n v) (note_action c n v)
told_on c n v h =
    told-either m (eqb c 15) (note_setting n v) (key_action c n v) (λ e. setting (eqb-true c 15 e)) (λ e. key (a_division c h e))
  where
    m : Message
    m = NoteOn c n v

    setting : c ≡ 15 → Told m (note_setting n v)
    setting e =
        told-either m (eqb v 0) Nothing (cond (eqb n 127) (Perform Cancel) (Perform (Capture n))) (λ f. tt) (λ f.
        let on : 1 ≤ v = grind (arith, nat_tests, f) in
        told-either m (eqb n 127) (Perform Cancel) (Perform (Capture n)) (λ g. (v, on, (λ i. NoteOn (e i) (eqb-true n 127 g i) v))) (λ g. (λ u. grind (arith, nat_tests, g, u), v, on, (λ i. NoteOn (e i) n v))))

    key : c ≤ 14 → Told m (key_action c n v)
    key low =
        told-either m (ltb n 36) (LowNote c n) (cond (ltb 0 v) (Perform (Press c (n - 36))) (Perform (Lift c (n - 36)))) (λ e. (low, grind (arith, nat_tests, e), v, inl refl)) (λ e.
        told-either m (ltb 0 v) (Perform (Press c (n - 36))) (Perform (Lift c (n - 36))) (λ f. (low, v, sounds v f, ap (λ x. NoteOn c x v) (above n e))) (λ f. (low, inl (λ i. NoteOn c (above n e i) (silent v f i)))))

told_off : (c n v : ℕ) → c < 16 → Told (NoteOff c n v) (note_action c n 0)
told_off c n v h =
    told-either m (eqb c 15) Nothing (key_action c n 0) (λ e. tt) (λ e. key (a_division c h e))
  where
    m : Message
    m = NoteOff c n v

    key : c ≤ 14 → Told m (key_action c n 0)
    key low =
        told-either m (ltb n 36) (LowNote c n) (Perform (Lift c (n - 36))) (λ e. (low, grind (arith, nat_tests, e), v, inr refl)) (λ e. (low, inr (v, ap (λ x. NoteOff c x v) (above n e))))

told_controller : (c n v : ℕ) → c < 16 → Told (Controller c n v) (controller_action c n v)
told_controller c n v h =
    told-either m (eqb c 15) (cond (ltb n 64) (Perform (Turn n v)) Nothing) own (λ e. told-either m (ltb n 64) (Perform (Turn n v)) Nothing (λ f. (grind (arith, nat_tests, f), (λ i. Controller (eqb-true c 15 e i) n v))) (λ f. tt)) (λ e. of_division (a_division c h e))
  where
    m : Message
    m = Controller c n v

    cleared : Action
    cleared = cond (eqb n 123) (Perform (Clear c)) Nothing

    own : Action
    own = cond (eqb n 64) (Perform (Sustain c (leb 64 v))) cleared

    sustain : n ≡ 64 → c ≤ 14 → (b : Bool) → leb 64 v ≡ b → AskedBy (Sustain c b) m
    sustain e low true f = (low, v, grind (arith, nat_tests, f), (λ i. Controller c (e i) v))
    sustain e low false f = (low, v, grind (arith, nat_tests, f), (λ i. Controller c (e i) v))

    of_division : c ≤ 14 → Told m own
    of_division low =
        told-either m (eqb n 64) (Perform (Sustain c (leb 64 v))) cleared (λ e. sustain (eqb-true n 64 e) low (leb 64 v) refl) (λ e. told-either m (eqb n 123) (Perform (Clear c)) Nothing (λ f. (low, v, (λ i. Controller c (eqb-true n 123 f i) v))) (λ f. tt))

told : (m : Message) → InRange m → Told m (action_of m)
told (NoteOff c k v) r = told_off c k v r.0
told (NoteOn c k v) r = told_on c k v r.0
told (KeyPressure c k p) r = tt
told (Controller c n v) r = told_controller c n v r.0
told (Program c p) r =
    told-either (Program c p) (eqb c 15) (Perform (Recall p)) Nothing (λ e. (λ i. Program (eqb-true c 15 e i) p)) (λ e. tt)
told (ChannelPressure c p) r = tt
told (Bend c v) r = tt

-- and each of those asks for it
key_asks : (d k v : ℕ) → d ≤ 14 → note_action d (k + 36) v ≡ cond (ltb 0 v) (Perform (Press d k)) (Perform (Lift d k))
key_asks d k v h =
    on_division d (note_setting (k + 36) v) (key_action d (k + 36) v) (omega arith)
    ∙ note_of d k (λ n. cond (ltb 0 v) (Perform (Press d n)) (Perform (Lift d n)))

asks_of : (m : Message) (call : Call) → AskedBy call m → Asks m call
asks_of m (Press d k) a =
    ap action_of a.3 ∙ key_asks d k a.1 a.0 ∙ ap (λ b. cond b (Perform (Press d k)) (Perform (Lift d k))) (let e : ltb 0 a.1 ≡ true = grind (arith, nat_tests, a.2) in e)
asks_of m (Lift d k) a =
    ⊎_elim (λ e. ap action_of e ∙ key_asks d k 0 a.0) (λ e. ap action_of e.1 ∙ key_asks d k 0 a.0) a.1
asks_of m (Sustain d true) a =
    ap action_of a.3 ∙ on_division d Nothing (Perform (Sustain d (leb 64 a.1))) (omega (arith, a.0)) ∙ ap (λ b. Perform (Sustain d b)) (let e : leb 64 a.1 ≡ true = grind (arith, nat_tests, a.2) in e)
asks_of m (Sustain d false) a =
    ap action_of a.3 ∙ on_division d Nothing (Perform (Sustain d (leb 64 a.1))) (omega (arith, a.0)) ∙ ap (λ b. Perform (Sustain d b)) (let e : leb 64 a.1 ≡ false = grind (arith, nat_tests, a.2) in e)
asks_of m (Clear d) a = ap action_of a.2 ∙ on_division d Nothing (Perform (Clear d)) (omega (arith, a.0))
asks_of m (Turn k q) a =
    ap action_of a.1 ∙ ap (λ b. cond b (Perform (Turn k q)) Nothing) (let e : ltb k 64 ≡ true = grind (arith, nat_tests, a.0) in e)
asks_of m (Capture p) a =
    ap action_of a.3
    ∙ ap (λ b. cond b Nothing (cond (eqb p 127) (Perform Cancel) (Perform (Capture p)))) (let e : eqb a.1 0 ≡ false = grind (arith, nat_tests, a.2) in e)
    ∙ ap (λ b. cond b (Perform Cancel) (Perform (Capture p))) (let e : eqb p 127 ≡ false = grind (arith, nat_tests, a.0) in e)
asks_of m (Recall p) a = ap action_of a
asks_of m Cancel a =
    ap action_of a.2 ∙ ap (λ b. cond b Nothing (Perform Cancel)) (let e : eqb a.0 0 ≡ false = grind (arith, nat_tests, a.1) in e)

low_of : (m : Message) (d n : ℕ) → TooLow d n m → action_of m ≡ LowNote d n
low_of m d n a =
    ⊎_elim (λ e. ap action_of e ∙ too_low d n a.2 (omega (arith, a.0)) (omega (arith, a.1))) (λ e. ap action_of e ∙ too_low d n 0 (omega (arith, a.0)) (omega (arith, a.1))) a.3

pub asking_law : AskingLaw
asking_law =
    record {
      only = λ m call r a. subst Fine a (fine m r);
      one = λ m call other a b. let e : Perform call ≡ Perform other = sym a ∙ b in cc;
      each = asked;
      exactly = λ m call r. (λ a. subst (Told m) a (told m r), asks_of m call);
      exactly_low = λ m d n r. (λ a. subst (Told m) a (told m r), low_of m d n);
      low = λ d n v h low. (too_low d n v h low, too_low d n 0 h low);
      low_fault = λ d n. refl;
      low_line = λ d n. ap (λ xs. codes "(fault " ++ (xs ++ line_end)) (decimal_digit 2 (omega arith));
    }

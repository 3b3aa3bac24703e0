-- A model console whose keys are lists, and the same after each call. Assumes nothing.
use Rattle.std.proofs.Common.{◌≡◌, ℕ, Bool, true, false, cond, not, ◌&&◌, ◌||◌, eqb, List, [], ◌∷◌, ◌++◌, is_ok, None, Option, sym, refl, ap, ◌∙◌}
use Rattle.chest.specs.Places.{put}
use Rattle.chest.specs.Meaning.{Panel}
use Rattle.console.specs.declared.call.Call.{Call}
use Rattle.console.specs.declared.call.Call.TheVariants.{Press, Lift, Sustain, Clear, Turn, Capture, Recall, Cancel}
use Rattle.console.specs.Keys.{Keys, sounding, without, with_row, switch, pressed, lifted, sustain_begun, sustain_ended, cleared}
use Rattle.console.specs.Model.{Setup, Model, Memory, all_home, check, with_keys, done, after}
use Rattle.cases.proofs.Held.{held, either_held}
use Rattle.cases.proofs.Counted.{passing, held-passing}

-- the keys that are down, those that are sustained, and the divisions whose sustain is on
pub record Lists : Type 0 where
  pub down : List (ℕ × ℕ)
  pub sustained : List (ℕ × ℕ)
  pub sustain : ℕ → Bool

abbrev pub keys_of : Lists → Keys
keys_of l = record { down = held l.down; sustained = held l.sustained; sustain = l.sustain }

-- the keys of one division, those of the others, and all but one key
abbrev pub in_row : ℕ → List (ℕ × ℕ) → List (ℕ × ℕ)
in_row d ts = passing (λ t. eqb t.0 d) ts

abbrev pub not_in_row : ℕ → List (ℕ × ℕ) → List (ℕ × ℕ)
not_in_row d ts = passing (λ t. not (eqb t.0 d)) ts

abbrev pub all_but : ℕ → ℕ → List (ℕ × ℕ) → List (ℕ × ℕ)
all_but d k ts = passing (λ t. not (eqb t.0 d && eqb t.1 k)) ts

-- off where a test holds
off : (on x : Bool) → cond on false x ≡ (x && not on)
off true true = refl
off true false = refl
off false true = refl
off false false = refl

but-one : (d k : ℕ) (ts : List (ℕ × ℕ)) → put (held ts) d k false ≡ held (all_but d k ts)
but-one d k ts = λ i r q. at r q i where
  at : (r q : ℕ) → put (held ts) d k false r q ≡ held (all_but d k ts) r q
  at r q = off (eqb r d && eqb q k) (held ts r q) ∙ sym (held-passing (λ a b. not (eqb a d && eqb b k)) ts r q)

but_row : (d : ℕ) (ts : List (ℕ × ℕ)) → without (held ts) d ≡ held (not_in_row d ts)
but_row d ts = λ i r q. at r q i where
  at : (r q : ℕ) → without (held ts) d r q ≡ held (not_in_row d ts) r q
  at r q = off (eqb r d) (held ts r q) ∙ sym (held-passing (λ a b. not (eqb a d)) ts r q)

row-more : (d : ℕ) (ss ts : List (ℕ × ℕ)) → with_row (held ss) (held ts) d ≡ held (in_row d ts ++ ss)
row-more d ss ts = λ i r q. at r q i where
  by : (on x y : Bool) → cond on (x || y) x ≡ ((y && on) || x)
  by true true true = refl
  by true true false = refl
  by true false true = refl
  by true false false = refl
  by false true true = refl
  by false true false = refl
  by false false true = refl
  by false false false = refl

  at : (r q : ℕ) → with_row (held ss) (held ts) d r q ≡ held (in_row d ts ++ ss) r q
  at r q =
      by (eqb r d) (held ss r q) (held ts r q)
      ∙ ap (λ x. x || held ss r q) (sym (held-passing (λ a b. eqb a d) ts r q))
      ∙ sym (ap (λ s. s r q) (either_held (in_row d ts) ss))

-- the key lists after what calls make of the keys
abbrev pub lists_pressed : Lists → ℕ → ℕ → Lists
lists_pressed l d k =
    record { down = (d, k) ∷ l.down; sustained = cond (l.sustain d) ((d, k) ∷ l.sustained) l.sustained; sustain = l.sustain }

abbrev pub lists_lifted : Lists → ℕ → ℕ → Lists
lists_lifted l d k = record { down = all_but d k l.down; sustained = l.sustained; sustain = l.sustain }

abbrev pub lists_begun : Lists → ℕ → Lists
lists_begun l d =
    cond (l.sustain d) l (record { down = l.down; sustained = in_row d l.down ++ l.sustained; sustain = switch l.sustain d true })

abbrev pub lists_ended : Lists → ℕ → Lists
lists_ended l d =
    record { down = l.down; sustained = not_in_row d l.sustained; sustain = switch l.sustain d false }

abbrev pub lists_cleared : Lists → ℕ → Lists
lists_cleared l d =
    record { down = not_in_row d l.down; sustained = not_in_row d l.sustained; sustain = switch l.sustain d false }

pressed_lists : (l : Lists) (d k : ℕ) → pressed (keys_of l) d k ≡ keys_of (lists_pressed l d k)
pressed_lists l d k = λ i. record { down = held ((d, k) ∷ l.down); sustained = by (l.sustain d) i; sustain = l.sustain } where
  by : (b : Bool) → cond b (put (held l.sustained) d k true) (held l.sustained) ≡ held (cond b ((d, k) ∷ l.sustained) l.sustained)
  by true = refl
  by false = refl

lifted_lists : (l : Lists) (d k : ℕ) → lifted (keys_of l) d k ≡ keys_of (lists_lifted l d k)
lifted_lists l d k = λ i. record { down = but-one d k l.down i; sustained = held l.sustained; sustain = l.sustain }

begun_lists : (l : Lists) (d : ℕ) → sustain_begun (keys_of l) d ≡ keys_of (lists_begun l d)
begun_lists l d = by (l.sustain d) where
  by : (b : Bool) → cond b (keys_of l) (record { down = held l.down; sustained = with_row (held l.sustained) (held l.down) d; sustain = switch l.sustain d true }) ≡ keys_of (cond b l (record { down = l.down; sustained = in_row d l.down ++ l.sustained; sustain = switch l.sustain d true }))
  by true = refl
  by false = λ i. record { down = held l.down; sustained = row-more d l.sustained l.down i; sustain = switch l.sustain d true }

ended_lists : (l : Lists) (d : ℕ) → sustain_ended (keys_of l) d ≡ keys_of (lists_ended l d)
ended_lists l d = λ i. record { down = held l.down; sustained = but_row d l.sustained i; sustain = switch l.sustain d false }

cleared_lists : (l : Lists) (d : ℕ) → cleared (keys_of l) d ≡ keys_of (lists_cleared l d)
cleared_lists l d = λ i. record { down = but_row d l.down i; sustained = but_row d l.sustained i; sustain = switch l.sustain d false }

-- a model console with its keys as lists
pub record Desk : Type 0 where
  pub lists : Lists
  pub panel : Panel
  pub stored : ℕ → Option Memory

abbrev pub model_of : Desk → Model
model_of t = record { keys = keys_of t.lists; panel = t.panel; stored = t.stored }

abbrev pub with_lists : Desk → Lists → Desk
with_lists t l = record { lists = l; panel = t.panel; stored = t.stored }

-- another panel and other stores, as a call leaves them
abbrev pub with_rest : Desk → Model → Desk
with_rest t p = record { lists = t.lists; panel = p.panel; stored = p.stored }

module _ (s : Setup) where
  -- at the making, when a call is done, and after any call
  abbrev pub first_desk : Desk
  first_desk =
      record { lists = record { down = []; sustained = []; sustain = λ d. false }; panel = all_home s; stored = λ q. None }

  abbrev pub desk_done : Desk → Call → Desk
  desk_done t (Press d k) = with_lists t (lists_pressed t.lists d k)
  desk_done t (Lift d k) = with_lists t (lists_lifted t.lists d k)
  desk_done t (Sustain d on) = with_lists t (cond on (lists_begun t.lists d) (lists_ended t.lists d))
  desk_done t (Clear d) = with_lists t (lists_cleared t.lists d)
  desk_done t (Turn k q) = with_rest t (done s (model_of t) (Turn k q))
  desk_done t (Capture q) = with_rest t (done s (model_of t) (Capture q))
  desk_done t (Recall q) = with_rest t (done s (model_of t) (Recall q))
  desk_done t Cancel = with_rest t (done s (model_of t) Cancel)

  abbrev pub desk_after : Desk → Call → Desk
  desk_after t call = cond (is_ok (check s (model_of t) call)) (desk_done t call) t

  sustain-keys : (t : Desk) (d : ℕ) (on : Bool) → cond on (sustain_begun (keys_of t.lists) d) (sustain_ended (keys_of t.lists) d) ≡ keys_of (cond on (lists_begun t.lists d) (lists_ended t.lists d))
  sustain-keys t d true = begun_lists t.lists d
  sustain-keys t d false = ended_lists t.lists d

  done_desk : (t : Desk) (call : Call) → done s (model_of t) call ≡ model_of (desk_done t call)
  done_desk t (Press d k) = ap (with_keys (model_of t)) (pressed_lists t.lists d k)
  done_desk t (Lift d k) = ap (with_keys (model_of t)) (lifted_lists t.lists d k)
  done_desk t (Sustain d on) = ap (with_keys (model_of t)) (sustain-keys t d on)
  done_desk t (Clear d) = ap (with_keys (model_of t)) (cleared_lists t.lists d)
  done_desk t (Turn k q) = refl
  done_desk t (Capture q) = refl
  done_desk t (Recall q) = refl
  done_desk t Cancel = refl

  pub after-desk : (t : Desk) (call : Call) → after s (model_of t) call ≡ model_of (desk_after t call)
  after-desk t call = ap (λ p. cond (is_ok (check s (model_of t) call)) p (model_of t)) (done_desk t call) ∙ by (is_ok (check s (model_of t) call)) where
    by : (b : Bool) → cond b (model_of (desk_done t call)) (model_of t) ≡ model_of (cond b (desk_done t call) t)
    by true = refl
    by false = refl

-- the keys that sound
pub sounding-lists : (l : Lists) → sounding (keys_of l) ≡ held (l.down ++ l.sustained)
sounding-lists l = sym (either_held l.down l.sustained)

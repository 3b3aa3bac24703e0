-- The stack that a book's wires make: coupler board over stop board over a bottom chest. Assumes nothing.
use Rattle.std.specs.Prelude.{◌≡◌, ℕ, List, [], ◌∷◌, ◌++◌, Ok, Err, Result}
use Rattle.chest.specs.Places.{none}
use Rattle.chest.specs.Meaning.{Meaning}
use Rattle.book.specs.declared.board.Board.{Board}
use Rattle.book.specs.declared.board.Board.TheVariants.{Coupler, Stop}
use Rattle.book.specs.declared.book.BookWire.{BookWire}
use Rattle.board.specs.Relay.{wired_of}
use Rattle.wires.specs.declared.fault.BoardFault.{BoardFault}
use Rattle.fittings.specs.declared.Wire.{Wire}
use Rattle.wires.specs.declared.lead.Lead.{Lead}
use Rattle.coupling.specs.Layout.{Reaches}
use Rattle.wires.specs.Wires.{image}
use Rattle.wires.specs.Wired.{Wired, wired_meaning}
use Rattle.wires.specs.Fitting.{fit_answer, lead_of}
use Rattle.organ.specs.declared.refusal.Refusal.{Refusal}
use Rattle.organ.specs.Stack.{Stack, stacked, StackSettled}

-- a wire that its board refuses is one fault of a book, whatever the board's own fault is
abbrev pub refusal_number : Refusal → ℕ
refusal_number r = 37

abbrev pub unless_refused : {X : Type 0} → Result Unit BoardFault → ℕ → Result X Refusal → Result X Refusal
unless_refused (Ok x) line rest = rest
unless_refused (Err e) line rest = Err (record { line = line; fault = e })

-- the wires on both boards
pub record Hung : Type 0 where
  pub couplers : List Lead
  pub stops : List Lead

abbrev pub bare : Hung
bare = record { couplers = []; stops = [] }

-- one wire more on its board, after those that hang there
abbrev pub hung_on : Board → Hung → Lead → Hung
hung_on Coupler h w = record { couplers = h.couplers ++ w ∷ []; stops = h.stops }
hung_on Stop h w = record { couplers = h.couplers; stops = h.stops ++ w ∷ [] }

module _ (keys : Reaches) (m : Meaning) where
  -- the stop board over the bottom chest, and the coupler board over it: no key is set while wires are fitted
  abbrev pub stop_wired : List Lead → Wired
  stop_wired ws = record { reach = keys; below = m.reach; wires = ws; panel = m.panel; register = none }

  abbrev pub stop_meaning : List Lead → Meaning
  stop_meaning ws = wired_meaning (stop_wired ws) m

  abbrev pub coupler_wired : List Lead → Wired
  coupler_wired ws = record { reach = keys; below = keys; wires = ws; panel = m.panel; register = none }

  -- what the board of a wire answers to it where these hang
  abbrev pub board_answer : Board → Hung → Wire → Result Unit BoardFault
  board_answer Coupler h w = fit_answer (coupler_wired h.couplers) (stop_meaning h.stops) w
  board_answer Stop h w = fit_answer (stop_wired h.stops) m w

  -- the wires of a book in their order, each on its board as it then stands; or the first that its board refuses
  abbrev pub hang_after : Hung → List BookWire → Result Hung Refusal
  hang_after h [] = Ok h
  hang_after h (w ∷ ws) =
      unless_refused (board_answer w.board h w.wire) w.line (hang_after (hung_on w.board h (lead_of w.wire)) ws)

  abbrev pub hang_all : List BookWire → Result Hung Refusal
  hang_all ws = hang_after bare ws

  -- what the stack means: the divisions' reaches, no key set, and the rule of the bottom chest after both images:
  -- first the couplers lead keys to keys, then the stops lead keys to pipes
  abbrev pub stack_meaning : Hung → Meaning
  stack_meaning h =
      record {
        reach = keys;
        register = none;
        panel = m.panel;
        speaking = m.speaking;
        strobes = m.strobes;
        rule = λ panel s. m.rule panel (image m.reach h.stops panel (image keys h.couplers panel s));
      }

module _ {C : Type 0} (meaning : C → Meaning) (settled : C → Type 0) where
  -- the settled stack of all wires, with the coupler board's on top; or just the first refusal
  abbrev pub Assembles : Reaches → Meaning → Result Hung Refusal → Result (Stack C) Refusal → Type 0
  Assembles keys m (Ok h) (Ok s) =
      StackSettled meaning settled s × (stacked meaning s ≡ stack_meaning keys m h) × (wired_of s.coupling ≡ coupler_wired keys m h.couplers)
  Assembles keys m (Ok h) (Err e) = ⊥
  Assembles keys m (Err e) (Ok s) = ⊥
  Assembles keys m (Err e) (Err f) = f ≡ e

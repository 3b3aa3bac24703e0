-- Assembling in a fitter's words: one wire after the other, each offered to its board as it then stands. Assumes nothing.
use Rattle.std.specs.Prelude.{◌≡◌, ◌⊎◌, ◌<◌, ◌≤◌, cond, List, [], ◌∷◌, ◌++◌, Ok, Err, Result, IfOk, ◌↔◌}
use Rattle.chest.specs.Meaning.{Meaning}
use Rattle.book.specs.declared.board.Board.{Board}
use Rattle.book.specs.declared.board.Board.TheVariants.{Coupler, Stop}
use Rattle.book.specs.declared.book.BookWire.{BookWire}
use Rattle.book.specs.Book.{on_board}
use Rattle.board.specs.Relay.{wired_of}
use Rattle.wires.specs.declared.fault.BoardFault.{BoardFault}
use Rattle.wires.specs.declared.lead.Lead.{Lead}
use Rattle.coupling.specs.Layout.{Reaches}
use Rattle.wires.specs.declared.fault.BoardFault.TheVariants.{Full}
use Rattle.wires.specs.FirstFault.{WireFault}
use Rattle.wires.specs.Fitting.{lead_of}
use Rattle.std.specs.List.{count_by}
use Rattle.organ.specs.declared.refusal.Refusal.{Refusal}
use Rattle.organ.specs.Assembly.{Hung, board_answer, coupler_wired, stack_meaning}
use Rattle.organ.specs.Stack.{Stack, stacked}

-- those of a list of wires that are for this board, in their order, as it keeps them
abbrev pub just_its_own : Board → List BookWire → List Lead
just_its_own b [] = []
just_its_own b (w ∷ ws) = cond (on_board b w) (lead_of w.wire ∷ just_its_own b ws) (just_its_own b ws)

abbrev pub each_its_own : List BookWire → Hung
each_its_own ws = record { couplers = just_its_own Coupler ws; stops = just_its_own Stop ws }

module _ (keys : Reaches) (m : Meaning) where
  -- what the board of a wire answers to it once it has its own of the wires before it
  abbrev pub answer_after : List BookWire → BookWire → Result Unit BoardFault
  answer_after front w = board_answer keys m w.board (each_its_own front) w.wire

  -- each of these wires is taken by its board as it then stands
  abbrev pub AllTaken : List BookWire → Type 0
  AllTaken ws =
      (front : List BookWire) (w : BookWire) (rest : List BookWire) → ws ≡ front ++ w ∷ rest → answer_after front w ≡ Ok tt

  -- the wires are some front, one wire and some rest: all of the front are taken, and the board of the one refuses it so
  pub record RefusedFor (ws : List BookWire) (r : Refusal) : Type 0 where
    pub front : List BookWire
    pub wire : BookWire
    pub rest : List BookWire
    pub are : ws ≡ front ++ wire ∷ rest
    pub taken : AllTaken front
    pub refused : answer_after front wire ≡ Err r.fault
    pub line : r.line ≡ wire.line

  -- a stack is refused for a wire exactly if that is so; else all wires are taken, and each board has just its own
  pub record FittedInOrder {C : Type 0} (meaning : C → Meaning) (ws : List BookWire) (result : Result (Stack C) Refusal) : Type 0 where
    pub refused : (r : Refusal) → (result ≡ Err r) ↔ RefusedFor ws r
    pub taken : IfOk result (λ stack. AllTaken ws × (stacked meaning stack ≡ stack_meaning keys m (each_its_own ws)) × (wired_of stack.coupling ≡ coupler_wired keys m (just_its_own Coupler ws)))

-- the rows to which a board's wires lead: a coupler leads to divisions, a stop to ranks
abbrev pub leads_to : Board → (keys ranks : Reaches) → Reaches
leads_to Coupler keys ranks = keys
leads_to Stop keys ranks = ranks

-- a refusal names the line of a wire that its board refuses, and every wire on an earlier line is taken
pub record RefusedOnLine (keys : Reaches) (m : Meaning) (ws : List BookWire) (r : Refusal) : Type 0 where
  pub front : List BookWire
  pub wire : BookWire
  pub rest : List BookWire
  pub are : ws ≡ front ++ wire ∷ rest
  pub line : wire.line ≡ r.line
  pub refused : answer_after keys m front wire ≡ Err r.fault
  -- it is refused for what is wrong with it first, or since its board has 128 wires
  pub why : WireFault keys (leads_to wire.board keys m.reach) wire.wire r.fault ⊎ ((r.fault ≡ Full) × (128 ≤ count_by (on_board wire.board) front))
  pub earlier : (before : List BookWire) (w : BookWire) (after : List BookWire) → ws ≡ before ++ w ∷ after → w.line < r.line → answer_after keys m before w ≡ Ok tt

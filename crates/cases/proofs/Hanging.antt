-- The wires of a book on their boards, without a look at each key of a board that has none set. Assumes nothing.
use Rattle.std.proofs.Common.{◌≡◌, true, List, [], ◌∷◌, length, Ok, Result, nat_lt, refl, ap}
use Rattle.chest.specs.Places.{none}
use Rattle.book.specs.declared.board.Board.{Board}
use Rattle.book.specs.declared.board.Board.TheVariants.{Coupler, Stop}
use Rattle.book.specs.declared.book.BookWire.{BookWire}
use Rattle.fittings.specs.declared.Wire.{Wire}
use Rattle.coupling.specs.Layout.{Reaches}
use Rattle.coupling.specs.Some.{some, is_free}
use Rattle.wires.specs.declared.lead.Lead.{Lead}
use Rattle.wires.specs.declared.fault.BoardFault.{BoardFault}
use Rattle.wires.specs.declared.fault.BoardFault.TheVariants.{Held, Full}
use Rattle.wires.specs.Fitting.{checked, wire_checks, lead_of}
use Rattle.organ.specs.declared.refusal.Refusal.{Refusal}
use Rattle.organ.specs.Assembly.{Hung, bare, unless_refused, hung_on, board_answer, hang_after, hang_all}
use Rattle.organ.specs.Opening.{new_ranks}

free : is_free none ≡ true
unfolding some
free = refl

-- what a board answers that has these reaches and those below, these wires and no key set
abbrev pub answered : Reaches → Reaches → List Lead → Wire → Result Unit BoardFault
answered reach below ws w = checked ((nat_lt (length ws) 128, Full) ∷ wire_checks reach below w) tt

module _ (keys ranks : Reaches) where
  abbrev pub answer : Board → Hung → Wire → Result Unit BoardFault
  answer Coupler h w = answered keys keys h.couplers w
  answer Stop h w = answered keys ranks h.stops w

  abbrev pub hang_from : Hung → List BookWire → Result Hung Refusal
  hang_from h [] = Ok h
  hang_from h (w ∷ ws) =
      unless_refused (answer w.board h w.wire) w.line (hang_from (hung_on w.board h (lead_of w.wire)) ws)

  answers : (b : Board) (h : Hung) (w : Wire) → board_answer keys (new_ranks ranks) b h w ≡ answer b h w
  answers Coupler h w =
      ap (λ b. checked {X = Unit} ((b, Held) ∷ (nat_lt (length h.couplers) 128, Full) ∷ wire_checks keys keys w) tt) free
  answers Stop h w =
      ap (λ b. checked {X = Unit} ((b, Held) ∷ (nat_lt (length h.stops) 128, Full) ∷ wire_checks keys ranks w) tt) free

  hangs-from : (h : Hung) (ws : List BookWire) → hang_after keys (new_ranks ranks) h ws ≡ hang_from h ws
  hangs-from h [] = refl
  hangs-from h (w ∷ ws) =
      λ i. unless_refused (answers w.board h w.wire i) w.line (hangs-from (hung_on w.board h (lead_of w.wire)) ws i)

  pub hangs : (ws : List BookWire) → hang_all keys (new_ranks ranks) ws ≡ hang_from bare ws
  hangs ws = hangs-from bare ws

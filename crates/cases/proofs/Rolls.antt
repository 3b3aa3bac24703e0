-- The listing of messages on the stack of any wires, with keys and pipes as lists. Assumes nothing.
use Rattle.std.proofs.Common.{◌≡◌, ℕ, cond, List, [], ◌∷◌, ◌++◌, sym, refl, ap, ◌∙◌}
use Rattle.chest.specs.Places.{changed}
use Rattle.chest.specs.Meaning.{Meaning}
use Rattle.midi.specs.declared.message.Message.{Message}
use Rattle.coupling.specs.Layout.{Reaches}
use Rattle.wires.specs.Wires.{image}
use Rattle.console.specs.Model.{Setup, check, after}
use Rattle.console.specs.Record.{pipes_of, strobing, answer_of}
use Rattle.organ.specs.declared.action.Action.{Action}
use Rattle.organ.specs.declared.action.Action.TheVariants.{Nothing, Perform, LowNote}
use Rattle.organ.specs.Action.{action_of, low_note}
use Rattle.organ.specs.declared.line.Line.TheVariants.{Fault}
use Rattle.organ.specs.Assembly.{Hung, stack_meaning}
use Rattle.organ.specs.Line.{line_bytes}
use Rattle.organ.specs.Opening.{new_ranks}
use Rattle.organ.specs.Responses.{line_of}
use Rattle.recital.specs.Listings.{action_after, action_line, message_lines}
use Rattle.cases.proofs.Held.{held, all_outlets, image-held}
use Rattle.cases.proofs.Counted.{once, held-once, moved, changed-held}
use Rattle.cases.proofs.KeyLists.{Desk, model_of, desk_after, after-desk, sounding-lists}

module _ (s : Setup) (keys ranks : Reaches) (h : Hung) where
  abbrev stack : Meaning
  stack = stack_meaning keys (new_ranks ranks) h

  -- the keys to which the couplers lead from those that sound, and the pipes to which the stops lead from these
  abbrev coupled : Desk → List (ℕ × ℕ)
  coupled t = once (all_outlets keys t.panel h.couplers (once (t.lists.down ++ t.lists.sustained)))

  abbrev pub pipes : Desk → List (ℕ × ℕ)
  pipes t = once (all_outlets ranks t.panel h.stops (coupled t))

  pub speaks : (t : Desk) → pipes_of stack (model_of t) ≡ held (pipes t)
  speaks t =
      let sounds : List (ℕ × ℕ) = t.lists.down ++ t.lists.sustained in
      ap (λ x. image ranks h.stops t.panel (image keys h.couplers t.panel x)) (sounding-lists t.lists ∙ sym (held-once sounds))
      ∙ ap (image ranks h.stops t.panel) (image-held keys t.panel h.couplers (once sounds) ∙ sym (held-once (all_outlets keys t.panel h.couplers (once sounds))))
      ∙ image-held ranks t.panel h.stops (coupled t)
      ∙ sym (held-once (all_outlets ranks t.panel h.stops (coupled t)))

  abbrev pub then : Desk → Action → Desk
  then t Nothing = t
  then t (Perform call) = desk_after s t call
  then t (LowNote division note) = t

  -- the line of what is asked for, by the pipes before and after it
  abbrev pub line : Desk → List (ℕ × ℕ) → List (ℕ × ℕ) → Action → List ℕ
  line t xs ys Nothing = []
  line t xs ys (Perform call) = line_bytes (line_of (answer_of (check s (model_of t) call) (cond (strobing call) (moved xs ys) 0)))
  line t xs ys (LowNote division note) = line_bytes (Fault (low_note division note))

  -- the lines of messages, each with the rest of them from the desk and the pipes after it
  abbrev before_rest : Desk → List (ℕ × ℕ) → Action → Desk → List (ℕ × ℕ) → (Desk → List (ℕ × ℕ) → List ℕ) → List ℕ
  before_rest t xs a u ys rest = line t xs ys a ++ rest u ys

  abbrev with_pipes : Desk → List (ℕ × ℕ) → Action → Desk → (Desk → List (ℕ × ℕ) → List ℕ) → List ℕ
  with_pipes t xs a u rest = before_rest t xs a u (pipes u) rest

  abbrev pub lines : Desk → List (ℕ × ℕ) → List Message → List ℕ
  lines t xs [] = []
  lines t xs (m ∷ ms) = with_pipes t xs (action_of m) (then t (action_of m)) (λ u ys. lines u ys ms)

  then-is : (t : Desk) (a : Action) → action_after s (model_of t) a ≡ model_of (then t a)
  then-is t Nothing = refl
  then-is t (Perform call) = after-desk s t call
  then-is t (LowNote division note) = refl

  line-is : (t : Desk) (xs : List (ℕ × ℕ)) (a : Action) → pipes_of stack (model_of t) ≡ held xs → action_line s stack (model_of t) a ≡ line t xs (pipes (then t a)) a
  line-is t xs Nothing e = refl
  line-is t xs (Perform call) e =
      ap (λ n. line_bytes (line_of (answer_of (check s (model_of t) call) (cond (strobing call) n 0)))) ((λ i. changed (e i) (now i)) ∙ changed-held xs (pipes (desk_after s t call)))
    where
      now : pipes_of stack (after s (model_of t) call) ≡ held (pipes (desk_after s t call))
      now = ap (pipes_of stack) (after-desk s t call) ∙ speaks (desk_after s t call)
  line-is t xs (LowNote division note) e = refl

  pub lines-are : (t : Desk) (xs : List (ℕ × ℕ)) → pipes_of stack (model_of t) ≡ held xs → (ms : List Message) → message_lines s stack (model_of t) ms ≡ lines t xs ms
  lines-are t xs e [] = refl
  lines-are t xs e (m ∷ ms) =
      (λ i. line-is t xs (action_of m) e i ++ message_lines s stack (then-is t (action_of m) i) ms)
      ∙ ap (λ rest. line t xs (pipes (then t (action_of m))) (action_of m) ++ rest) (lines-are (then t (action_of m)) (pipes (then t (action_of m))) (speaks (then t (action_of m))) ms)

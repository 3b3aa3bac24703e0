-- A refusal by its line, in a book whose lines rise. Assumes nothing.
use Rattle.std.proofs.Common.{◌≡◌, ◌⊎◌, ◌≤◌, ◌+◌, Bool, true, false, cond, length, inl, inr, ◌<◌, List, [], ◌∷◌, ◌++◌, Ok, Err, Result, IfErr, sym, refl, ap, ◌∙◌, subst, arith}
use Rattle.std.specs.List.{count_by}
use Rattle.std.proofs.lemmas.List.Sums.{sum_by-cons}
use Rattle.chest.specs.Places.{Places, none}
use Rattle.chest.specs.Meaning.{Meaning}
use Rattle.fittings.specs.declared.Wire.{Wire}
use Rattle.book.specs.declared.board.Board.{Board}
use Rattle.book.specs.declared.board.Board.TheVariants.{Coupler, Stop}
use Rattle.wires.specs.declared.fault.BoardFault.{BoardFault}
use Rattle.wires.specs.declared.fault.BoardFault.TheVariants.{Held, Full, Keys, ToRow, NoPlaces, Shift, Knob, Position}
use Rattle.wires.specs.Wired.{Wired}
use Rattle.wires.specs.Fitting.{lead_of}
use Rattle.wires.specs.FirstFault.{FirstFault, WireFault}
use Rattle.wires.proofs.FirstFault.{fitting-law}
use Rattle.organ.specs.Assembly.{board_answer, stop_wired, coupler_wired, stop_meaning}
use Rattle.book.specs.declared.book.BookWire.{BookWire}
use Rattle.book.specs.Book.{LinesRise, on_board}
use Rattle.coupling.specs.Layout.{Reaches}
use Rattle.organ.specs.declared.refusal.Refusal.{Refusal}
use Rattle.organ.specs.Fitter.{RefusedFor, RefusedOnLine, FittedInOrder, just_its_own, each_its_own, leads_to}
use Rattle.organ.specs.Stack.{Stack}

-- a list with an element in its middle has it on a later line than its first
later : (x : BookWire) (front : List BookWire) (w : BookWire) (rest : List BookWire) → LinesRise (x ∷ (front ++ w ∷ rest)) → x.line < w.line
later x [] w rest rise = rise.0.0
later x (y ∷ front) w rest rise = later x front w rest ((rise.0.1), rise.1.1)

-- where a list is cut at two elements, of which the one is on an earlier line, it stands in the front of the other
in_front : (front : List BookWire) (wire : BookWire) (rest before : List BookWire) (w : BookWire) (after : List BookWire) → front ++ wire ∷ rest ≡ before ++ w ∷ after → LinesRise (front ++ wire ∷ rest) → w.line < wire.line → (middle : List BookWire) × (front ≡ before ++ w ∷ middle)
in_front [] wire rest [] w after e rise h =
    let same : wire ≡ w = cc in
    absurd (omega (arith, ap (λ (x : BookWire). x.line) same))
in_front [] wire rest (b ∷ before) w after e rise h =
    let same : wire ≡ b = cc in
    let tail : rest ≡ before ++ w ∷ after = cc in
    absurd (omega (arith, later wire before w after (subst (λ l. LinesRise (wire ∷ l)) tail rise)))
in_front (x ∷ front) wire rest [] w after e rise h =
    let same : x ≡ w = cc in
    (front, ap (λ y. y ∷ front) same)
in_front (x ∷ front) wire rest (b ∷ before) w after e rise h =
    let same : x ≡ b = cc in
    let tail : front ++ wire ∷ rest ≡ before ++ w ∷ after = cc in
    let found = in_front front wire rest before w after tail rise.1 h in
    (found.0, (λ i. same i ∷ found.1 i))

-- how many wires a board has
own_count : (b : Board) (ws : List BookWire) → length (just_its_own b ws) ≡ count_by (on_board b) ws
own_count b [] = refl
own_count b (w ∷ ws) =
    by (on_board b w) (own_count b ws) ∙ sym (sum_by-cons (λ v. cond (on_board b v) 1 0) w ws)
  where
    by : (t : Bool) → length (just_its_own b ws) ≡ count_by (on_board b) ws → length (cond t (lead_of w.wire ∷ just_its_own b ws) (just_its_own b ws)) ≡ cond t 1 0 + count_by (on_board b) ws
    by true e = omega (arith, e)
    by false e = omega (arith, e)

-- a board without a key refuses a wire for what is wrong with it, or for want of room
refused_for : (l : Wired) (m : Meaning) (w : Wire) (f : BoardFault) → l.register ≡ none → FirstFault l m w f → WireFault l.reach m.reach w f ⊎ ((f ≡ Full) × (128 ≤ length l.wires))
refused_for l m w Held free h = let z : ◌≡◌ {A = Bool} false true = sym (ap (λ (s : Places). s h.0 h.1) free) ∙ h.4 in cc
refused_for l m w Full free h = inr (refl, h.1)
refused_for l m w (Keys f t) free h = inl h.1
refused_for l m w (ToRow e) free h = inl h.1
refused_for l m w (NoPlaces f t) free h = inl h.1
refused_for l m w (Shift f t) free h = inl h.1
refused_for l m w (Knob k) free h = inl h.1
refused_for l m w (Position k) free h = inl h.1

why_refused : (keys : Reaches) (m : Meaning) (b : Board) (front : List BookWire) (w : Wire) (f : BoardFault) → board_answer keys m b (each_its_own front) w ≡ Err f → WireFault keys (leads_to b keys m.reach) w f ⊎ ((f ≡ Full) × (128 ≤ count_by (on_board b) front))
why_refused keys m Coupler front w f e =
    subst (λ n. WireFault keys keys w f ⊎ ((f ≡ Full) × (128 ≤ n))) (own_count Coupler front) (refused_for (coupler_wired keys m (just_its_own Coupler front)) (stop_meaning keys m (just_its_own Stop front)) w f refl ((fitting-law.refused (coupler_wired keys m (just_its_own Coupler front)) (stop_meaning keys m (just_its_own Stop front)) w f).0 e))
why_refused keys m Stop front w f e =
    subst (λ n. WireFault keys m.reach w f ⊎ ((f ≡ Full) × (128 ≤ n))) (own_count Stop front) (refused_for (stop_wired keys m (just_its_own Stop front)) m w f refl ((fitting-law.refused (stop_wired keys m (just_its_own Stop front)) m w f).0 e))

on_its_line : (keys : Reaches) (m : Meaning) (ws : List BookWire) (r : Refusal) → LinesRise ws → RefusedFor keys m ws r → RefusedOnLine keys m ws r
on_its_line keys m ws r rise f =
    record {
      front = f.front;
      wire = f.wire;
      rest = f.rest;
      are = f.are;
      line = sym f.line;
      refused = f.refused;
      why = why_refused keys m f.wire.board f.front f.wire.wire r.fault f.refused;
      earlier = λ before w after are early.
          let found = in_front f.front f.wire f.rest before w after (sym f.are ∙ are) (subst LinesRise f.are rise) (omega (arith, early, f.line)) in
          f.taken before w found.0 found.1;
    }

pub refused_on_line : {C : Type 0} (keys : Reaches) (m : Meaning) (meaning : C → Meaning) (ws : List BookWire) (x : Result (Stack C) Refusal) → LinesRise ws → FittedInOrder keys m meaning ws x → IfErr x (RefusedOnLine keys m ws)
refused_on_line keys m meaning ws (Ok s) rise law = tt
refused_on_line keys m meaning ws (Err r) rise law = on_its_line keys m ws r rise ((law.refused r).0 refl)

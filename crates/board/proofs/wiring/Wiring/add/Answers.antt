-- The wire stands last, under the number that there were before it.
use Rattle.std.proofs.Common.{◌≡◌, ◌<◌, ◌≤◌, ℕ, Bool, true, false, cond, ◌&&◌, eqb, List, [], ◌∷◌, ◌++◌, length, refl, sym, ap, ◌∙◌, subst, arith}
use Rattle.std.proofs.lemmas.Bool.{eqb-true}
use Rattle.std.proofs.lemmas.List.{length-append}
use Rattle.chest.specs.Positions.{positions_of}
use Rattle.chest.specs.Reaches.{reaches_of}
use Rattle.sets.specs.Numbers.{Numbers, with_number}
use Rattle.wires.specs.declared.lead.Lead.{Lead}
use Rattle.wires.specs.Wires.{live}
use Rattle.board.specs.Wiring.{wires, beneath, panel}
use Rattle.board.specs.Among.{among, leads_from, lands, waits}
use Rattle.board.specs.Outlets.{row_of, key_of}
use Rattle.board.specs.Waiting.{waiting_of}
use Rattle.board.proofs.Among.{among_past, among_push}
use Rattle.board.proofs.wiring.Wiring.add.Goals as goal

-- a number past all others joins a set, or does not
joins : (f : Lead → Bool) (ws : List Lead) (w : Lead) (s t : Numbers) (n : ℕ) → n ≡ length ws → s ≡ among f ws → ((i : ℕ) → t i ≡ cond (eqb i n && f w) true (s i)) → t ≡ among f (ws ++ w ∷ [])
joins f ws w s t n last is add = λ j i. one i j
  where
    by : (b l old : Bool) → (b ≡ true → old ≡ false) → cond (b && l) true old ≡ cond b l old
    by true true old e = refl
    by true false old e = e refl
    by false l old e = refl

    fresh : (i : ℕ) → eqb i (length ws) ≡ true → among f ws i ≡ false
    fresh i e = let same = eqb-true i (length ws) e in among_past f ws i (omega arith)

    one : (i : ℕ) → t i ≡ among f (ws ++ w ∷ []) i
    one i =
        add i
        ∙ (λ j. cond (eqb i (last j) && f w) true (is j i))
        ∙ by (eqb i (length ws)) (f w) (among f ws i) (fresh i)
        ∙ sym (among_push f ws w i)

pub invariant_of-self : goal.invariant_of-self
invariant_of-self c =
    let h = c.args.self.now in
    let w = c.args.lead in
    let number = c.len-number.result in
    let items = c.push.ensures.items in
    let last = c.len-number.ensures.value in
    let is_last : number < 128 = omega (arith, last, c.requires) in
    record {
      few = subst (λ ws. length ws ≤ 128) (sym items) (omega (arith, length-append (wires h) (w ∷ []), c.requires));
      alive = c.with-self.ensures.value is_last ∙ (λ j. with_number (h.alive j) (last j) ((c.is_live.ensures ∙ ap (λ t. live (positions_of t) w) c.positions.ensures) j)) ∙ (λ j i. sym (among_push (live (panel h)) (wires h) w i) j) ∙ sym (ap (among (live (panel h))) items);
      leading = λ r hr. joins (leads_from r) (wires h) w (row_of h.outlets r) (row_of c.add.new.self r) number last (h.leading r hr) (λ i. c.add.ensures.rows r i hr) ∙ sym (ap (among (leads_from r)) items);
      landing = λ p hp. joins (lands (beneath h) p) (wires h) w (key_of h.outlets p) (key_of c.add.new.self p) number last (h.landing p hp) (λ i. c.add.ensures.keys p i hp ∙ ap (λ t. cond (eqb i number && lands (reaches_of t) p w) true (key_of h.outlets p i)) c.below.ensures) ∙ sym (ap (among (lands (beneath h) p)) items);
      waits = λ k hk. joins (waits k) (wires h) w (waiting_of h.waiting k) (waiting_of c.add-2.new.self k) number last (h.waits k hk) (λ i. c.add-2.ensures k i hk) ∙ sym (ap (among (waits k)) items);
    }

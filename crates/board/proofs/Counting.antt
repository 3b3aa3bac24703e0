-- The steps of the walks that count ways. Assumes nothing.
use Rattle.std.proofs.Common.{◌≡◌, ℕ, ◌+◌, ◌<◌, ◌≤◌, Bool, true, false, cond, not, ◌&&◌, eqb, ◌≢◌, List, length, get_or, Some, None, Option, is_some, nat_le, sym, refl, ap, ◌∙◌, arith}
use Rattle.std.proofs.lemmas.Bool.{false≢true}
use Rattle.std.proofs.lemmas.Bool.Decides.{nat_tests}
use Rattle.chest.specs.Places.{total, put}
use Rattle.chest.specs.Meaning.{knob_to}
use Rattle.chest.proofs.Totals.{total-zero}
use Rattle.wires.specs.declared.lead.Lead.{Lead}
use Rattle.board.specs.declared.wiring.Wiring.{Wiring}
use Rattle.board.specs.declared.swing.Swing.{Swing}
use Rattle.board.specs.Swing.{starts, swing, swing_of}
use Rattle.wires.specs.Wires.{landing, is_at, leads, span, through, outlet, meets}
use Rattle.board.specs.Wiring.{beneath, register, panel, wires}
use Rattle.board.specs.Counts.{at_place, Fits, Moves, Room}
use Rattle.coupling.proofs.Desks.{no_key_past}
use Rattle.board.proofs.Sums.{mixed, mixed_more, mixed-le, left_more}
use Rattle.sets.specs.Numbers.{Numbers, nothing, PopsFirst}
use Rattle.board.specs.Among.{blank, waits, waits_for}
use Rattle.wires.specs.declared.lead.Wait.{Wait}
use Rattle.board.specs.declared.swing.Swing.TheVariants.{Starts, Stops}
use Rattle.board.proofs.Swings.{Swung, through-swing}
use Rattle.wires.proofs.Ways.{through-one, through-put, span-keys, leads-is}

by_hit : (x y was on : Bool) (new old n m : ℕ) → was ≡ not on → x ≡ y → new + cond (x && was) 1 0 ≡ old + cond (x && on) 1 0 → m + old ≡ n + new → m + cond on 0 (cond y 1 0) ≡ n + cond on (cond y 1 0) 0
by_hit x y was on new old n m other same one more = grind (arith, nat_tests)

by_room : (on x : Bool) (n m : ℕ) → x ≡ true → m + cond on 0 (cond x 1 0) ≡ n + cond on (cond x 1 0) 0 → m ≤ 128 → Fits on n 1
by_room true true n m e moved most = (omega arith, omega arith)
by_room false true n m e moved most = (omega arith, omega arith)
by_room true false n m e moved most = absurd (false≢true e)
by_room false false n m e moved most = absurd (false≢true e)

-- a way more or less of those that are left
by_left : (up : Bool) (before now after hit all rest : ℕ) → now + cond up (rest + hit) all ≡ before + cond up all (rest + hit) → after + cond up 0 hit ≡ now + cond up hit 0 → after + cond up rest all ≡ before + cond up all rest
by_left true before now after hit all rest inv moved = omega arith
by_left false before now after hit all rest inv moved = omega arith

by_space : (up : Bool) (before now all rest : ℕ) → now + cond up rest all ≡ before + cond up all rest → rest ≤ all → 0 < rest → Fits up before all → Fits up now 1
by_space true before now all rest inv most some room = (omega arith, omega arith)
by_space false before now all rest inv most some room = (omega arith, omega arith)

by_swing : (o : Option Swing) (new old by m n : ℕ) → Swung o new old by → m + old ≡ n + new → Swung o m n by
by_swing None new old by m n one more = omega arith
by_swing (Some up) new old by m n one more = omega arith

by_limit : (up : Bool) (m n by : ℕ) → m + cond up 0 by ≡ n + cond up by 0 → n ≤ 128 → m ≤ 128 → Fits up n by
by_limit true m n by moved few many = (omega arith, omega arith)
by_limit false m n by moved few many = (omega arith, omega arith)

-- a place is the one that it is
pub met : (b q : ℕ) → (eqb b b && eqb q q) ≡ true
met b q = grind (arith, nat_tests)

module _ (h : Wiring) where
  module _ (row key : ℕ) (on : Bool) (b q : ℕ) where
    -- how many ways a wire has after the key is put, and before
    abbrev pub key_new : Lead → ℕ
    key_new = through (beneath h) (panel h) (put (register h) row key on) b q

    abbrev pub key_old : Lead → ℕ
    key_old = through (beneath h) (panel h) (register h) b q

    module _ (other : register h row key ≡ not on) (s t : Numbers) (k n : ℕ) (l : k < length (wires h)) (pops : PopsFirst s t (Some k)) (inv : n ≡ mixed key_new key_old (wires h) s) (o : Option (ℕ × ℕ)) (is : outlet (beneath h) (panel h) (get_or (wires h) k blank) row key ≡ o) where
      -- the key's way through the wire comes, or goes
      step : mixed key_new key_old (wires h) t + cond on 0 (cond (meets o b q) 1 0) ≡ n + cond on (cond (meets o b q) 1 0) 0
      step =
          let w = get_or (wires h) k blank in
          let more = mixed_more key_new key_old (wires h) s t k blank l h.few pops in
          let one = through-put (beneath h) (panel h) (register h) row key on b q w in
          let hit = ap (λ x. meets x b q) is in
          by_hit (meets (outlet (beneath h) (panel h) w row key) b q) (meets o b q) (register h row key) on (key_new w) (key_old w) n _ other hit one (omega arith)

      -- there is room for a way more, or there is a way to take
      pub key_room : meets o b q ≡ true → Fits on n 1
      key_room hit =
          by_room on (meets o b q) n _ hit step (mixed-le key_new key_old (wires h) t (through-one (beneath h) (panel h) (put (register h) row key on) b q) (through-one (beneath h) (panel h) (register h) b q))

      -- a wire more is walked
      pub key_more : (m : ℕ) → m + cond on 0 (cond (meets o b q) 1 0) ≡ n + cond on (cond (meets o b q) 1 0) 0 → m ≡ mixed key_new key_old (wires h) t
      key_more m moved = omega (arith, step, moved)

    -- a wire that leads nowhere from the key, or is not live, has the ways that it had
    pub key_same : register h row key ≡ not on → (w : Lead) → is_some (outlet (beneath h) (panel h) w row key) ≡ false → key_new w ≡ key_old w
    key_same other w nowhere =
        let one = through-put (beneath h) (panel h) (register h) row key on b q w in
        let gone = misses (outlet (beneath h) (panel h) w row key) nowhere in
        grind (arith, nat_tests)
      where
        misses : (o : Option (ℕ × ℕ)) → is_some o ≡ false → meets o b q ≡ false
        misses None e = refl
        misses (Some t) e = absurd (false≢true (sym e))

  module _ (w : Lead) (up : Bool) where
    -- the way of one key of a wire, and those of the keys of a set
    abbrev pub term : ℕ → ℕ → ℕ → ℕ
    term b q key = cond (leads (beneath h) w b q key) 1 0

    abbrev pub terms : Numbers → ℕ → ℕ → ℕ
    terms s b q = total 128 (λ k. cond (s k) (term b q k) 0)

    -- from one table to the other the ways of the wire are counted, but for those of the keys that are left
    abbrev pub Left : List ℕ → List ℕ → Numbers → Type 0
    Left before now rest =
        (b q : ℕ) → b < 16 → q < 128 → (at_place now b q + cond up (terms rest b q) (span (beneath h) (register h) b q w) ≡ at_place before b q + cond up (span (beneath h) (register h) b q w) (terms rest b q)) × (terms rest b q ≤ span (beneath h) (register h) b q w)

    span_is : (b q : ℕ) → span (beneath h) (register h) b q w ≡ terms (register h w.from) b q
    span_is b q = span-keys (beneath h) (register h) b q w (no_key_past h.desk w.from)

    pub wire_start : (table : List ℕ) (rest : Numbers) → rest ≡ register h w.from → Left table table rest
    wire_start table rest is b q hb hq =
        let all = span_is b q ∙ ap (λ s. terms s b q) (sym is) in
        (ap (λ n. at_place table b q + cond up (terms rest b q) n) all ∙ sym (ap (λ n. at_place table b q + cond up n (terms rest b q)) all ∙ both up (terms rest b q)), omega (arith, all))
      where
        both : (c : Bool) (n : ℕ) → at_place table b q + cond c n n ≡ at_place table b q + cond c n n
        both c n = refl

    -- a key that does not land gives no way
    pub wire_stays : (table : List ℕ) → Moves up table table (λ b q. cond (eqb b w.to && is_at None q) 1 0)
    wire_stays table b q hb hq =
        ap (λ n. at_place table b q + cond up 0 n) (none (eqb b w.to)) ∙ sym (ap (λ n. at_place table b q + cond up n 0) (none (eqb b w.to)) ∙ both up)
      where
        none : (c : Bool) → ◌≡◌ {A = ℕ} (cond (c && false) 1 0) 0
        none true = refl
        none false = refl

        both : (c : Bool) → at_place table b q + cond c 0 0 ≡ at_place table b q + cond c 0 0
        both c = refl

    pub wire_all : (before after : List ℕ) (rest : Numbers) → rest ≡ nothing → Left before after rest → Moves up before after (λ b q. span (beneath h) (register h) b q w)
    wire_all before after rest none left b q hb hq =
        let inv = (left b q hb hq).0 in
        let gone : terms rest b q ≡ 0 = ap (λ s. terms s b q) none ∙ total-zero 128 (λ k. 0) (λ k l. refl) in
        ap (λ n. at_place after b q + cond up n (span (beneath h) (register h) b q w)) (sym gone) ∙ inv ∙ ap (λ n. at_place before b q + cond up (span (beneath h) (register h) b q w) n) gone

    module _ (s t : Numbers) (key : ℕ) (within : key < 128) (pops : PopsFirst s t (Some key)) (o : Option ℕ) (is : cond (nat_le w.lowest key && nat_le key w.highest) (landing w.raise (beneath h w.to) key) None ≡ o) where
      parts : (b q : ℕ) → terms s b q ≡ terms t b q + cond (eqb b w.to && is_at o q) 1 0
      parts b q = left_more s t key (term b q) within pops ∙ ap (λ c. terms t b q + cond c 1 0) (leads-is (beneath h) w key b q o is)

      pub wire_more : (before now after : List ℕ) → Left before now s → Moves up now after (λ b q. cond (eqb b w.to && is_at o q) 1 0) → Left before after t
      wire_more before now after left moved b q hb hq =
          let part = parts b q in
          let inv = left b q hb hq in
          (by_left up _ (at_place now b q) _ (cond (eqb b w.to && is_at o q) 1 0) _ _ (ap (λ n. at_place now b q + cond up n (span (beneath h) (register h) b q w)) (sym part) ∙ inv.0 ∙ ap (λ n. at_place before b q + cond up (span (beneath h) (register h) b q w) n) part) (moved b q hb hq), omega (arith, part, inv.1))

      pub wire_room : (before now : List ℕ) (b q : ℕ) → b < 16 → q < 128 → (eqb b w.to && is_at o q) ≡ true → Left before now s → Room up before (λ x y. span (beneath h) (register h) x y w) → Fits up (at_place now b q) 1
      wire_room before now b q hb hq hit inv room =
          let one : ◌≡◌ {A = ℕ} (cond (eqb b w.to && is_at o q) 1 0) 1 = ap (λ c. cond c 1 0) hit in
          by_space up _ _ _ (terms s b q) (inv b q hb hq).0 (inv b q hb hq).1 (omega (arith, parts b q, one)) (room b q hb hq)

  module _ (knob from to b q : ℕ) where
    -- how many ways a wire has after the knob is turned, and before
    abbrev pub knob_new : Lead → ℕ
    knob_new = through (beneath h) (knob_to (panel h) knob to) (register h) b q

    abbrev pub knob_old : Lead → ℕ
    knob_old = through (beneath h) (panel h) (register h) b q

    module _ (was : panel h knob ≡ from) (turns : from ≢ to) where
      -- a wire that does not wait for the knob has the ways that it had
      pub knob_same : (w : Lead) → waits knob w ≡ false → knob_new w ≡ knob_old w
      knob_same w other = through-swing (beneath h) (panel h) (register h) knob from to b q w was turns None (still w.setting other) where
        still : (t : Option Wait) → waits_for knob t ≡ false → swing_of t knob from to ≡ None
        still None e = refl
        still (Some t) e = ap (λ c. cond c (cond (eqb t.position from) (Some Stops) (cond (eqb t.position to) (Some Starts) None)) None) e

      module _ (s t : Numbers) (k n : ℕ) (l : k < length (wires h)) (pops : PopsFirst s t (Some k)) (inv : n ≡ mixed knob_new knob_old (wires h) s) where
        abbrev pub turned : Lead
        turned = get_or (wires h) k blank

        -- the ways of the wire come, or go, or stay
        swing-step : (o : Option Swing) → swing turned knob from to ≡ o → Swung o (mixed knob_new knob_old (wires h) t) n (span (beneath h) (register h) b q turned)
        swing-step o is =
            let more = mixed_more knob_new knob_old (wires h) s t k blank l h.few pops in
            by_swing o (knob_new turned) (knob_old turned) _ _ _ (through-swing (beneath h) (panel h) (register h) knob from to b q turned was turns o is) (omega arith)

        pub knob_stays : swing turned knob from to ≡ None → n ≡ mixed knob_new knob_old (wires h) t
        knob_stays is = sym (swing-step None is)

        module _ (up : Swing) (is : swing turned knob from to ≡ Some up) where
          pub knob_room : Fits (starts up) n (span (beneath h) (register h) b q turned)
          knob_room =
              let most : (j : Numbers) → mixed knob_new knob_old (wires h) j ≤ 128 = λ j. mixed-le knob_new knob_old (wires h) j (through-one (beneath h) (knob_to (panel h) knob to) (register h) b q) (through-one (beneath h) (panel h) (register h) b q) in
              by_limit (starts up) _ _ _ (swing-step (Some up) is) (omega (arith, most s)) (most t)

          pub knob_more : (m : ℕ) → m + cond (starts up) 0 (span (beneath h) (register h) b q turned) ≡ n + cond (starts up) (span (beneath h) (register h) b q turned) 0 → m ≡ mixed knob_new knob_old (wires h) t
          knob_more m moved = let step : Swung (Some up) (mixed knob_new knob_old (wires h) t) n (span (beneath h) (register h) b q turned) = swing-step (Some up) is in omega arith

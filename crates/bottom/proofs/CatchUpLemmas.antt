-- One place more of a drain: it stays as it is, or one message is written. Assumes nothing.
use Rattle.std.proofs.Common.{◌≡◌, ℕ, zero, suc, ◌+◌, ◌-◌, ◌*◌, ◌/◌, ◌%◌, ◌<◌, ◌≤◌, Bool, true, false, ◌⊎◌, List, [], ◌∷◌, ◌++◌, length, take, drop, sym, refl, ap, ◌∙◌, subst, inl, inr, append-nil, append_assoc, add-one, arith, length-append, length-drop}
use Rattle.std.proofs.Math.Seq.{take-append-add, drop-append-add}
use Rattle.std.proofs.lemmas.List.{take_all, drop_all, drop-drop, flat_map_more, length-take-le}
use Rattle.std.proofs.lemmas.Bool.Decides.{nat_tests}
use Rattle.chest.specs.Places.{Places, put, differ}
use Rattle.bottom.specs.Drain.{holds, message_bytes, spelled, agreed, written_below}
use Rattle.bottom.specs.CatchUp.{Wrote, UpTo, GoesOn}
use Rattle.bottom.proofs.Pending.{Turn, still, full, next, turn, written_none, written-still, written-full, written_next, agreed-push, length-spelled}

-- what a place holds, by its number
pub holds_at : (s : Places) (r p : ℕ) → p < 128 → holds s (128 * r + p) ≡ s r p
holds_at s r p h =
    let row : (128 * r + p) / 128 ≡ r = omega arith in
    let place : (128 * r + p) % 128 ≡ p = omega arith in
    λ i. s (row i) (place i)

-- places with higher numbers are as they were
module _ (s t : Places) (room : ℕ) where
  ahead_put : (n r p : ℕ) (u : Places) → p < 128 → n + 1 ≤ 128 * r + p → put u (n / 128) (n % 128) (holds t n) r p ≡ u r p
  ahead_put n r p u hp h = grind (arith, nat_tests)

  ahead_turn : (n r p : ℕ) → p < 128 → n + 1 ≤ 128 * r + p → Turn s t room n → agreed s t (written_below n s t room) r p ≡ s r p → agreed s t (written_below (n + 1) s t room) r p ≡ s r p
  ahead_turn n r p hp h (still d e) so = ap (λ ns. agreed s t ns r p) e ∙ so
  ahead_turn n r p hp h (full d e) so = ap (λ ns. agreed s t ns r p) e ∙ so
  ahead_turn n r p hp h (next d l e) so =
      ap (λ ns. agreed s t ns r p) e ∙ ap (λ (u : Places). u r p) (agreed-push s t (written_below n s t room) n)
      ∙ ahead_put n r p (agreed s t (written_below n s t room)) hp h ∙ so

  pub ahead : (n r p : ℕ) → p < 128 → n ≤ 128 * r + p → agreed s t (written_below n s t room) r p ≡ s r p
  ahead zero r p hp h = ap (λ ns. agreed s t ns r p) (written_none s t room)
  ahead (suc n) r p hp h =
      let so = ahead n r p hp (omega arith) in
      ap (λ m. agreed s t (written_below m s t room) r p) (sym (add-one n)) ∙ ahead_turn n r p hp (omega arith) (turn s t room n) so

module _ (t start : Places) (buffer : List ℕ) (ns : List ℕ) (sent : Places) (front rest : List ℕ) (u : Wrote t start buffer ns sent front rest) where
  pub wrote_length : length front ≡ 3 * length ns
  wrote_length = ap length u.bytes ∙ length-spelled t ns

  rest_length : length rest ≡ length buffer - 3 * length ns
  rest_length = ap length u.untouched ∙ length-drop (length front) buffer ∙ ap (λ k. length buffer - k) wrote_length

  -- one message more
  push : (n : ℕ) → Wrote t start buffer (ns ++ n ∷ []) (put sent (n / 128) (n % 128) (holds t n)) (front ++ spelled t n) (drop 3 rest)
  push n =
      record {
        sent = ap (λ (s : Places). put s (n / 128) (n % 128) (holds t n)) u.sent ∙ sym (agreed-push start t ns n);
        bytes = ap (λ l. l ++ spelled t n) u.bytes ∙ flat_map_more (spelled t) [] ns n;
        untouched = ap (drop 3) u.untouched ∙ drop-drop 3 (length front) buffer ∙ ap (λ k. drop k buffer) (sym (length-append front (spelled t n)));
      }

module _ (t start : Places) (buffer : List ℕ) (n : ℕ) (sent : Places) (front rest : List ℕ) (u : UpTo n t start buffer sent front rest) where
  as_before : holds sent n ≡ holds start n
  as_before = ap (λ (s : Places). holds s n) u.sent ∙ ahead start t (length buffer) n (n / 128) (n % 128) (omega arith) (omega arith)

  pub stay_same : differ (holds sent n) (holds t n) ≡ false → UpTo (n + 1) t start buffer sent front rest
  stay_same e =
      subst (λ ns. Wrote t start buffer ns sent front rest) (sym (written-still start t (length buffer) n (ap (λ b. differ b (holds t n)) (sym as_before) ∙ e))) u

  pub stay_full : length rest < 3 → UpTo (n + 1) t start buffer sent front rest
  stay_full h =
      let left = rest_length t start buffer _ sent front rest u in
      let over : length buffer < 3 * length (written_below n start t (length buffer)) + 3 = omega arith in
      subst (λ ns. Wrote t start buffer ns sent front rest) (sym (written-full start t (length buffer) n over)) u

  pub send : differ (holds sent n) (holds t n) ≡ true → 3 ≤ length rest → UpTo (n + 1) t start buffer (put sent (n / 128) (n % 128) (holds t n)) (front ++ spelled t n) (drop 3 rest)
  send e h =
      let left = rest_length t start buffer _ sent front rest u in
      let under : 3 * length (written_below n start t (length buffer)) + 3 ≤ length buffer = omega arith in
      subst (λ ns. Wrote t start buffer ns (put sent (n / 128) (n % 128) (holds t n)) (front ++ spelled t n) (drop 3 rest)) (sym (written_next start t (length buffer) n (ap (λ b. differ b (holds t n)) (sym as_before) ∙ e) under)) (push t start buffer _ sent front rest u n)

-- the same by row and place
module _ (t start : Places) (buffer : List ℕ) (r p : ℕ) (hp : p < 128) (sent : Places) (front rest : List ℕ) (u : UpTo (128 * r + p) t start buffer sent front rest) where
  apart : differ (holds sent (128 * r + p)) (holds t (128 * r + p)) ≡ differ (sent r p) (t r p)
  apart = λ i. differ (holds_at sent r p hp i) (holds_at t r p hp i)

  pub place_stays : (differ (sent r p) (t r p) ≡ false) ⊎ (length rest < 3) → UpTo (128 * r + p + 1) t start buffer sent front rest
  place_stays (inl e) = stay_same t start buffer (128 * r + p) sent front rest u (apart ∙ e)
  place_stays (inr h) = stay_full t start buffer (128 * r + p) sent front rest u h

  place_sent : differ (sent r p) (t r p) ≡ true → 3 ≤ length rest → UpTo (128 * r + p + 1) t start buffer (put sent r p (t r p)) (front ++ message_bytes (t r p) r p) (drop 3 rest)
  place_sent e h =
      let row : (128 * r + p) / 128 ≡ r = omega arith in
      let place : (128 * r + p) % 128 ≡ p = omega arith in
      subst (λ (x : ℕ × ℕ × Bool). UpTo (128 * r + p + 1) t start buffer (put sent x.0 x.1 x.2) (front ++ message_bytes x.2 x.0 x.1) (drop 3 rest)) (λ i. (row i, place i, holds_at t r p hp i)) (send t start buffer (128 * r + p) sent front rest u (apart ∙ e) h)

  -- the same, where the code has come to these values
  pub place_drained : (sent_after : Places) (after : List ℕ) → sent_after ≡ put sent r p (t r p) → after ≡ message_bytes (t r p) r p ++ drop 3 rest → differ (sent r p) (t r p) ≡ true → 3 ≤ length rest → UpTo (128 * r + p + 1) t start buffer sent_after (front ++ take 3 after) (drop 3 after)
  place_drained sent_after after puts items e h =
      subst (λ (x : Places × List ℕ). UpTo (128 * r + p + 1) t start buffer x.0 (front ++ take 3 x.1) (drop 3 x.1)) (λ i. (sym puts i, sym items i)) (place_sent e h)

-- at another name of the same number
pub up_to_at : (m n : ℕ) (t start : Places) (buffer : List ℕ) (sent : Places) (front rest : List ℕ) → m ≡ n → UpTo m t start buffer sent front rest → UpTo n t start buffer sent front rest
up_to_at m n t start buffer sent front rest e u = subst (λ k. UpTo k t start buffer sent front rest) e u

-- with nothing more written
pub none_more : (n : ℕ) (t start : Places) (buffer : List ℕ) (sent : Places) (front rest : List ℕ) → UpTo n t start buffer sent front rest → UpTo n t start buffer sent (front ++ take 0 rest) (drop 0 rest)
none_more n t start buffer sent front rest u =
    subst (λ l. UpTo n t start buffer sent l rest) (sym (append-nil front)) u

-- one stretch after another, which is at the rest of the buffer that the one before has left
module _ (now-o more-o : List ℕ) (w : ℕ) (fits : w ≤ length now-o) where
  -- the rest, as it is lent, and the buffer with what it holds after that
  lent : take (length now-o - w) (drop w now-o) ≡ drop w now-o
  lent = take_all (length now-o - w) (drop w now-o) (omega (arith, length-drop w now-o))

  Whole : List ℕ
  Whole = take w now-o ++ (more-o ++ drop (length now-o - w) (drop w now-o))

  joined : Whole ≡ take w now-o ++ more-o
  unfolding Whole
  joined =
      ap (λ l. take w now-o ++ (more-o ++ l)) (drop_all (length now-o - w) (drop w now-o) (omega (arith, length-drop w now-o)))
      ∙ ap (λ l. take w now-o ++ l) (append-nil more-o)

  long : length (take w now-o) ≡ w
  long = length-take-le w now-o fits

  fronts : (front : List ℕ) (more : ℕ) → (front ++ take w now-o) ++ take more more-o ≡ front ++ take (w + more) Whole
  fronts front more =
      append_assoc front (take w now-o) (take more more-o)
      ∙ ap (λ l. front ++ l) (sym (take-append-add (take w now-o) more-o more))
      ∙ (λ i. front ++ take (long i + more) (sym joined i))

  rests : (more : ℕ) → drop more more-o ≡ drop (w + more) Whole
  rests more = sym (drop-append-add (take w now-o) more-o more) ∙ (λ i. drop (long i + more) (sym joined i))

  pub goes_then : (m n k n-after k-after : ℕ) (t now-t s now-s after-s : Places) (o : List ℕ) (more : ℕ) → GoesOn m n t s o now-s now-o w → GoesOn k k-after now-t now-s (take (length now-o - w) (drop w now-o)) after-s more-o more → now-t ≡ t → k ≡ n → k-after ≡ n-after → GoesOn m n-after t s o after-s (take w now-o ++ (more-o ++ drop (length now-o - w) (drop w now-o))) (w + more)
  unfolding Whole
  goes_then m n k n-after k-after t now-t s now-s after-s o more so_far step e f g start buffer front u =
      subst (λ (x : List ℕ × List ℕ). UpTo n-after t start buffer after-s x.0 x.1) (λ i. (fronts front more i, rests more i)) then
    where
      before : UpTo k now-t start buffer now-s (front ++ take w now-o) (take (length now-o - w) (drop w now-o))
      before =
          subst (λ (x : ℕ × Places × List ℕ). UpTo x.0 x.1 start buffer now-s (front ++ take w now-o) x.2) (λ i. (sym f i, sym e i, sym lent i)) (so_far start buffer front u)

      then : UpTo n-after t start buffer after-s ((front ++ take w now-o) ++ take more more-o) (drop more more-o)
      then =
          subst (λ (x : ℕ × Places). UpTo x.0 x.1 start buffer after-s ((front ++ take w now-o) ++ take more more-o) (drop more more-o)) (λ i. (g i, e i)) (step start buffer (front ++ take w now-o) before)

-- a stretch in which nothing is written
module _ (t start : Places) (buffer : List ℕ) (sent : Places) (front rest : List ℕ) where
  pub stretch_same : (d n : ℕ) → ((k : ℕ) → k < d → differ (holds sent (n + k)) (holds t (n + k)) ≡ false) → UpTo n t start buffer sent front rest → UpTo (n + d) t start buffer sent front rest
  stretch_same zero n e u = up_to_at n (n + 0) t start buffer sent front rest (omega arith) u
  stretch_same (suc d) n e u =
      up_to_at (n + d + 1) (n + suc d) t start buffer sent front rest (omega arith) (stay_same t start buffer (n + d) sent front rest (stretch_same d n (λ k h. e k (omega arith)) u) (e d (omega arith)))

  pub stretch_full : (d n : ℕ) → length rest < 3 → UpTo n t start buffer sent front rest → UpTo (n + d) t start buffer sent front rest
  stretch_full zero n h u = up_to_at n (n + 0) t start buffer sent front rest (omega arith) u
  stretch_full (suc d) n h u =
      up_to_at (n + d + 1) (n + suc d) t start buffer sent front rest (omega arith) (stay_full t start buffer (n + d) sent front rest (stretch_full d n h u) h)

-- at the start of a drain nothing is written, and after the last place it is done
pub up_to_none : (t s : Places) (out : List ℕ) → UpTo 0 t s out s [] out
up_to_none t s out =
    subst (λ ns. Wrote t s out ns s [] out) (sym (written_none s t (length out))) (record { sent = refl; bytes = refl; untouched = refl })

-- What a drain is to a receiver of its line, for any sets of places. Assumes nothing.
use Rattle.std.proofs.Common.{◌≡◌, ℕ, zero, suc, ◌+◌, ◌*◌, ◌/◌, ◌%◌, ◌<◌, ◌≤◌, Bool, true, false, cond, ◌⊎◌, List, [], ◌∷◌, ◌++◌, map, length, sym, refl, ap, ◌∙◌, subst, inl, inr, ⊎_elim, add-one, arith}
use Rattle.std.specs.List.{AllByRecursion}
use Rattle.std.proofs.ByRecursion.{All-push}
use Rattle.std.proofs.lemmas.List.{map_push}
use Rattle.std.proofs.lemmas.Bool.{cases_lt, cases_eq}
use Rattle.std.proofs.lemmas.Bool.Decides.{nat_tests}
use Rattle.chest.specs.Places.{Places, none, put, differ}
use Rattle.midi.specs.declared.message.Message.{Message}
use Rattle.midi.specs.declared.message.Message.TheVariants.{NoteOn, NoteOff}
use Rattle.midi.specs.Reading.{reading, ReadsAs}
use Rattle.midi.proofs.Notes.{note_on_reads, note_off_reads, reads_joined}
use Rattle.bottom.specs.Drain.{count_of_places, holds, velocity, spelled, agreed, written_below, drained}
use Rattle.bottom.specs.Receiver.{hears, heard, notes_after, Nearer, Towards, DrainLaw}
use Rattle.bottom.proofs.CatchUpLemmas.{ahead}
use Rattle.bottom.proofs.Pending.{Turn, still, full, next, turn, written_none, agreed-push, length-spelled}

pub heard-append : (notes : Places) (ms ns : List Message) → heard notes (ms ++ ns) ≡ heard (heard notes ms) ns
heard-append notes [] ns = refl
heard-append notes (m ∷ ms) ns = heard-append (hears notes m) ms ns

-- the message for a place, as it is read
says : Places → ℕ → Message
says t n = cond (holds t n) (NoteOn (n / 128) (n % 128) velocity) (NoteOff (n / 128) (n % 128) velocity)

flag-reads : (on : Bool) (c k : ℕ) → c < 16 → k < 128 → ReadsAs ((cond on 0x90 0x80 + c) ∷ k ∷ velocity ∷ []) (cond on (NoteOn c k velocity) (NoteOff c k velocity) ∷ [])
flag-reads true c k hc hk = note_on_reads c k velocity hc hk (omega arith)
flag-reads false c k hc hk = note_off_reads c k velocity hc hk (omega arith)

says-reads : (t : Places) (n : ℕ) → n < count_of_places → ReadsAs (spelled t n) (says t n ∷ [])
unfolding says
says-reads t n h = flag-reads (holds t n) (n / 128) (n % 128) (omega arith) (omega arith)

flag-hears : (on : Bool) (u : Places) (c k : ℕ) → hears u (cond on (NoteOn c k velocity) (NoteOff c k velocity)) ≡ put u c k on
flag-hears true u c k = refl
flag-hears false u c k = refl

says-hears : (t u : Places) (n : ℕ) → hears u (says t n) ≡ put u (n / 128) (n % 128) (holds t n)
unfolding says
says-hears t u n = flag-hears (holds t n) u (n / 128) (n % 128)

-- a receiver that hears the messages for some places agrees on them with what speaks
heard-agreed : (t u : Places) (ns : List ℕ) → heard u (map (says t) ns) ≡ agreed u t ns
heard-agreed t u [] = refl
heard-agreed t u (n ∷ ns) =
    ap (λ (v : Places). heard v (map (says t) ns)) (says-hears t u n) ∙ heard-agreed t (put u (n / 128) (n % 128) (holds t n)) ns

towards_push : (t s u : Places) (ms : List Message) (m : Message) → Towards t s ms u → Nearer t u (hears u m) → Towards t s (ms ++ m ∷ []) (hears u m)
towards_push t s u [] m e near =
    (subst (λ (v : Places). Nearer t v (hears v m)) e near, ap (λ (v : Places). hears v m) e)
towards_push t s u (k ∷ ms) m way near = (way.0, towards_push t (hears s k) u ms m way.1 near)

pub same_flags : (a b : Bool) → differ a b ≡ false → a ≡ b
same_flags true true e = refl
same_flags true false e = e
same_flags false true e = sym e
same_flags false false e = refl

module _ (s t : Places) (room : ℕ) where
  -- each place that is written is pending until then
  near : (n : ℕ) → differ (holds s n) (holds t n) ≡ true → Nearer t (agreed s t (written_below n s t room)) (hears (agreed s t (written_below n s t room)) (says t n))
  near n e =
      record {
        row = n / 128;
        place = n % 128;
        pending = ap (λ b. differ b (holds t n)) (ahead s t room n (n / 128) (n % 128) (omega arith) (omega arith)) ∙ e;
        one = says-hears t (agreed s t (written_below n s t room)) n;
      }

  Way : List ℕ → Type 0
  Way ns = Towards t s (map (says t) ns) (agreed s t ns)

  way-turn : (n : ℕ) → Turn s t room n → Way (written_below n s t room) → Way (written_below (n + 1) s t room)
  unfolding Way
  way-turn n (still d e) way = subst Way (sym e) way
  way-turn n (full d e) way = subst Way (sym e) way
  way-turn n (next d l e) way =
      let ns = written_below n s t room in
      subst Way (sym e) (subst (λ (x : List Message × Places). Towards t s x.0 x.1) (λ i. (sym (map_push (says t) ns n) i, (says-hears t (agreed s t ns) n ∙ sym (agreed-push s t ns n)) i)) (towards_push t s (agreed s t ns) (map (says t) ns) (says t n) way (near n d)))

  way-to : (n : ℕ) → Way (written_below n s t room)
  unfolding Way
  way-to zero = subst Way (sym (written_none s t room)) refl
  way-to (suc n) = subst (λ m. Way (written_below m s t room)) (add-one n) (way-turn n (turn s t room n) (way-to n))

  low_turn : (n : ℕ) → n < count_of_places → Turn s t room n → AllByRecursion (λ k. k < count_of_places) (written_below n s t room) → AllByRecursion (λ k. k < count_of_places) (written_below (n + 1) s t room)
  low_turn n h (still d e) so = subst (AllByRecursion (λ k. k < count_of_places)) (sym e) so
  low_turn n h (full d e) so = subst (AllByRecursion (λ k. k < count_of_places)) (sym e) so
  low_turn n h (next d l e) so = subst (AllByRecursion (λ k. k < count_of_places)) (sym e) (All-push (λ k. k < count_of_places) _ n so h)

  low : (n : ℕ) → n ≤ count_of_places → AllByRecursion (λ k. k < count_of_places) (written_below n s t room)
  low zero h = subst (AllByRecursion (λ k. k < count_of_places)) (sym (written_none s t room)) tt
  low (suc n) h =
      subst (λ m. AllByRecursion (λ k. k < count_of_places) (written_below m s t room)) (add-one n) (low_turn n (omega arith) (turn s t room n) (low n (omega arith)))

  -- while there is room, the places passed stand as they speak
  behind_put : (n r p : ℕ) (u : Places) → p < 128 → 128 * r + p < n + 1 → (128 * r + p < n → u r p ≡ t r p) → put u (n / 128) (n % 128) (holds t n) r p ≡ t r p
  behind_put n r p u hp h old =
      ⊎_elim
      (λ (e : 128 * r + p ≡ n).
      let row : n / 128 ≡ r = omega arith in
      let place : n % 128 ≡ p = omega arith in
      let there : holds t n ≡ t r p = λ i. t (row i) (place i) in
      grind (arith, nat_tests))
      (λ (ne : 128 * r + p ≡ n → ⊥).
      let below : 128 * r + p < n = omega arith in
      let was = old below in
      grind (arith, nat_tests))
      (cases_eq (128 * r + p) n)

  behind_still : (n r p : ℕ) → p < 128 → 128 * r + p < n + 1 → differ (holds s n) (holds t n) ≡ false → (128 * r + p < n → agreed s t (written_below n s t room) r p ≡ t r p) → agreed s t (written_below n s t room) r p ≡ t r p
  behind_still n r p hp h d old =
      ⊎_elim
      (λ (e : 128 * r + p ≡ n).
      let row : n / 128 ≡ r = omega arith in
      let place : n % 128 ≡ p = omega arith in
      let same : s r p ≡ t r p = (λ i. s (sym row i) (sym place i)) ∙ same_flags (holds s n) (holds t n) d ∙ (λ i. t (row i) (place i)) in
      ahead s t room n r p hp (omega arith) ∙ same)
      (λ (ne : 128 * r + p ≡ n → ⊥). old (omega arith))
      (cases_eq (128 * r + p) n)

  Behind : ℕ → Type 0
  Behind n =
      3 * length (written_below n s t room) + 3 ≤ room → (r p : ℕ) → p < 128 → 128 * r + p < n → agreed s t (written_below n s t room) r p ≡ t r p

  behind_turn : (n : ℕ) → Turn s t room n → Behind n → Behind (n + 1)
  unfolding Behind
  behind_turn n (still d e) so fits r p hp h =
      let same = ap (λ (ns : List ℕ). length ns) e in
      ap (λ ns. agreed s t ns r p) e ∙ behind_still n r p hp h d (so (omega arith) r p hp)
  behind_turn n (full d e) so fits r p hp h = let same = ap (λ (ns : List ℕ). length ns) e in absurd (omega arith)
  behind_turn n (next d l e) so fits r p hp h =
      ap (λ ns. agreed s t ns r p) e ∙ ap (λ (u : Places). u r p) (agreed-push s t (written_below n s t room) n)
      ∙ behind_put n r p (agreed s t (written_below n s t room)) hp h (so l r p hp)

  behind : (n : ℕ) → Behind n
  unfolding Behind
  behind zero = λ fits r p hp h. absurd (omega arith)
  behind (suc n) = subst Behind (add-one n) (behind_turn n (turn s t room n) (behind n))

  -- no message is for a place past a row's last
  beyond_put : (n r p : ℕ) (u : Places) (on : Bool) → 128 ≤ p → put u (n / 128) (n % 128) on r p ≡ u r p
  beyond_put n r p u on hp = grind (arith, nat_tests)

  beyond : (u : Places) (ns : List ℕ) (r p : ℕ) → 128 ≤ p → agreed u t ns r p ≡ u r p
  beyond u [] r p hp = refl
  beyond u (n ∷ ns) r p hp =
      beyond (put u (n / 128) (n % 128) (holds t n)) ns r p hp ∙ beyond_put n r p u (holds t n) hp

-- sets that hold no place outside a chest
abbrev pub Inside : Places → Type 0
Inside s = (r p : ℕ) → ((r < 16) × (p < 128) → ⊥) → s r p ≡ false

module _ (s t : Places) (room : ℕ) (in-s : Inside s) (in-t : Inside t) where
  all_agree : 3 * length (written_below count_of_places s t room) + 3 ≤ room → (r p : ℕ) → (drained s t room).sent r p ≡ t r p
  unfolding Behind
  all_agree fits r p =
      ⊎_elim
      (λ (hp : p < 128).
      ⊎_elim
      (λ (hr : r < 16). behind s t room count_of_places fits r p hp (omega arith))
      (λ (hr : 16 ≤ r).
      ahead s t room count_of_places r p hp (omega arith) ∙ in-s r p (λ w. let l = w.0 in omega arith) ∙ sym (in-t r p (λ w. let l = w.0 in omega arith)))
      (cases_lt r 16))
      (λ (hp : 128 ≤ p).
      beyond s t room s (written_below count_of_places s t room) r p hp ∙ in-s r p (λ w. let l = w.1 in omega arith) ∙ sym (in-t r p (λ w. let l = w.1 in omega arith)))
      (cases_lt p 128)

  stops : ((drained s t room).sent ≡ t) ⊎ (room < length (drained s t room).bytes + 3)
  stops =
      let long = length-spelled t (written_below count_of_places s t room) in
      ⊎_elim
      (λ (h : room < 3 * length (written_below count_of_places s t room) + 3). inr (omega arith))
      (λ (h : 3 * length (written_below count_of_places s t room) + 3 ≤ room). inl (λ i r p. all_agree h r p i))
      (cases_lt room (3 * length (written_below count_of_places s t room) + 3))

  messages : List Message
  messages = map (says t) (written_below count_of_places s t room)

  reads_all : ReadsAs (drained s t room).bytes messages
  unfolding messages
  reads_all =
      reads_joined (spelled t) (says t) (λ n. n < count_of_places) (says-reads t) (written_below count_of_places s t room) (low s t room count_of_places (omega arith))

  hears-line : (line : List ℕ) → notes_after line ≡ s → notes_after (line ++ (drained s t room).bytes) ≡ (drained s t room).sent
  unfolding messages
  hears-line line e =
      ap (heard none) (reads_all line) ∙ heard-append none (reading line) messages
      ∙ ap (λ (u : Places). heard u messages) e ∙ heard-agreed t s (written_below count_of_places s t room)

  pub drained-law : DrainLaw t s (drained s t room).sent room (drained s t room).bytes
  unfolding messages Way
  drained-law =
      record { has = hears-line; messages = messages; reads = reads_all; towards = way-to s t room count_of_places; stops = stops }

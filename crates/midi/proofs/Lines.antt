-- The reader's steps and the reading of the line: the messages handed out are the reading's.
use Rattle.std.proofs.Common.{◌≡◌, ℕ, ◌+◌, ◌<◌, true, false, ltb, ◌⊎◌, List, [], ◌∷◌, ◌++◌, map, length, get_or, take, Option, sym, refl, ap, ◌∙◌, subst, inl, inr, append_assoc, append-nil, arith}
use Rattle.std.specs.Option.{option_to_list}
use Rattle.std.proofs.lemmas.List.{take_more}
use Rattle.std.proofs.lemmas.Bool.{cases_Bool}
use Rattle.std.proofs.lemmas.Bool.Decides.{nat_tests}
use Rattle.midi.specs.declared.message.Message.{Message}
use Rattle.midi.specs.declared.state.State.{State}
use Rattle.midi.specs.declared.state.State.TheVariants.{Idle, OneByte, TwoBytes, Half}
use Rattle.midi.specs.Reading.{reading, first_status, first_real_time, without_real_time, leading_data, pairs, cut, format}
use Rattle.midi.specs.State.{short_message, long_message, running, data_step, step, handed, state_after, Feeds, CaughtUp}

-- what data bytes next on the line add to the message begun in a state
abbrev begun : State → List ℕ → List Message
begun Idle ds = []
begun (OneByte k c) ds = map (short_message k c) ds
begun (TwoBytes k c) ds = pairs (long_message k c) ds
begun (Half k c a) ds = pairs (long_message k c) (a ∷ ds)

begun-none : (s : State) → begun s [] ≡ []
begun-none Idle = refl
begun-none (OneByte k c) = refl
begun-none (TwoBytes k c) = refl
begun-none (Half k c a) = refl

-- a status byte puts the reader where its data bytes give what the table says
table : (b : ℕ) (ds : List ℕ) → begun (running b) ds ≡ cut (format b) ds
table b ds = grind (arith, nat_tests)

handed-append : (s : State) (xs ys : List ℕ) → handed s (xs ++ ys) ≡ handed s xs ++ handed (state_after s xs) ys
handed-append s [] ys = refl
handed-append s (x ∷ xs) ys = ap (λ l. option_to_list (step s x).0 ++ l) (handed-append (step s x).1 xs ys) ∙ sym (append_assoc (option_to_list (step s x).0) (handed (step s x).1 xs) (handed (state_after (step s x).1 xs) ys))

state_append : (s : State) (xs ys : List ℕ) → state_after s (xs ++ ys) ≡ state_after (state_after s xs) ys
state_append s [] ys = refl
state_append s (x ∷ xs) ys = state_append (step s x).1 xs ys

-- what a reader hands out from a state on: first what the message begun there comes to, then the reading of the bytes
abbrev ReadsOn : State → List ℕ → Type 0
ReadsOn s bs = handed s bs ≡ begun s (leading_data (without_real_time bs)) ++ reading bs

module _ (b : ℕ) (bs : List ℕ) (rest : (s : State) → ReadsOn s bs) where
  data_turn : (s : State) → option_to_list (data_step s b).0 ++ handed (data_step s b).1 bs ≡ begun s (b ∷ leading_data (without_real_time bs)) ++ reading bs
  data_turn Idle = rest Idle
  data_turn (OneByte k c) = ap (λ l. short_message k c b ∷ l) (rest (OneByte k c))
  data_turn (TwoBytes k c) = rest (Half k c b)
  data_turn (Half k c a) = ap (λ l. long_message k c a b ∷ l) (rest (TwoBytes k c))

  turn : (s : State) → (ltb b first_real_time ≡ true) ⊎ (ltb b first_real_time ≡ false) → (ltb b first_status ≡ true) ⊎ (ltb b first_status ≡ false) → ReadsOn s (b ∷ bs)
  turn s (inr r) d = simp r (rest s)
  turn s (inl r) (inl d) = simp (r, d) (data_turn s)
  turn s (inl r) (inr d) =
      simp (r, d, begun-none) (rest (running b) ∙ ap (λ l. l ++ reading bs) (table b (leading_data (without_real_time bs))))

read_on : (s : State) (bs : List ℕ) → ReadsOn s bs
read_on s [] = sym (ap (λ l. l ++ []) (begun-none s))
read_on s (b ∷ bs) =
    turn b bs (λ t. read_on t bs) s (cases_Bool (ltb b first_real_time)) (cases_Bool (ltb b first_status))

-- a new reader hands out the reading
handed-reading : (bs : List ℕ) → handed Idle bs ≡ reading bs
handed-reading bs = read_on Idle bs

-- what is handed out after a line is what the bytes add to its reading
pub reading-append : (line bs : List ℕ) → reading (line ++ bs) ≡ reading line ++ handed (state_after Idle line) bs
reading-append line bs =
    sym (handed-reading (line ++ bs)) ∙ handed-append Idle line bs ∙ ap (λ l. l ++ handed (state_after Idle line) bs) (handed-reading line)

-- the steps over a list of bytes keep the law
pub feeds_bytes : (s : State) (bs : List ℕ) → Feeds s bs (handed s bs) (state_after s bs)
feeds_bytes s bs =
    record {
      reads = λ line e. ap (λ t. state_after t bs) e ∙ sym (state_append Idle line bs);
      adds = λ line e. reading-append line bs ∙ ap (λ t. reading line ++ handed t bs) (sym e);
    }

-- and so does one step
one_step : (s : State) (b : ℕ) → Feeds s (b ∷ []) (option_to_list (step s b).0) (step s b).1
one_step s b = subst (λ l. Feeds s (b ∷ []) l (step s b).1) (append-nil (option_to_list (step s b).0)) (feeds_bytes s (b ∷ []))

pub feeds_step : (s t : State) (b : ℕ) (m : Option Message) → (m, t) ≡ step s b → Feeds s (b ∷ []) (option_to_list m) t
feeds_step s t b m e =
    subst (λ (p : Option Message × State). Feeds s (b ∷ []) (option_to_list p.0) p.1) (sym e) (one_step s b)

-- one byte more of a list that is fed: the state is the one after it, and what was handed out grows by its message
module _ (s t : State) (bs : List ℕ) (i : ℕ) (h : i < length bs) (so_far : t ≡ state_after s (take i bs)) where
  pub state_more : (step t (get_or bs i 0)).1 ≡ state_after s (take (i + 1) bs)
  state_more =
      ap (λ v. (step v (get_or bs i 0)).1) so_far ∙ sym (state_append s (take i bs) (get_or bs i 0 ∷ [])) ∙ sym (ap (state_after s) (take_more bs i 0 h))

  pub handed-more : handed s (take (i + 1) bs) ≡ handed s (take i bs) ++ option_to_list (step t (get_or bs i 0)).0
  handed-more =
      ap (handed s) (take_more bs i 0 h) ∙ handed-append s (take i bs) (get_or bs i 0 ∷ []) ∙ ap (λ v. handed s (take i bs) ++ handed v (get_or bs i 0 ∷ [])) (sym so_far) ∙ ap (λ l. handed s (take i bs) ++ l) (append-nil (option_to_list (step t (get_or bs i 0)).0))

-- a list that held old and then some, with more behind it
pub grown : (old some more : List Message) {all new some_more : List Message} → all ≡ old ++ some → new ≡ all ++ more → some_more ≡ some ++ more → new ≡ old ++ some_more
grown old some more e f g = f ∙ ap (λ l. l ++ more) e ∙ append_assoc old some more ∙ ap (λ l. old ++ l) (sym g)

-- whatever a reader and a list of messages have caught up with, they have caught up with what is fed after it
pub catches_up : (s t : State) (bs : List ℕ) (m out new : List Message) → Feeds s bs m t → new ≡ out ++ m → (old : List Message) (line : List ℕ) → CaughtUp old line s out → CaughtUp old (line ++ bs) t new
catches_up s t bs m out new f e old line u =
    record { state = f.reads line u.state; items = grown old (reading line) m u.items e (f.adds line u.state) }

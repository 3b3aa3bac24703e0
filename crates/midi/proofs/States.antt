-- The states of a reader: each that is sound is one that some line leads to, and every step keeps to them.
use Rattle.std.proofs.Common.{◌≡◌, ℕ, ◌+◌, ◌<◌, true, false, ltb, ◌⊎◌, List, [], ◌∷◌, ◌++◌, IfSome, Some, None, Option, sym, refl, ap, ◌∙◌, subst, inl, inr, arith}
use Rattle.std.specs.Option.{option_to_list}
use Rattle.std.specs.List.{AllByRecursion}
use Rattle.std.proofs.lemmas.Bool.{ltb-true, and_parts, cases_Bool}
use Rattle.std.proofs.lemmas.Bool.Decides.{nat_tests}
use Rattle.midi.specs.declared.message.Message.{Message}
use Rattle.midi.specs.declared.state.Short.{Short}
use Rattle.midi.specs.declared.state.Short.TheVariants as short
use Rattle.midi.specs.declared.state.Long.{Long}
use Rattle.midi.specs.declared.state.Long.TheVariants as long
use Rattle.midi.specs.declared.state.State.{State}
use Rattle.midi.specs.declared.state.State.TheVariants.{Idle, OneByte, TwoBytes, Half}
use Rattle.midi.specs.Reading.{first_status, first_real_time, InRange}
use Rattle.midi.specs.State.{short_message, long_message, data_step, step, handed, sound, HasRead}

-- the status byte of a kind on a channel
abbrev short_status : Short → ℕ → ℕ
short_status short.Program c = 0xc0 + c
short_status short.ChannelPressure c = 0xd0 + c

abbrev long_status : Long → ℕ → ℕ
long_status long.NoteOff c = 0x80 + c
long_status long.NoteOn c = 0x90 + c
long_status long.KeyPressure c = 0xa0 + c
long_status long.Controller c = 0xb0 + c
long_status long.Bend c = 0xe0 + c

short_line : (k : Short) (c : ℕ) → sound (OneByte k c) ≡ true → HasRead (OneByte k c) (short_status k c ∷ [])
short_line short.Program c h = grind (arith, nat_tests)
short_line short.ChannelPressure c h = grind (arith, nat_tests)

long_line : (k : Long) (c : ℕ) → sound (TwoBytes k c) ≡ true → HasRead (TwoBytes k c) (long_status k c ∷ [])
long_line long.NoteOff c h = grind (arith, nat_tests)
long_line long.NoteOn c h = grind (arith, nat_tests)
long_line long.KeyPressure c h = grind (arith, nat_tests)
long_line long.Controller c h = grind (arith, nat_tests)
long_line long.Bend c h = grind (arith, nat_tests)

half_line : (k : Long) (c a : ℕ) → sound (Half k c a) ≡ true → HasRead (Half k c a) (long_status k c ∷ a ∷ [])
half_line k c a h = held ∙ ap (λ t. (step t a).1) (long_line k c (and_parts (ltb c 16) (ltb a first_status) h).0) where
  held : Half k c a ≡ (step (TwoBytes k c) a).1
  held = grind (arith, nat_tests)

-- a line that leads a new reader to a sound state
pub line_to : (s : State) → sound s ≡ true → (line : List ℕ) × HasRead s line
line_to Idle h = ([], refl)
line_to (OneByte k c) h = (short_status k c ∷ [], short_line k c h)
line_to (TwoBytes k c) h = (long_status k c ∷ [], long_line k c h)
line_to (Half k c a) h = (long_status k c ∷ a ∷ [], half_line k c a h)

sound-step : (s : State) (b : ℕ) → sound s ≡ true → sound (step s b).1 ≡ true
sound-step Idle b h = grind (arith, nat_tests)
sound-step (OneByte k c) b h = grind (arith, nat_tests)
sound-step (TwoBytes k c) b h = grind (arith, nat_tests)
sound-step (Half k c a) b h = grind (arith, nat_tests)

-- what a sound state hands out is in MIDI's range
short_range : (k : Short) (c b : ℕ) → c < 16 → b < 128 → InRange (short_message k c b)
short_range short.Program c b h g = (h, g)
short_range short.ChannelPressure c b h g = (h, g)

long_range : (k : Long) (c a b : ℕ) → c < 16 → a < 128 → b < 128 → InRange (long_message k c a b)
long_range long.NoteOff c a b h f g = (h, f, g)
long_range long.NoteOn c a b h f g = (h, f, g)
long_range long.KeyPressure c a b h f g = (h, f, g)
long_range long.Controller c a b h f g = (h, f, g)
long_range long.Bend c a b h f g = (h, omega arith)

data_range : (s : State) (b : ℕ) → sound s ≡ true → b < 128 → IfSome (data_step s b).0 InRange
data_range Idle b h g = tt
data_range (OneByte k c) b h g = short_range k c b (ltb-true c 16 h) g
data_range (TwoBytes k c) b h g = tt
data_range (Half k c a) b h g =
    let both = and_parts (ltb c 16) (ltb a first_status) h in
    long_range k c a b (ltb-true c 16 both.0) (ltb-true a first_status both.1) g

range_step : (s : State) (b : ℕ) → sound s ≡ true → IfSome (step s b).0 InRange
range_step s b h = by (cases_Bool (ltb b first_real_time)) (cases_Bool (ltb b first_status)) where
  by : (ltb b first_real_time ≡ true) ⊎ (ltb b first_real_time ≡ false) → (ltb b first_status ≡ true) ⊎ (ltb b first_status ≡ false) → IfSome (step s b).0 InRange
  by (inr r) d = simp r tt
  by (inl r) (inr d) = simp (r, d) tt
  by (inl r) (inl d) = simp (r, d) (data_range s b h (ltb-true b first_status d))

-- the same of a step that was taken
pub fed_range : (s t : State) (b : ℕ) (m : Option Message) → (m, t) ≡ step s b → sound s ≡ true → IfSome m InRange
fed_range s t b m e h =
    subst (λ (p : Option Message × State). IfSome p.0 InRange) (sym e) (range_step s b h)

one_more : (m : Option Message) (ms : List Message) → IfSome m InRange → AllByRecursion InRange ms → AllByRecursion InRange (option_to_list m ++ ms)
one_more None ms h g = g
one_more (Some x) ms h g = (h, g)

pub handed-range : (s : State) (bs : List ℕ) → sound s ≡ true → AllByRecursion InRange (handed s bs)
handed-range s [] h = tt
handed-range s (b ∷ bs) h =
    one_more (step s b).0 (handed (step s b).1 bs) (range_step s b h) (handed-range (step s b).1 bs (sound-step s b h))

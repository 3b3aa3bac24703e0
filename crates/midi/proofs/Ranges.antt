-- The messages that a line can say are those in range.
use Rattle.std.proofs.Common.{◌≡◌, ℕ, ◌+◌, ◌*◌, ◌/◌, ◌%◌, ◌<◌, List, [], ◌∷◌, sym, refl, ◌∙◌, subst, arith}
use Rattle.std.specs.List.{AllByRecursion}
use Rattle.midi.specs.declared.message.Message.{Message}
use Rattle.midi.specs.declared.message.Message.TheVariants.{NoteOff, NoteOn, KeyPressure, Controller, Program, ChannelPressure, Bend}
use Rattle.midi.specs.declared.state.State.TheVariants.{Idle}
use Rattle.midi.specs.Reading.{reading, InRange}
use Rattle.midi.specs.RunningStatus.{TwoByTwo, OneByOne}
use Rattle.midi.specs.Ranges.{RangeLaw}
use Rattle.midi.proofs.StatusBytes.{reading-handed}
use Rattle.midi.proofs.RunningStatus.{kinds_law}
use Rattle.midi.proofs.States.{handed-range}

-- a line of bytes that is read as one message alone
abbrev Said : Message → Type 0
Said m = (line : List ℕ) × AllByRecursion (λ b. b < 0x100) line × (reading line ≡ m ∷ [])

two_said : (status a b : ℕ) (says : ℕ → ℕ → Message) → TwoByTwo reading status says → status < 0x100 → a < 0x80 → b < 0x80 → Said (says a b)
two_said status a b says t s d e =
    (status ∷ a ∷ b ∷ [], (s, (omega arith, (omega arith, tt))), t.pairs [] ((a, b) ∷ []) ((d, e), tt))

one_said : (status a : ℕ) (says : ℕ → Message) → OneByOne reading status says → status < 0x100 → a < 0x80 → Said (says a)
one_said status a says t s d = (status ∷ a ∷ [], (s, (omega arith, tt)), t [] (a ∷ []) (d, tt))

said : (m : Message) → InRange m → Said m
said (NoteOff c k v) h = two_said (0x80 + c) k v (NoteOff c) (kinds_law.note_off c h.0) (omega (arith, h.0)) h.1 h.2
said (NoteOn c k v) h = two_said (0x90 + c) k v (NoteOn c) (kinds_law.note_on c h.0) (omega (arith, h.0)) h.1 h.2
said (KeyPressure c k p) h = two_said (0xa0 + c) k p (KeyPressure c) (kinds_law.key_pressure c h.0) (omega (arith, h.0)) h.1 h.2
said (Controller c n v) h = two_said (0xb0 + c) n v (Controller c) (kinds_law.controller c h.0) (omega (arith, h.0)) h.1 h.2
said (Program c p) h = one_said (0xc0 + c) p (Program c) (kinds_law.program c h.0) (omega (arith, h.0)) h.1
said (ChannelPressure c p) h = one_said (0xd0 + c) p (ChannelPressure c) (kinds_law.channel_pressure c h.0) (omega (arith, h.0)) h.1
said (Bend c v) h =
    let whole : v % 128 + 128 * (v / 128) ≡ v = omega arith in
    subst (λ x. Said (Bend c x)) whole (two_said (0xe0 + c) (v % 128) (v / 128) (λ low high. Bend c (low + 128 * high)) (kinds_law.bend c h.0) (omega (arith, h.0)) (omega arith) (omega (arith, h.1)))

pub range_law : RangeLaw
range_law m =
    (said m, λ w. (subst (AllByRecursion InRange) (sym (reading-handed w.0) ∙ w.2) (handed-range Idle w.0 refl)).0)

-- Whole recitals, from the text of a book and the bytes of a MIDI line to the listing. Assumes nothing.
use Rattle.std.specs.Prelude.{◌≡◌, ℕ, List, [], ◌∷◌, codes}
use Rattle.midi.specs.declared.message.Message.{Message}
use Rattle.midi.specs.declared.message.Message.TheVariants.{NoteOff, NoteOn, KeyPressure, Controller, Program, ChannelPressure, Bend}
use Rattle.midi.specs.Reading.{reading}
use Rattle.recital.specs.Listings.{listing_of}
use Rattle.cases.specs.SecondOrgan.{second_book, offered, expected}

-- one division with a coupler an octave above, a stop of two pitches, a piston over both knobs, and a sustain
abbrev pub small_book : List ℕ
small_book = codes "(keys 2 61)\n(rank 1 73)\n(knob 3 3 0)\n(knob 8 2 0)\n(piston 4 3 8)\n\n(wire 1 2 0 60 2 0 64 0)\n(wire 1 2 0 48 2 12 8 1)\n\n(wire 2 2 0 60 1 0 3 1)\n(wire 2 2 0 60 1 12 3 2)\n"

abbrev pub small_line : List ℕ
small_line =
    0xbf ∷ 0x03 ∷ 0x01 ∷ 0x92 ∷ 0x30 ∷ 0x40 ∷ 0xbf ∷ 0x08 ∷ 0x01 ∷ 0x9f ∷ 0x04 ∷ 0x40 ∷ 0xb2 ∷ 0x40 ∷ 0x7f ∷ 0x82 ∷ 0x30 ∷ 0x40 ∷ 0xbf ∷ 0x03 ∷ 0x02 ∷ 0x9f ∷ 0x7f ∷ 0x40 ∷ 0xcf ∷ 0x04 ∷ 0xb2 ∷ 0x40 ∷ 0x00 ∷ 0x92 ∷ 0x30 ∷ 0x40 ∷ 0x33 ∷ 0x40 ∷ 0xb2 ∷ 0x7b ∷ 0x00 ∷ 0x82 ∷ 0x30 ∷ 0x40 ∷ 0x92 ∷ 0x61 ∷ 0x40 ∷ 0x92 ∷ 0x14 ∷ 0x40 ∷ []

abbrev pub small_listing : List ℕ
small_listing = codes "(done 0)\n(done 1)\n(done 1)\n(done 0)\n(done 0)\n(done 0)\n(done 2)\n(done 2)\n(done 2)\n(done 2)\n(done 2)\n(done 2)\n(done 4)\n(fault 4)\n(fault 2)\n(fault 2)\n"

-- one division and one stop: a key is pressed, lifted, and lifted again
abbrev pub one_stop_book : List ℕ
one_stop_book = codes "(keys 0 61)\n(rank 0 73)\n(knob 0 2 0)\n\n(wire 1 0 0 60 0 0 64 0)\n\n(wire 2 0 0 60 0 0 0 1)\n"

abbrev pub one_stop_line : List ℕ
one_stop_line = 0xbf ∷ 0x00 ∷ 0x01 ∷ 0x90 ∷ 0x24 ∷ 0x40 ∷ 0x80 ∷ 0x24 ∷ 0x40 ∷ 0x24 ∷ 0x40 ∷ []

abbrev pub one_stop_listing : List ℕ
one_stop_listing = codes "(done 0)\n(done 1)\n(done 1)\n(fault 4)\n"

-- each status on the channels 0 and 15, with a message more by running status, and then system bytes
abbrev pub every_status : List ℕ
every_status =
    0x80 ∷ 0x01 ∷ 0x02 ∷ 0x8f ∷ 0x03 ∷ 0x04 ∷ 0x05 ∷ 0x06 ∷ 0x90 ∷ 0x07 ∷ 0x08 ∷ 0x9f ∷ 0x09 ∷ 0x0a ∷ 0x0b ∷ 0x00 ∷ 0xa0 ∷ 0x0c ∷ 0x0d ∷ 0xaf ∷ 0x0e ∷ 0x0f ∷ 0x10 ∷ 0x11 ∷ 0xb0 ∷ 0x12 ∷ 0x13 ∷ 0xbf ∷ 0x14 ∷ 0x15 ∷ 0x16 ∷ 0x17 ∷ 0xc0 ∷ 0x18 ∷ 0x19 ∷ 0xcf ∷ 0x1a ∷ 0xd0 ∷ 0x1b ∷ 0x1c ∷ 0xdf ∷ 0x1d ∷ 0xe0 ∷ 0x01 ∷ 0x02 ∷ 0xef ∷ 0x03 ∷ 0x04 ∷ 0x7f ∷ 0x7f ∷ 0xf0 ∷ 0x7f ∷ 0x7f ∷ 0xf7 ∷ 0x7f ∷ 0x7f ∷ []

abbrev pub every_kind : List Message
every_kind =
    NoteOff 0 1 2 ∷ NoteOff 15 3 4 ∷ NoteOff 15 5 6 ∷ NoteOn 0 7 8 ∷ NoteOn 15 9 10 ∷ NoteOn 15 11 0 ∷ KeyPressure 0 12 13 ∷ KeyPressure 15 14 15 ∷ KeyPressure 15 16 17 ∷ Controller 0 18 19 ∷ Controller 15 20 21 ∷ Controller 15 22 23 ∷ Program 0 24 ∷ Program 0 25 ∷ Program 15 26 ∷ ChannelPressure 0 27 ∷ ChannelPressure 0 28 ∷ ChannelPressure 15 29 ∷ Bend 0 257 ∷ Bend 15 515 ∷ Bend 15 16383 ∷ []

pub record RecitalCases : Type 0 where
  -- the book, the line and the listing, byte for byte
  pub small_organ : listing_of small_book small_line ≡ small_listing
  -- the same of a smaller one
  pub one_stop : listing_of one_stop_book one_stop_line ≡ one_stop_listing
  -- two coupled divisions, every kind of message, and every fault of a call that a line can bring
  pub second_organ : listing_of second_book offered ≡ expected
  -- what MIDI reads from each kind of status
  pub kinds : reading every_status ≡ every_kind

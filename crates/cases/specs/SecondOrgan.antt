-- A second organ, and a recital on it: two divisions that are coupled, two ranks that share stops. Each row of the recital
-- has bytes of the MIDI line and the lines of the listing that they bring. Assumes nothing.
use Rattle.std.specs.Prelude.{ℕ, List, [], ◌∷◌, ◌++◌, codes}
use Rattle.std.specs.List.{flat_map}

-- the book: its forms in no order, two lines that are empty, and two wires that are never live, since knob 50 is not defined
-- and knob 20 has no position 2
abbrev pub second_book : List ℕ
second_book =
    codes "(wire 2 2 1 48 3 -2 14 2)\n" ++
    codes "\n" ++
    codes "(rank 7 33)\n" ++
    codes "(knob 14 3 2)\n" ++
    codes "(keys 5 44)\n" ++
    codes "(wire 1 2 4 47 2 0 64 0)\n" ++
    codes "(wire 1 5 2 43 5 0 64 7)\n" ++
    codes "(piston 6 9 20)\n" ++
    codes "(wire 2 5 3 42 7 -7 9 2)\n" ++
    codes "(knob 9 4 1)\n" ++
    codes "(keys 2 49)\n" ++
    codes "\n" ++
    codes "(wire 1 2 6 40 5 12 20 1)\n" ++
    codes "(rank 3 53)\n" ++
    codes "(knob 20 2 0)\n" ++
    codes "(wire 2 5 9 41 3 19 9 3)\n" ++
    codes "(knob 33 5 4)\n" ++
    codes "(wire 1 5 25 39 5 -12 33 3)\n" ++
    codes "(piston 39 33 63)\n" ++
    codes "(wire 2 2 8 44 3 10 63 15)\n" ++
    codes "(knob 63 16 6)\n" ++
    codes "(wire 2 2 30 45 7 -24 48 0)\n" ++
    codes "(wire 2 2 5 46 3 1 50 1)\n" ++
    codes "(wire 2 5 4 38 3 6 20 2)\n" ++
    codes "(piston 17 21 32)\n"

-- keys of division 2 while knob 14 stands at its home 2; two wires wait for knobs that no form defines, one at position 0, which is live, and one at 1, which never is
abbrev pub pressing : List (List ℕ × List ℕ)
pressing =
    -- data before the first status
    (0x24 ∷ 0x40 ∷ [], []) ∷
    -- key 8 leads to pipe 6 of rank 3
    (0x92 ∷ 0x2c ∷ 0x40 ∷ [], codes "(done 1)\n") ∷
    -- key 3 lies below the coupler, which takes the keys 4 to 47
    (0x27 ∷ 0x01 ∷ [], codes "(done 0)\n") ∷
    -- key 4: pipe 2 of rank 3
    (0x28 ∷ 0x7f ∷ [], codes "(done 1)\n") ∷
    -- key 47: pipe 45 of rank 3
    (0x53 ∷ 0x40 ∷ [], codes "(done 1)\n") ∷
    -- key 48, the last of the division, lies above the coupler
    (0x54 ∷ 0x40 ∷ [], codes "(done 0)\n") ∷
    -- there is no key 49
    (0x55 ∷ 0x40 ∷ [], codes "(fault 2)\n") ∷
    -- note 35 is no key
    (0x23 ∷ 0x40 ∷ [], codes "(fault 2)\n") ∷
    -- note 36 is key 0
    (0x24 ∷ 0x40 ∷ [], codes "(done 0)\n") ∷
    -- key 4 is down
    (0x28 ∷ 0x40 ∷ [], codes "(fault 3)\n") ∷
    -- with velocity 0 it is lifted
    (0x28 ∷ 0x00 ∷ [], codes "(done 1)\n") ∷
    -- and is not down then
    (0x28 ∷ 0x00 ∷ [], codes "(fault 4)\n") ∷
    -- key 45: pipe 43 of rank 3 and pipe 21 of rank 7
    (0x51 ∷ 0x40 ∷ [], codes "(done 2)\n") ∷
    -- key 46: pipe 44 of rank 3 alone, since the other wire ends at 45
    (0x52 ∷ 0x40 ∷ [], codes "(done 1)\n") ∷
    -- key 29: pipe 27 of rank 3 alone, since the other wire begins at 30
    (0x41 ∷ 0x40 ∷ [], codes "(done 1)\n") ∷
    -- key 30: pipe 28 of rank 3 and pipe 6 of rank 7
    (0x42 ∷ 0x40 ∷ [], codes "(done 2)\n") ∷
    []

-- the same keys lifted by note offs, but for key 8
abbrev pub lifting : List (List ℕ × List ℕ)
lifting =
    -- key 47
    (0x82 ∷ 0x53 ∷ 0x40 ∷ [], codes "(done 1)\n") ∷
    -- key 48
    (0x54 ∷ 0x40 ∷ [], codes "(done 0)\n") ∷
    -- key 45
    (0x51 ∷ 0x40 ∷ [], codes "(done 2)\n") ∷
    -- key 46
    (0x52 ∷ 0x00 ∷ [], codes "(done 1)\n") ∷
    -- key 29
    (0x41 ∷ 0x40 ∷ [], codes "(done 1)\n") ∷
    -- key 30
    (0x42 ∷ 0x40 ∷ [], codes "(done 2)\n") ∷
    -- key 0
    (0x24 ∷ 0x40 ∷ [], codes "(done 0)\n") ∷
    -- key 3
    (0x27 ∷ 0x40 ∷ [], codes "(done 0)\n") ∷
    -- key 3 is not down any more
    (0x27 ∷ 0x40 ∷ [], codes "(fault 4)\n") ∷
    -- note 35 is no key
    (0x23 ∷ 0x40 ∷ [], codes "(fault 2)\n") ∷
    -- there is no key 49
    (0x55 ∷ 0x40 ∷ [], codes "(fault 2)\n") ∷
    []

-- messages that ask for nothing, and those of divisions that the book does not name
abbrev pub idle : List (List ℕ × List ℕ)
idle =
    -- division 3 has no keys to press
    (0x93 ∷ 0x30 ∷ 0x40 ∷ [], codes "(fault 2)\n") ∷
    -- nor to lift
    (0x30 ∷ 0x00 ∷ [], codes "(fault 2)\n") ∷
    -- nor has division 0
    (0x90 ∷ 0x24 ∷ 0x40 ∷ [], codes "(fault 2)\n") ∷
    -- nor division 14
    (0x9e ∷ 0x24 ∷ 0x40 ∷ [], codes "(fault 2)\n") ∷
    -- note offs of channel 15
    (0x8f ∷ 0x06 ∷ 0x40 ∷ 0x28 ∷ 0x40 ∷ [], []) ∷
    -- note ons of channel 15 with velocity 0
    (0x9f ∷ 0x06 ∷ 0x00 ∷ 0x7f ∷ 0x00 ∷ [], []) ∷
    -- key pressures
    (0xa2 ∷ 0x2c ∷ 0x40 ∷ 0x38 ∷ 0x40 ∷ [], []) ∷
    -- channel pressures
    (0xd2 ∷ 0x40 ∷ 0x41 ∷ [], []) ∷
    -- bends
    (0xe2 ∷ 0x00 ∷ 0x40 ∷ 0x7f ∷ 0x7f ∷ [], []) ∷
    -- programs of a division
    (0xc2 ∷ 0x06 ∷ 0x27 ∷ [], []) ∷
    -- and of another
    (0xc0 ∷ 0x40 ∷ 0x40 ∷ [], []) ∷
    -- the last of the key pressures
    (0xaf ∷ 0x7b ∷ 0x00 ∷ [], []) ∷
    -- and the first
    (0xa0 ∷ 0x24 ∷ 0x40 ∷ [], []) ∷
    -- controllers of a division that are neither 64 nor 123
    (0xb2 ∷ 0x07 ∷ 0x40 ∷ 0x79 ∷ 0x00 ∷ [], []) ∷
    -- controllers of channel 15 from 64 on
    (0xbf ∷ 0x40 ∷ 0x7f ∷ 0x7b ∷ 0x00 ∷ [], []) ∷
    -- division 0 has a sustain all the same
    (0xb0 ∷ 0x40 ∷ 0x7f ∷ [], codes "(done 0)\n") ∷
    -- and division 3 can be cleared
    (0xb3 ∷ 0x7b ∷ 0x00 ∷ [], codes "(done 0)\n") ∷
    []

-- bytes that are no part of a message
abbrev pub between : List (List ℕ × List ℕ)
between =
    -- real-time bytes stand in the press of key 20, which leads to pipe 18 of rank 3
    (0x92 ∷ 0xf8 ∷ 0x38 ∷ 0xfe ∷ 0x40 ∷ [], codes "(done 1)\n") ∷
    -- after a system byte data are nothing
    (0xf7 ∷ 0x38 ∷ 0x40 ∷ 0x38 ∷ 0x00 ∷ [], []) ∷
    -- a press that is begun is dropped at the status of the lift
    (0x92 ∷ 0x38 ∷ 0x82 ∷ 0x38 ∷ 0x40 ∷ [], codes "(done 1)\n") ∷
    []

-- knobs turned over key 8, which is down, and turns that are refused
abbrev pub turning : List (List ℕ × List ℕ)
turning =
    -- knob 9 to 2 draws division 5 on rank 7, and no key of it sounds
    (0xbf ∷ 0x09 ∷ 0x02 ∷ [], codes "(done 0)\n") ∷
    -- knob 63 to 15, its last position: pipe 18 of rank 3, an octave above pipe 6
    (0x3f ∷ 0x0f ∷ [], codes "(done 1)\n") ∷
    -- knob 20 to 1 couples key 8 to key 20 of division 5: pipe 13 of rank 7
    (0x14 ∷ 0x01 ∷ [], codes "(done 1)\n") ∷
    -- it has two steps
    (0x14 ∷ 0x02 ∷ [], codes "(fault 6)\n") ∷
    -- knob 10 is not defined
    (0x0a ∷ 0x00 ∷ [], codes "(fault 5)\n") ∷
    -- which is said before its position
    (0x0a ∷ 0x10 ∷ [], codes "(fault 5)\n") ∷
    -- knob 9 has four steps
    (0x09 ∷ 0x04 ∷ [], codes "(fault 6)\n") ∷
    -- knob 14 has three
    (0x0e ∷ 0x03 ∷ [], codes "(fault 6)\n") ∷
    []

-- keys that share pipes by two stops and by the coupler
abbrev pub sharing : List (List ℕ × List ℕ)
sharing =
    -- key 20: pipe 18 of rank 3 speaks already, 30 and pipe 25 of rank 7 start
    (0x92 ∷ 0x38 ∷ 0x40 ∷ [], codes "(done 2)\n") ∷
    -- key 8 is lifted: pipe 18 speaks on by key 20, pipe 6 and pipe 13 of rank 7 stop
    (0x82 ∷ 0x2c ∷ 0x40 ∷ [], codes "(done 2)\n") ∷
    -- key 32 of division 5 leads to pipe 25 of rank 7, which speaks already
    (0x95 ∷ 0x44 ∷ 0x40 ∷ [], codes "(done 0)\n") ∷
    -- key 20 is lifted: that pipe speaks on, and 18 and 30 of rank 3 stop
    (0x82 ∷ 0x38 ∷ 0x40 ∷ [], codes "(done 2)\n") ∷
    []

-- keys at the ends of wires and rows while all three knobs are drawn
abbrev pub edges : List (List ℕ × List ℕ)
edges =
    -- key 5 lies below the octave coupler, which takes the keys 6 to 40
    (0x92 ∷ 0x29 ∷ 0x40 ∷ [], codes "(done 1)\n") ∷
    -- key 6: pipe 4 of rank 3, and by key 18 of division 5 pipe 11 of rank 7
    (0x2a ∷ 0x40 ∷ [], codes "(done 2)\n") ∷
    -- key 7 lies below the octave stop, which takes the keys 8 to 44
    (0x2b ∷ 0x40 ∷ [], codes "(done 2)\n") ∷
    -- key 41 lies above the coupler: pipes 39 and 51 of rank 3, and 17 of rank 7
    (0x4d ∷ 0x40 ∷ [], codes "(done 3)\n") ∷
    -- key 40 would lead to key 52 of division 5, past its 44 keys
    (0x4c ∷ 0x40 ∷ [], codes "(done 3)\n") ∷
    -- key 31 leads to its last key 43, which lies above its stop
    (0x43 ∷ 0x40 ∷ [], codes "(done 3)\n") ∷
    -- key 30 leads by its key 42 to pipe 35, past the 33 pipes of rank 7
    (0x42 ∷ 0x40 ∷ [], codes "(done 3)\n") ∷
    -- key 27 leads to pipe 32 of rank 7, the last
    (0x3f ∷ 0x40 ∷ [], codes "(done 3)\n") ∷
    -- key 28 leads past it: pipe 26 of rank 3 starts, and 38 speaks already
    (0x40 ∷ 0x40 ∷ [], codes "(done 1)\n") ∷
    -- key 43: pipe 53 is past rank 3, 41 speaks already, and pipe 19 of rank 7 starts
    (0x4f ∷ 0x40 ∷ [], codes "(done 1)\n") ∷
    -- key 42: pipe 52 of rank 3 is the last, 40 speaks already, and pipe 18 of rank 7 starts
    (0x4e ∷ 0x40 ∷ [], codes "(done 2)\n") ∷
    -- key 44, the last of the octave stop: pipe 42 of rank 3 and pipe 20 of rank 7
    (0x50 ∷ 0x40 ∷ [], codes "(done 2)\n") ∷
    -- clear of division 2: just pipe 25 of rank 7 speaks on
    (0xb2 ∷ 0x7b ∷ 0x00 ∷ [], codes "(done 26)\n") ∷
    []

-- a coupler of division 5 to itself, an octave below, and stops that are swapped
abbrev pub leading : List (List ℕ × List ℕ)
leading =
    -- knob 33 to 3: key 32 leads to key 20 too, pipe 13 of rank 7
    (0xbf ∷ 0x21 ∷ 0x03 ∷ [], codes "(done 1)\n") ∷
    -- key 24 lies below that coupler, which takes the keys 25 to 39
    (0x95 ∷ 0x3c ∷ 0x40 ∷ [], codes "(done 1)\n") ∷
    -- key 25: pipe 18, and by key 13 pipe 6
    (0x3d ∷ 0x40 ∷ [], codes "(done 2)\n") ∷
    -- key 39: pipe 32, and by key 27 pipe 20
    (0x4b ∷ 0x40 ∷ [], codes "(done 2)\n") ∷
    -- key 40: pipe 33 is past the rank
    (0x4c ∷ 0x40 ∷ [], codes "(done 0)\n") ∷
    -- key 4 would lead to a pipe below 0
    (0x28 ∷ 0x40 ∷ [], codes "(done 0)\n") ∷
    -- key 6 too
    (0x2a ∷ 0x40 ∷ [], codes "(done 0)\n") ∷
    -- key 7: pipe 0
    (0x2b ∷ 0x40 ∷ [], codes "(done 1)\n") ∷
    -- key 1 lies below the division's own coupler
    (0x25 ∷ 0x40 ∷ [], codes "(done 0)\n") ∷
    -- key 43, the last of the division, lies above its stop
    (0x4f ∷ 0x40 ∷ [], codes "(done 0)\n") ∷
    -- there is no key 44
    (0x50 ∷ 0x40 ∷ [], codes "(fault 2)\n") ∷
    -- key 22 of division 2 leads to key 34 of division 5, and from there no further
    (0x92 ∷ 0x3a ∷ 0x40 ∷ [], codes "(done 3)\n") ∷
    -- knob 9 to 3 swaps rank 7 for rank 3: nine pipes stop, five start, and 32 of rank 3 speaks on
    (0xbf ∷ 0x09 ∷ 0x03 ∷ [], codes "(done 14)\n") ∷
    -- knob 9 to 1: those five stop
    (0x09 ∷ 0x01 ∷ [], codes "(done 5)\n") ∷
    -- clear of division 5
    (0xb5 ∷ 0x7b ∷ 0x7f ∷ [], codes "(done 0)\n") ∷
    -- knob 9 to 2: key 22 by key 34 of division 5
    (0xbf ∷ 0x09 ∷ 0x02 ∷ [], codes "(done 1)\n") ∷
    []

-- sustains of division 2 and of division 5
abbrev pub sustaining : List (List ℕ × List ℕ)
sustaining =
    -- the value 63 is off
    (0xb2 ∷ 0x40 ∷ 0x3f ∷ [], codes "(done 0)\n") ∷
    -- the value 64 is on, and key 22 is sustained
    (0x40 ∷ 0x40 ∷ [], codes "(done 0)\n") ∷
    -- lifted it sounds on
    (0x82 ∷ 0x3a ∷ 0x40 ∷ [], codes "(done 0)\n") ∷
    -- key 32 of division 5
    (0x95 ∷ 0x44 ∷ 0x40 ∷ [], codes "(done 2)\n") ∷
    -- which no sustain holds
    (0x85 ∷ 0x44 ∷ 0x40 ∷ [], codes "(done 2)\n") ∷
    -- key 22 is down again
    (0x92 ∷ 0x3a ∷ 0x40 ∷ [], codes "(done 0)\n") ∷
    -- and up again
    (0x3a ∷ 0x00 ∷ [], codes "(done 0)\n") ∷
    -- key 8 is pressed under the sustain
    (0x2c ∷ 0x01 ∷ [], codes "(done 3)\n") ∷
    -- and sounds on
    (0x2c ∷ 0x00 ∷ [], codes "(done 0)\n") ∷
    -- on once more: nothing changes
    (0xb2 ∷ 0x40 ∷ 0x41 ∷ [], codes "(done 0)\n") ∷
    -- the sustain of division 5 on
    (0xb5 ∷ 0x40 ∷ 0x7f ∷ [], codes "(done 0)\n") ∷
    -- and off, which lets go of no key of division 2
    (0x40 ∷ 0x00 ∷ [], codes "(done 0)\n") ∷
    -- the sustain of division 2 off: both keys are silent
    (0xb2 ∷ 0x40 ∷ 0x3f ∷ [], codes "(done 6)\n") ∷
    -- key 8 again
    (0x92 ∷ 0x2c ∷ 0x40 ∷ [], codes "(done 3)\n") ∷
    -- which no sustain holds any more
    (0x2c ∷ 0x00 ∷ [], codes "(done 3)\n") ∷
    -- the sustain of division 5 on
    (0xb5 ∷ 0x40 ∷ 0x40 ∷ [], codes "(done 0)\n") ∷
    -- and its key 33: pipes 26 and 14 of rank 7
    (0x95 ∷ 0x45 ∷ 0x40 ∷ [], codes "(done 2)\n") ∷
    -- the sustain of division 2 on
    (0xb2 ∷ 0x40 ∷ 0x7f ∷ [], codes "(done 0)\n") ∷
    -- and its key 20
    (0x92 ∷ 0x38 ∷ 0x40 ∷ [], codes "(done 3)\n") ∷
    -- cleared, whatever the value
    (0xb2 ∷ 0x7b ∷ 0x40 ∷ [], codes "(done 3)\n") ∷
    -- key 20 again
    (0x92 ∷ 0x38 ∷ 0x40 ∷ [], codes "(done 3)\n") ∷
    -- which no sustain holds after the clear
    (0x82 ∷ 0x38 ∷ 0x40 ∷ [], codes "(done 3)\n") ∷
    -- key 33 of division 5 sounds on by its own
    (0x85 ∷ 0x45 ∷ 0x40 ∷ [], codes "(done 0)\n") ∷
    []

-- pistons, while key 33 of division 5 sounds on
abbrev pub storing : List (List ℕ × List ℕ)
storing =
    -- piston 6 stores the knobs 9, 14 and 20 at 2, 2 and 1, and not 33 and 63
    (0x9f ∷ 0x06 ∷ 0x40 ∷ [], codes "(done 0)\n") ∷
    -- velocity 0 captures nothing
    (0x06 ∷ 0x00 ∷ [], []) ∷
    -- piston 11 is not defined
    (0x0b ∷ 0x40 ∷ [], codes "(fault 7)\n") ∷
    -- there is no piston 40
    (0x28 ∷ 0x40 ∷ [], codes "(fault 7)\n") ∷
    -- piston 39 was never captured
    (0xcf ∷ 0x27 ∷ [], codes "(fault 8)\n") ∷
    -- nor was piston 17
    (0x11 ∷ [], codes "(fault 8)\n") ∷
    -- which takes no knob, and is captured all the same
    (0x9f ∷ 0x11 ∷ 0x40 ∷ [], codes "(done 0)\n") ∷
    -- and recalled
    (0xcf ∷ 0x11 ∷ [], codes "(done 0)\n") ∷
    -- piston 11 is not defined
    (0x0b ∷ [], codes "(fault 7)\n") ∷
    -- there is no piston 40
    (0x28 ∷ [], codes "(fault 7)\n") ∷
    -- key 20 of division 2: pipes 18 and 30 of rank 3, and 25 of rank 7
    (0x92 ∷ 0x38 ∷ 0x40 ∷ [], codes "(done 3)\n") ∷
    -- cancel: the knobs go home to 1, 2, 0, 4 and 6, and just pipe 18 speaks on
    (0x9f ∷ 0x7f ∷ 0x40 ∷ [], codes "(done 4)\n") ∷
    -- knob 14 to 0: pipe 18 stops
    (0xbf ∷ 0x0e ∷ 0x00 ∷ [], codes "(done 1)\n") ∷
    -- recall of piston 6: pipe 18 again, and 25 and 26 of rank 7
    (0xcf ∷ 0x06 ∷ [], codes "(done 3)\n") ∷
    -- piston 39 stores the knobs 33 and 63 at 4 and 6
    (0x9f ∷ 0x27 ∷ 0x01 ∷ [], codes "(done 0)\n") ∷
    -- knob 63 to 14, where no wire waits for it
    (0xbf ∷ 0x3f ∷ 0x0e ∷ [], codes "(done 0)\n") ∷
    -- and to 15: pipe 30 of rank 3
    (0x3f ∷ 0x0f ∷ [], codes "(done 1)\n") ∷
    -- it has 16 steps
    (0x3f ∷ 0x10 ∷ [], codes "(fault 6)\n") ∷
    -- knob 33 to 3: pipe 14 of rank 7
    (0x21 ∷ 0x03 ∷ [], codes "(done 1)\n") ∷
    -- recall of piston 39: these two stop
    (0xcf ∷ 0x27 ∷ [], codes "(done 2)\n") ∷
    -- knob 9 to 1: pipes 25 and 26 of rank 7 stop
    (0xbf ∷ 0x09 ∷ 0x01 ∷ [], codes "(done 2)\n") ∷
    -- piston 6 stores 1, 2 and 1 in the place of what it stored
    (0x9f ∷ 0x06 ∷ 0x7f ∷ [], codes "(done 0)\n") ∷
    -- knob 14 to 1: pipe 18 stops
    (0xbf ∷ 0x0e ∷ 0x01 ∷ [], codes "(done 1)\n") ∷
    -- recall of piston 6: just pipe 18 starts
    (0xcf ∷ 0x06 ∷ [], codes "(done 1)\n") ∷
    -- velocity 0 cancels nothing
    (0x9f ∷ 0x7f ∷ 0x00 ∷ [], []) ∷
    -- the sustain of division 5 off
    (0xb5 ∷ 0x40 ∷ 0x00 ∷ [], codes "(done 0)\n") ∷
    -- key 20 is lifted
    (0x82 ∷ 0x38 ∷ 0x40 ∷ [], codes "(done 1)\n") ∷
    []

-- the whole recital, in one piece
abbrev pub recital : List (List ℕ × List ℕ)
recital = pressing ++ lifting ++ idle ++ between ++ turning ++ sharing ++ edges ++ leading ++ sustaining ++ storing

-- the bytes of its line, and the listing
abbrev pub offered : List ℕ
offered = flat_map (λ row. row.0) recital

abbrev pub expected : List ℕ
expected = flat_map (λ row. row.1) recital

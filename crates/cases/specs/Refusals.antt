-- Books that are refused, each with the one line that is listed for it, and books at the ends of what is taken. Assumes nothing.
use Rattle.std.specs.Prelude.{◌≡◌, ℕ, ◌<◌, List, [], ◌∷◌, ◌++◌, length, replicate, codes}
use Rattle.std.specs.List.{flat_map}
use Rattle.recital.specs.Listings.{listing_of}

-- whatever is played on each of these texts, this is listed
abbrev pub Refused : List (List ℕ × List ℕ) → Type 0
Refused [] = Unit {0}
Refused (row ∷ rows) = ((bytes : List ℕ) → listing_of row.0 bytes ≡ row.1) × Refused rows

-- each of these texts is a book whose wires are all taken: before a byte is played nothing is listed
abbrev pub Taken : List (List ℕ) → Type 0
Taken [] = Unit {0}
Taken (text ∷ texts) = (listing_of text [] ≡ []) × Taken texts

-- a text so many times over
abbrev pub times : ℕ → List ℕ → List ℕ
times n text = flat_map (λ t. t) (replicate n text)

-- wires that their board refuses
abbrev pub refused_wires : List (List ℕ × List ℕ)
refused_wires =
    -- row 16 is no row of a board, though row 15 is one with 128 keys
    (codes "(keys 15 128)\n(wire 1 16 0 0 15 0 64 0)\n", codes "(fault 37 2)\n") ∷
    -- the lowest key is above the highest
    (codes "(keys 4 30)\n(rank 6 25)\n(wire 1 4 9 8 4 0 64 0)\n", codes "(fault 37 3)\n") ∷
    -- the same on the stop board
    (codes "(keys 4 30)\n(rank 6 25)\n(wire 2 4 9 8 6 0 64 0)\n", codes "(fault 37 3)\n") ∷
    -- the highest key is past the division, whose keys are 0 to 29
    (codes "(keys 4 30)\n(rank 6 25)\n(wire 1 4 3 30 4 0 64 0)\n", codes "(fault 37 3)\n") ∷
    -- the same on the stop board
    (codes "(keys 4 30)\n(rank 6 25)\n(wire 2 4 3 30 6 0 64 0)\n", codes "(fault 37 3)\n") ∷
    -- there is no division 16
    (codes "(keys 4 30)\n(rank 6 25)\n(wire 1 4 3 29 16 0 64 0)\n", codes "(fault 37 3)\n") ∷
    -- there is no rank 16
    (codes "(keys 4 30)\n(rank 6 25)\n(wire 2 4 3 29 16 0 64 0)\n", codes "(fault 37 3)\n") ∷
    -- a coupler leads to a division, and division 6 has no keys, though rank 6 has pipes
    (codes "(keys 4 30)\n(rank 6 25)\n(wire 1 4 3 29 6 0 64 0)\n", codes "(fault 37 3)\n") ∷
    -- a stop leads to a rank, and rank 4 has no pipes, though division 4 has keys
    (codes "(keys 4 30)\n(rank 6 25)\n(wire 2 4 3 29 4 0 64 0)\n", codes "(fault 37 3)\n") ∷
    -- a shift above 96
    (codes "(keys 4 30)\n(rank 6 25)\n(wire 2 4 3 29 6 97 64 0)\n", codes "(fault 37 3)\n") ∷
    -- a shift below -96
    (codes "(keys 4 30)\n(rank 6 25)\n(wire 2 4 3 29 6 -97 64 0)\n", codes "(fault 37 3)\n") ∷
    -- there is no knob 65
    (codes "(keys 4 30)\n(rank 6 25)\n(wire 2 4 3 29 6 0 65 0)\n", codes "(fault 37 3)\n") ∷
    -- no knob has a position 16
    (codes "(keys 4 30)\n(rank 6 25)\n(wire 2 4 3 29 6 0 5 16)\n", codes "(fault 37 3)\n") ∷
    -- not even where the wire is always live
    (codes "(keys 4 30)\n(rank 6 25)\n(wire 1 4 3 29 4 0 64 16)\n", codes "(fault 37 3)\n") ∷
    -- both boards refuse a wire: the earlier is named, here the stop
    (codes "(keys 4 30)\n(rank 6 25)\n(wire 2 4 3 30 6 0 64 0)\n(wire 1 4 3 31 4 0 64 0)\n", codes "(fault 37 3)\n") ∷
    -- and here the coupler, on line 4 after an empty line
    (codes "(keys 4 30)\n(rank 6 25)\n\n(wire 1 4 3 31 4 0 64 0)\n(wire 2 4 3 30 6 0 64 0)\n", codes "(fault 37 4)\n") ∷
    -- a wire may stand before the rows that it names: the first is taken
    (codes "(wire 2 4 3 29 6 0 64 0)\n(wire 1 4 3 30 4 0 64 0)\n(keys 4 30)\n(rank 6 25)\n", codes "(fault 37 2)\n") ∷
    -- of a wire a book says only that these are numbers
    (codes "(wire 1 9999 0 0 0 0 0 0)\n", codes "(fault 37 1)\n") ∷
    -- from -9999 to 9999
    (codes "(wire 2 0 0 0 0 -9999 9999 9999)\n", codes "(fault 37 1)\n") ∷
    []

-- texts that are no book, with the first fault of the first faulty line
abbrev pub faulty_texts : List (List ℕ × List ℕ)
faulty_texts =
    -- a capital letter may not stand in a line
    (codes "(keys 4 30)\n(Rank 6 25)\n", codes "(fault 32 2)\n") ∷
    -- nor a comma, which is said before the brackets are looked at
    (codes "(keys 4 30)\n\n((rank,6 25\n", codes "(fault 32 3)\n") ∷
    -- nor a byte 13
    (codes "(keys 4 30)\r\n", codes "(fault 32 1)\n") ∷
    -- nor a tab
    (codes "(keys\t4 30)\n", codes "(fault 32 1)\n") ∷
    -- nor what stands before a
    (codes "`\n", codes "(fault 32 1)\n") ∷
    -- and after z
    (codes "{\n", codes "(fault 32 1)\n") ∷
    -- before 0
    (codes "/\n", codes "(fault 32 1)\n") ∷
    -- and after 9
    (codes ":\n", codes "(fault 32 1)\n") ∷
    -- before the brackets
    (codes "'\n", codes "(fault 32 1)\n") ∷
    -- and after them
    (codes "*\n", codes "(fault 32 1)\n") ∷
    -- before the minus
    (codes "+\n", codes "(fault 32 1)\n") ∷
    -- and after it
    (codes ".\n", codes "(fault 32 1)\n") ∷
    -- and after the space
    (codes "!\n", codes "(fault 32 1)\n") ∷
    -- all others may stand in a line, and these make no form
    (codes "az 09 ()-\n", codes "(fault 33 1)\n") ∷
    -- two spaces
    (codes "(keys 4  30)\n", codes "(fault 33 1)\n") ∷
    -- a space before the bracket
    (codes "(keys 4 30 )\n", codes "(fault 33 1)\n") ∷
    -- a space before the word
    (codes "( keys 4 30)\n", codes "(fault 33 1)\n") ∷
    -- a zero in front
    (codes "(keys 4 030)\n", codes "(fault 33 1)\n") ∷
    -- five digits
    (codes "(keys 4 10000)\n", codes "(fault 33 1)\n") ∷
    -- a minus before 0
    (codes "(keys 4 30)\n(rank 6 25)\n(wire 2 4 3 29 6 -0 64 0)\n", codes "(fault 33 3)\n") ∷
    -- two minuses
    (codes "(keys 4 30)\n(rank 6 25)\n(wire 2 4 3 29 6 --1 64 0)\n", codes "(fault 33 3)\n") ∷
    -- a word with a figure
    (codes "(keys4 30)\n", codes "(fault 33 1)\n") ∷
    -- two forms on a line
    (codes "(keys 4 30)(rank 6 25)\n", codes "(fault 33 1)\n") ∷
    -- the last line has no end
    (codes "(keys 4 30)\n(rank 6 25)", codes "(fault 33 2)\n") ∷
    -- the first faulty line decides
    (codes "\n(keys 4 30\n(rank,6 25)\n", codes "(fault 33 2)\n") ∷
    -- whatever its fault
    (codes "(keys 4 129)\n(keys 4 30\n", codes "(fault 35 1)\n") ∷
    -- what a line is built like comes before its word
    (codes "(keyz  4 30)\n", codes "(fault 33 1)\n") ∷
    -- its word and how many numbers it has before their ranges
    (codes "(keys 16)\n", codes "(fault 34 1)\n") ∷
    -- and these before what was given
    (codes "(keys 4 30)\n(keys 4 129)\n", codes "(fault 35 2)\n") ∷
    -- no form has this word
    (codes "(keyz 4 30)\n", codes "(fault 34 1)\n") ∷
    -- nor this count of numbers
    (codes "(keys 4)\n", codes "(fault 34 1)\n") ∷
    -- a rank takes two
    (codes "(rank 6 25 1)\n", codes "(fault 34 1)\n") ∷
    -- a knob three
    (codes "(knob 3 4 1 0)\n", codes "(fault 34 1)\n") ∷
    -- a piston three
    (codes "(piston 3 4)\n", codes "(fault 34 1)\n") ∷
    -- and a wire eight
    (codes "(keys 4 30)\n(rank 6 25)\n(wire 2 4 3 29 6 0 64)\n", codes "(fault 34 3)\n") ∷
    -- there is no division 16
    (codes "(keys 16 30)\n", codes "(fault 35 1)\n") ∷
    -- no division of 129 keys
    (codes "(keys 4 129)\n", codes "(fault 35 1)\n") ∷
    -- no rank 16
    (codes "(rank 16 25)\n", codes "(fault 35 1)\n") ∷
    -- no rank of 129 pipes
    (codes "(rank 6 129)\n", codes "(fault 35 1)\n") ∷
    -- no knob 64
    (codes "(knob 64 4 1)\n", codes "(fault 35 1)\n") ∷
    -- no knob of one step
    (codes "(knob 3 1 0)\n", codes "(fault 35 1)\n") ∷
    -- none of 17
    (codes "(knob 3 17 1)\n", codes "(fault 35 1)\n") ∷
    -- no home that is not below the steps
    (codes "(knob 3 4 4)\n", codes "(fault 35 1)\n") ∷
    -- no piston 40
    (codes "(piston 40 3 5)\n", codes "(fault 35 1)\n") ∷
    -- no lowest knob above the highest
    (codes "(piston 7 5 4)\n", codes "(fault 35 1)\n") ∷
    -- no highest knob 64
    (codes "(piston 7 4 64)\n", codes "(fault 35 1)\n") ∷
    -- no board 0
    (codes "(keys 4 30)\n(rank 6 25)\n(wire 0 4 3 29 6 0 64 0)\n", codes "(fault 35 3)\n") ∷
    -- and no board 3
    (codes "(keys 4 30)\n(rank 6 25)\n(wire 3 4 3 29 6 0 64 0)\n", codes "(fault 35 3)\n") ∷
    -- a minus before the number of a division
    (codes "(keys -4 30)\n", codes "(fault 35 1)\n") ∷
    -- before its keys
    (codes "(keys 4 -30)\n", codes "(fault 35 1)\n") ∷
    -- before the number of a rank
    (codes "(rank -6 25)\n", codes "(fault 35 1)\n") ∷
    -- before its pipes
    (codes "(rank 6 -25)\n", codes "(fault 35 1)\n") ∷
    -- before the number of a knob
    (codes "(knob -3 4 1)\n", codes "(fault 35 1)\n") ∷
    -- before its steps
    (codes "(knob 3 -4 1)\n", codes "(fault 35 1)\n") ∷
    -- before its home
    (codes "(knob 3 4 -1)\n", codes "(fault 35 1)\n") ∷
    -- before the number of a piston
    (codes "(piston -7 3 5)\n", codes "(fault 35 1)\n") ∷
    -- before its lowest knob
    (codes "(piston 7 -3 5)\n", codes "(fault 35 1)\n") ∷
    -- before its highest
    (codes "(piston 7 3 -5)\n", codes "(fault 35 1)\n") ∷
    -- and in a wire before the board
    (codes "(keys 4 30)\n(rank 6 25)\n(wire -2 4 3 29 6 0 64 0)\n", codes "(fault 35 3)\n") ∷
    -- the from-row
    (codes "(keys 4 30)\n(rank 6 25)\n(wire 2 -4 3 29 6 0 64 0)\n", codes "(fault 35 3)\n") ∷
    -- the lowest key
    (codes "(keys 4 30)\n(rank 6 25)\n(wire 2 4 -3 29 6 0 64 0)\n", codes "(fault 35 3)\n") ∷
    -- the highest
    (codes "(keys 4 30)\n(rank 6 25)\n(wire 2 4 3 -29 6 0 64 0)\n", codes "(fault 35 3)\n") ∷
    -- the to-row
    (codes "(keys 4 30)\n(rank 6 25)\n(wire 2 4 3 29 -6 0 64 0)\n", codes "(fault 35 3)\n") ∷
    -- the knob
    (codes "(keys 4 30)\n(rank 6 25)\n(wire 2 4 3 29 6 0 -64 0)\n", codes "(fault 35 3)\n") ∷
    -- and the position
    (codes "(keys 4 30)\n(rank 6 25)\n(wire 2 4 3 29 6 0 64 -1)\n", codes "(fault 35 3)\n") ∷
    -- a division that was given, after the rank of its number
    (codes "(keys 4 30)\n(rank 4 25)\n(keys 4 30)\n", codes "(fault 36 3)\n") ∷
    -- a division that was given no keys
    (codes "(keys 4 0)\n(keys 4 30)\n", codes "(fault 36 2)\n") ∷
    -- a rank
    (codes "(rank 6 25)\n\n(rank 6 24)\n", codes "(fault 36 3)\n") ∷
    -- a knob
    (codes "(knob 3 4 1)\n(knob 3 4 1)\n", codes "(fault 36 2)\n") ∷
    -- and a piston
    (codes "(piston 7 3 5)\n(piston 7 4 5)\n", codes "(fault 36 2)\n") ∷
    -- a fault of the text comes before that of a wire
    (codes "(keys 4 30)\n(rank 6 25)\n(wire 1 4 3 30 4 0 64 0)\n(keyz 4 30)\n", codes "(fault 34 4)\n") ∷
    []

-- books at the ends of what is taken
abbrev pub good_books : List (List ℕ)
good_books =
    -- a book of no bytes
    [] ∷
    -- the last row with all keys, the ends of the shifts, the last knob and position, and a wire that is always live
    codes "(keys 15 128)\n(rank 15 128)\n(wire 1 15 0 127 15 -96 63 15)\n(wire 2 15 127 127 15 96 64 0)\n" ∷
    -- the ends of the ranges, and an empty line at the end
    codes "(keys 15 128)\n(rank 15 128)\n(keys 0 0)\n(rank 0 0)\n(knob 63 16 15)\n(knob 0 2 0)\n(piston 39 63 63)\n(piston 0 0 63)\n\n" ∷
    -- a shift with a minus
    codes "(keys 4 30)\n(rank 6 25)\n(wire 2 4 3 29 6 -1 64 0)\n" ∷
    []

-- a division and a rank, and a coupler and a stop that are always live
abbrev pub two_rows : List ℕ
two_rows = codes "(keys 4 30)\n(rank 6 25)\n"

abbrev pub coupler : List ℕ
coupler = codes "(wire 1 4 3 29 4 0 64 0)\n"

abbrev pub stop : List ℕ
stop = codes "(wire 2 4 3 29 6 0 64 0)\n"

-- 128 wires on each board
abbrev pub full_book : List ℕ
full_book = two_rows ++ times 128 coupler ++ times 128 stop

-- a 129th wire of a board, of one and of the other, and a 257th of a book, which is no fault of a board
abbrev pub overfull : List (List ℕ × List ℕ)
overfull =
    (two_rows ++ times 129 coupler, codes "(fault 37 131)\n") ∷
    (two_rows ++ times 127 coupler ++ times 129 stop, codes "(fault 37 258)\n") ∷
    (two_rows ++ times 257 coupler, codes "(fault 36 259)\n") ∷
    []

pub record RefusedBooks : Type 0 where
  -- fault 37: a wire that its board refuses
  pub wires : Refused refused_wires
  -- faults 32 to 36
  pub texts : Refused faulty_texts
  -- fault 31: more than 65536 bytes, whatever they are
  pub too_long : (text bytes : List ℕ) → 65536 < length text → listing_of text bytes ≡ codes "(fault 31 0)\n"
  -- 65536 bytes are not too many: this many empty lines
  pub longest : Taken (times 65536 (codes "\n") ∷ [])
  -- what is taken
  pub good : Taken good_books
  -- 128 wires on each board, and no more
  pub full : Taken (full_book ∷ [])
  -- one wire too many
  pub more : Refused overfull

-- The worked cases of the rules. Assumes nothing.
use Rattle.std.specs.Prelude.{◌≡◌, ℕ, ◌/◌, ◌%◌, true, false, List, [], ◌∷◌, ◌++◌, map, ℤ, pos, negsuc, Ok, Err}
use Rattle.chest.specs.Places.{Places, none, put, changed}
use Rattle.chest.specs.Meaning.{Meaning, Panel}
use Rattle.midi.specs.declared.message.Message.TheVariants.{NoteOn}
use Rattle.midi.specs.Reading.{reading, ReadsAs}
use Rattle.bottom.specs.Drain.{count_of_places, holds, pending, spelled, drained}
use Rattle.wires.specs.Wires.{image}
use Rattle.wires.specs.Fitting.{in_range, fit_answer, lead_of}
use Rattle.console.specs.declared.call.Call.{Call}
use Rattle.console.specs.declared.call.Call.TheVariants.{Press, Lift, Sustain, Turn, Capture, Recall}
use Rattle.console.specs.declared.fault.PlayFault.TheVariants.{Division, Key}
use Rattle.console.specs.PlayFault.{number_of}
use Rattle.console.specs.Keys.{sounding}
use Rattle.console.specs.Model.{Setup, Model, first, check, after}
use Rattle.console.specs.Record.{pipes_of}
use Rattle.organ.specs.declared.action.Action.TheVariants.{Perform}
use Rattle.organ.specs.Action.{action_of}
use Rattle.organ.specs.Assembly.{hang_all, stop_wired}
use Rattle.organ.specs.Opening.{new_ranks}
use Rattle.cases.specs.Organ.{keys, ranks, shifted_by, wires, hung, stack, setup}
use Rattle.cases.specs.Playing.{after_all, AnswersSo}

-- the small organ's model console after some calls, and the pipes that then speak
abbrev pub played : List Call → Model
played calls = after_all setup (first setup) calls

abbrev pub speaking_after : List Call → Places
speaking_after calls = pipes_of stack (played calls)

-- the diapason and the octave are drawn, and keys 0 and 12 held
abbrev pub two_stops : List Call
two_stops = Turn 0 1 ∷ Turn 1 1 ∷ Press 0 0 ∷ Press 0 12 ∷ []

-- the diapason is drawn, key 5 pressed, the sustain put on and the key lifted
abbrev pub let_go : List Call
let_go = Turn 0 1 ∷ Press 0 5 ∷ Sustain 0 true ∷ Lift 0 5 ∷ []

-- the flute alone is captured on piston 0, then the diapason alone is drawn and key 5 held
abbrev pub before_swap : List Call
before_swap = Turn 2 1 ∷ Capture 0 ∷ Turn 2 0 ∷ Turn 0 1 ∷ Press 0 5 ∷ []

-- pipe 12 of rank 0 and pipe 5 of rank 3 speak
abbrev pub two_pipes : Places
two_pipes = put (put none 0 12 true) 3 5 true

pub record WorkedCases : Type 0 where
  -- a division of 61 keys: key 60 can be pressed, and then it is down and sounds, and the others as before
  pub last_key : (s : Setup) (p : Model) → s.reach 0 ≡ 61 → p.keys.down 0 60 ≡ false → (check s p (Press 0 60) ≡ Ok tt) × ((after s p (Press 0 60)).keys.down ≡ put p.keys.down 0 60 true) × (sounding (after s p (Press 0 60)).keys ≡ put (sounding p.keys) 0 60 true)
  -- key 61 is fault 2, and nothing changes
  pub past_the_keys : (s : Setup) (p : Model) → s.reach 0 ≡ 61 → (check s p (Press 0 61) ≡ Err (Key 0 61)) × (number_of (Key 0 61) ≡ 2) × (after s p (Press 0 61) ≡ p)
  -- division 16 with key 200 is fault 1, since the division is looked at first, and nothing changes
  pub no_division : (s : Setup) (p : Model) → (check s p (Press 16 200) ≡ Err (Division 16)) × (number_of (Division 16) ≡ 1) × (after s p (Press 16 200) ≡ p)
  -- a stop board of 61 keys over a rank of 73 pipes takes a wire from all its keys with any shift from -96 to 96
  pub taken : (shift : ℤ) → in_range shift ≡ true → fit_answer (stop_wired keys (new_ranks ranks) []) (new_ranks ranks) (shifted_by shift) ≡ Ok tt
  -- with shift 12 key 60 gives pipe 72, and only that
  pub twelve_up : (panel : Panel) → image ranks (lead_of (shifted_by (pos 12)) ∷ []) panel (put none 0 60 true) ≡ put none 0 72 true
  -- with shift 13 key 60 is silent
  pub thirteen_up : (panel : Panel) → image ranks (lead_of (shifted_by (pos 13)) ∷ []) panel (put none 0 60 true) ≡ none
  -- with shift -12 key 11 is silent
  pub eleven_below : (panel : Panel) → image ranks (lead_of (shifted_by (negsuc 11)) ∷ []) panel (put none 0 11 true) ≡ none
  -- with shift -12 key 12 gives pipe 0, and only that
  pub twelve_down : (panel : Panel) → image ranks (lead_of (shifted_by (negsuc 11)) ∷ []) panel (put none 0 12 true) ≡ put none 0 0 true
  -- both boards of the small organ take all its wires
  pub assembled : hang_all keys (new_ranks ranks) wires ≡ Ok hung
  -- two stops at shift 0 and 12 on one rank, keys 0 and 12 held: just pipes 0, 12 and 24 speak
  pub shared_rank : speaking_after two_stops ≡ put (put (put none 0 0 true) 0 12 true) 0 24 true
  -- key 12 is lifted: only pipe 24 stops, since key 0 still reaches pipe 12 by the second stop, and the count is 1
  pub one_lifted : (speaking_after (two_stops ++ Lift 0 12 ∷ []) ≡ put (speaking_after two_stops) 0 24 false) × (changed (speaking_after two_stops) (speaking_after (two_stops ++ Lift 0 12 ∷ [])) ≡ 1)
  -- by their answers: no pipe at either stop, two at key 0, one at key 12 and one at its lift
  pub shared_answers : AnswersSo setup stack (two_stops ++ Lift 0 12 ∷ []) (Ok 0 ∷ Ok 0 ∷ Ok 2 ∷ Ok 1 ∷ Ok 1 ∷ [])
  -- a key that was lifted while the sustain is on still sounds, alone
  pub sounds_on : ((played let_go).keys.down 0 5 ≡ false) × (sounding (played let_go).keys ≡ put none 0 5 true)
  -- pressed again it is done, and the count is 0, whatever stack is below
  pub pressed_again : (m : Meaning) → (check setup (played let_go) (Press 0 5) ≡ Ok tt) × (changed (pipes_of m (played let_go)) (pipes_of m (after setup (played let_go) (Press 0 5))) ≡ 0)
  -- by their answers: a pipe at the first press, and none at the other calls
  pub sustain_answers : AnswersSo setup stack (let_go ++ Press 0 5 ∷ []) (Ok 0 ∷ Ok 1 ∷ Ok 0 ∷ Ok 0 ∷ Ok 0 ∷ [])
  -- a piston swaps two stops: the one knob goes out, the other in
  pub knobs_swap : ((played before_swap).panel 0 ≡ 1) × ((played before_swap).panel 2 ≡ 0) × ((played (before_swap ++ Recall 0 ∷ [])).panel 0 ≡ 0) × ((played (before_swap ++ Recall 0 ∷ [])).panel 2 ≡ 1)
  -- both feed the one held pipe, so it speaks on alone and the count is 0
  pub pipe_stays : (speaking_after before_swap ≡ put none 0 5 true) × (speaking_after (before_swap ++ Recall 0 ∷ []) ≡ put none 0 5 true) × (changed (speaking_after before_swap) (speaking_after (before_swap ++ Recall 0 ∷ [])) ≡ 0)
  -- by their answers: a pipe at the press, and none at the other calls
  pub swap_answers : AnswersSo setup stack (before_swap ++ Recall 0 ∷ []) (Ok 0 ∷ Ok 0 ∷ Ok 0 ∷ Ok 0 ∷ Ok 1 ∷ Ok 0 ∷ [])
  -- the bytes 90 F8 24 40, on whatever line, are a note on: a clock tick between them is no part of it
  pub clock_inside : ReadsAs (0x90 ∷ 0xf8 ∷ 0x24 ∷ 0x40 ∷ []) (NoteOn 0 36 64 ∷ [])
  -- and press key 0 of division 0
  pub note_presses : map action_of (reading (0x90 ∷ 0xf8 ∷ 0x24 ∷ 0x40 ∷ [])) ≡ Perform (Press 0 0) ∷ []
  -- the bytes 90 F1 24 40, on whatever line, are no message, so they do nothing
  pub system_inside : ReadsAs (0x90 ∷ 0xf1 ∷ 0x24 ∷ 0x40 ∷ []) []
  -- two pipes are pending: a drain into 5 bytes writes the message of the first, and it alone is sent
  pub one_fits : (sent speaking : Places) (m n : ℕ) → pending sent speaking count_of_places ≡ m ∷ n ∷ [] → drained sent speaking 5 ≡ record { bytes = spelled speaking m; sent = put sent (m / 128) (m % 128) (holds speaking m) }
  -- and one into 2 bytes writes none
  pub none_fits : (sent speaking : Places) (m n : ℕ) → pending sent speaking count_of_places ≡ m ∷ n ∷ [] → drained sent speaking 2 ≡ record { bytes = []; sent = sent }
  -- so pipe 12 of rank 0 is told before pipe 5 of rank 3, in 3 bytes of 5
  pub first_told : drained none two_pipes 5 ≡ record { bytes = 0x90 ∷ 12 ∷ 64 ∷ []; sent = put none 0 12 true }
  -- into 2 bytes neither is
  pub none_told : drained none two_pipes 2 ≡ record { bytes = []; sent = none }
  -- and the next drain tells pipe 5 of rank 3, after which nothing is pending
  pub rest_told : (drained (put none 0 12 true) two_pipes 5 ≡ record { bytes = 0x93 ∷ 5 ∷ 64 ∷ []; sent = two_pipes }) × (pending two_pipes two_pipes count_of_places ≡ [])

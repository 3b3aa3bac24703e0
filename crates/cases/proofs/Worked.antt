-- All worked cases. Assumes nothing.
use Rattle.std.proofs.Common.{refl}
use Rattle.cases.specs.Worked.{WorkedCases}
use Rattle.cases.proofs.Pressing as pressing
use Rattle.cases.proofs.Wired as wired
use Rattle.cases.proofs.Sharing as sharing
use Rattle.cases.proofs.Sustaining as sustaining
use Rattle.cases.proofs.Swapping as swapping
use Rattle.cases.proofs.Lines as lines

pub worked_cases : WorkedCases
worked_cases =
    record {
      last_key = λ s p r u. (pressing.press_last s p r u, pressing.last_down s p r u, pressing.last_sounds s p r u);
      past_the_keys = λ s p r. (pressing.press_past s p r, refl, pressing.past_stays s p r);
      no_division = λ s p. (refl, refl, refl);
      taken = wired.taken;
      twelve_up = wired.twelve_up;
      thirteen_up = wired.thirteen_up;
      eleven_below = wired.eleven_below;
      twelve_down = wired.twelve_down;
      assembled = wired.assembled;
      shared_rank = sharing.shared_rank;
      one_lifted = (sharing.one_stops, sharing.one_changes);
      shared_answers = sharing.shared_answers;
      sounds_on = (refl, sustaining.sounds_on);
      pressed_again = λ m. (refl, sustaining.none-changes m);
      sustain_answers = sustaining.sustain_answers;
      knobs_swap = (refl, refl, refl, refl);
      pipe_stays = (swapping.swap_from, swapping.swap_to, swapping.none-changes);
      swap_answers = swapping.swap_answers;
      clock_inside = lines.clock_inside;
      note_presses = refl;
      system_inside = lines.system_inside;
      one_fits = lines.one_fits;
      none_fits = lines.none-fits;
      first_told = lines.first-told;
      none_told = lines.none_told;
      rest_told = (lines.rest-told, lines.all_told);
    }

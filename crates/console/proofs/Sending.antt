-- A console whose chest means what it meant, with all else as it was, stands as it stood and breaks no chain of calls.
-- Assumes nothing.
use Rattle.std.proofs.Common.{◌≡◌, sym, ap, ◌∙◌, subst}
use Rattle.chest.specs.Meaning.{Meaning}
use Rattle.console.specs.declared.console.Console.{Console}
use Rattle.console.specs.Record.{EntryLaw, Making}
use Rattle.console.specs.Tracks.{Agrees, setup_of}
use Rattle.console.specs.Sending.{StillTracks, Linked}

abbrev with_chest : {C : Type 0} → Console C → C → Console C
with_chest c x = record { chest = x; knobs = c.knobs; pistons = c.pistons; keys = c.keys }

module _ {C : Type 0} (meaning : C → Meaning) (settled : C → Type 0) (c : Console C) (x : C) (same : meaning x ≡ meaning c.chest) (steady : settled c.chest → settled x) where
  pub still_tracks : StillTracks meaning settled c (with_chest c x)
  still_tracks s p t =
      record {
        steady = steady t.steady;
        setup = ap (λ m. setup_of m.reach c.knobs c.pistons) same ∙ t.setup;
        keys = t.keys;
        stored = t.stored;
        agrees = subst (λ m. Agrees m p) (sym same) t.agrees;
        sane = t.sane;
      }

  pub linked : Linked meaning settled c (with_chest c x)
  linked =
      record {
        makes = λ chest knobs pistons h start. (subst (Making (setup_of (meaning chest).reach knobs pistons) (meaning chest)) (sym same) (h start).0, still_tracks _ _ (h start).1);
        follows = λ b call answer h s p t. (still_tracks _ _ (h s p t).0, subst (λ m. EntryLaw s (meaning b.chest) p (record { call = call; answer = answer; chest = m })) (sym same) (h s p t).1);
      }

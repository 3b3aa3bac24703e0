use Rattle.std.proofs.Common.{not, sym, ap, ◌∙◌, subst}
use Rattle.book.specs.Entry.{Entry, keys_of, pipes_of, knob_of, scope_of, wire_of, taken, InRange}
use Rattle.book.specs.Limits.{rows, knobs, pistons}
use Rattle.book.proofs.Said.{more_table, full_or_free, divisions_stay, ranks_stay, knobs-stay, pistons-stay, wires-stay, wires-grow}
use Rattle.book.proofs.book.Book.put.Goals as goal

pub returns-in-Keys : goal.returns-in-Keys
returns-in-Keys c =
    let is = c.in-Keys.is in
    let within = subst InRange is c.requires in
    record {
      answer = λ es h. full_or_free _ _ _ _ _ _ _ c.from.ensures c.give.ensures (h.divisions c.in-Keys.row within.0) ∙ ap (λ f. not (taken es f)) (sym is);
      after = λ es h done.
          let e : Entry = record { line = c.args.line; form = c.args.form } in
          record {
            divisions = more_table rows keys_of es e _ _ _ _ _ _ c.from.ensures c.give.ensures done (λ j. ap (keys_of j) is) h.divisions;
            ranks = ranks_stay _ es h e (λ j. ap (pipes_of j) is);
            knobs = knobs-stay _ es h e (λ j. ap (knob_of j) is);
            pistons = pistons-stay _ es h e (λ j. ap (scope_of j) is);
            wires = wires-stay _ es h e (ap (λ f. wire_of (record { line = c.args.line; form = f })) is);
          };
    }

pub returns-in-Rank : goal.returns-in-Rank
returns-in-Rank c =
    let is = c.in-Rank.is in
    let within = subst InRange is c.requires in
    record {
      answer = λ es h. full_or_free _ _ _ _ _ _ _ c.from-in-Rank.ensures c.give-in-Rank.ensures (h.ranks c.in-Rank.row within.0) ∙ ap (λ f. not (taken es f)) (sym is);
      after = λ es h done.
          let e : Entry = record { line = c.args.line; form = c.args.form } in
          record {
            divisions = divisions_stay _ es h e (λ j. ap (keys_of j) is);
            ranks = more_table rows pipes_of es e _ _ _ _ _ _ c.from-in-Rank.ensures c.give-in-Rank.ensures done (λ j. ap (pipes_of j) is) h.ranks;
            knobs = knobs-stay _ es h e (λ j. ap (knob_of j) is);
            pistons = pistons-stay _ es h e (λ j. ap (scope_of j) is);
            wires = wires-stay _ es h e (ap (λ f. wire_of (record { line = c.args.line; form = f })) is);
          };
    }

pub returns-in-Knob : goal.returns-in-Knob
returns-in-Knob c =
    let is = c.in-Knob.is in
    let within = subst InRange is c.requires in
    record {
      answer = λ es h. full_or_free _ _ _ _ _ _ _ c.from-in-Knob.ensures c.give-in-Knob.ensures (h.knobs c.in-Knob.knob within.0) ∙ ap (λ f. not (taken es f)) (sym is);
      after = λ es h done.
          let e : Entry = record { line = c.args.line; form = c.args.form } in
          record {
            divisions = divisions_stay _ es h e (λ j. ap (keys_of j) is);
            ranks = ranks_stay _ es h e (λ j. ap (pipes_of j) is);
            knobs = more_table knobs knob_of es e _ _ _ _ _ _ c.from-in-Knob.ensures c.give-in-Knob.ensures done (λ j. ap (knob_of j) is) h.knobs;
            pistons = pistons-stay _ es h e (λ j. ap (scope_of j) is);
            wires = wires-stay _ es h e (ap (λ f. wire_of (record { line = c.args.line; form = f })) is);
          };
    }

pub returns-in-Piston : goal.returns-in-Piston
returns-in-Piston c =
    let is = c.in-Piston.is in
    let within = subst InRange is c.requires in
    record {
      answer = λ es h. full_or_free _ _ _ _ _ _ _ c.from-in-Piston.ensures c.give-in-Piston.ensures (h.pistons c.in-Piston.piston within.0) ∙ ap (λ f. not (taken es f)) (sym is);
      after = λ es h done.
          let e : Entry = record { line = c.args.line; form = c.args.form } in
          record {
            divisions = divisions_stay _ es h e (λ j. ap (keys_of j) is);
            ranks = ranks_stay _ es h e (λ j. ap (pipes_of j) is);
            knobs = knobs-stay _ es h e (λ j. ap (knob_of j) is);
            pistons = more_table pistons scope_of es e _ _ _ _ _ _ c.from-in-Piston.ensures c.give-in-Piston.ensures done (λ j. ap (scope_of j) is) h.pistons;
            wires = wires-stay _ es h e (ap (λ f. wire_of (record { line = c.args.line; form = f })) is);
          };
    }

pub returns-else-len-ge-MOST_WIRES-clause-after : goal.returns-else-len-ge-MOST_WIRES-clause-after
returns-else-len-ge-MOST_WIRES-clause-after c es h done =
    let is = c.in-Wire.is in
    let e : Entry = record { line = c.args.line; form = c.args.form } in
    record {
      divisions = divisions_stay _ es h e (λ j. ap (keys_of j) is);
      ranks = ranks_stay _ es h e (λ j. ap (pipes_of j) is);
      knobs = knobs-stay _ es h e (λ j. ap (knob_of j) is);
      pistons = pistons-stay _ es h e (λ j. ap (scope_of j) is);
      wires = wires-grow _ es h e _ _ c.push.ensures.items (ap (λ f. wire_of (record { line = c.args.line; form = f })) is);
    }

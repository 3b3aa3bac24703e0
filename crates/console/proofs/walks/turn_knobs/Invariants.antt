-- So far the knobs before `knob` are turned.
use Rattle.std.proofs.Common.{ℕ, Option}
use Rattle.chest.specs.Meaning.{Becomes}
use Rattle.console.specs.Walks.{Turns, knobs_turned}
use Rattle.console.proofs.walks.turn_knobs.Given as goal

abbrev pub invariant-loop-knob : goal.invariant-loop-knob
invariant-loop-knob g l =
    let chest = g.C.Chest in
    (panel : ℕ → Option ℕ) → Turns (goal.F-post g l.to) panel → Becomes chest.meaning chest.settled l.initial.chest l.chest (knobs_turned (chest.meaning l.initial.chest) panel l.knob)

-- The answers for `Console::perform`: each arm does its call.
use Rattle.console.proofs.Records.{called}
use Rattle.console.proofs.console.Console.perform.Goals as goal

pub returns-in-Press-clause-follows : goal.returns-in-Press-clause-follows
returns-in-Press-clause-follows g c = called g.C.Chest.meaning g.C.Chest.settled c.in-Press.is c.press.ensures.follows

pub returns-in-Lift-clause-follows : goal.returns-in-Lift-clause-follows
returns-in-Lift-clause-follows g c = called g.C.Chest.meaning g.C.Chest.settled c.in-Lift.is c.lift.ensures.follows

pub returns-in-Sustain-clause-follows : goal.returns-in-Sustain-clause-follows
returns-in-Sustain-clause-follows g c = called g.C.Chest.meaning g.C.Chest.settled c.in-Sustain.is c.sustain.ensures.follows

pub returns-in-Clear-clause-follows : goal.returns-in-Clear-clause-follows
returns-in-Clear-clause-follows g c = called g.C.Chest.meaning g.C.Chest.settled c.in-Clear.is c.clear.ensures.follows

pub returns-in-Turn-clause-follows : goal.returns-in-Turn-clause-follows
returns-in-Turn-clause-follows g c = called g.C.Chest.meaning g.C.Chest.settled c.in-Turn.is c.turn.ensures.follows

pub returns-in-Capture-clause-follows : goal.returns-in-Capture-clause-follows
returns-in-Capture-clause-follows g c = called g.C.Chest.meaning g.C.Chest.settled c.in-Capture.is c.capture.ensures.follows

pub returns-in-Recall-clause-follows : goal.returns-in-Recall-clause-follows
returns-in-Recall-clause-follows g c = called g.C.Chest.meaning g.C.Chest.settled c.in-Recall.is c.recall.ensures.follows

pub returns-in-Cancel-clause-follows : goal.returns-in-Cancel-clause-follows
returns-in-Cancel-clause-follows g c = called g.C.Chest.meaning g.C.Chest.settled c.in-Cancel.is c.cancel.ensures

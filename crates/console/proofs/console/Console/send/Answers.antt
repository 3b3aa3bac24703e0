-- The answer for `Console::send`.
use Rattle.console.proofs.Sending.{linked}
use Rattle.console.proofs.console.Console.send.Goals as goal

pub returns-clause-links : goal.returns-clause-links
returns-clause-links g c =
    linked g.C.Chest.meaning g.C.Chest.settled c.args.self.now c.send.new.self c.send.ensures.same c.send.ensures.settled

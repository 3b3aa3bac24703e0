-- What a console is seen by. Assumes nothing.
use Rattle.console.specs.declared.console.Console.{Console}

-- the chest that it stands on
abbrev pub chest_of : {C : Type 0} → Console C → C
chest_of c = c.chest

use Rattle.chest.proofs.CallLemmas.{set-law, turn-law, strobe-law, ask-law, table-law}
use Rattle.chest.proofs.laws.calls_law.Goals as goal

pub returns : goal.returns
returns c = record { set = set-law; turn = turn-law; strobe = strobe-law; ask = ask-law; table = table-law }

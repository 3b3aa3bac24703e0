use Rattle.console.proofs.KeyLaws.{key_law}
use Rattle.console.proofs.KnobLaws.{knob_law}
use Rattle.console.proofs.RefusalLaws.{refusal_law}
use Rattle.console.proofs.Records.{hosts_law, every_entry, touches}
use Rattle.console.proofs.play.record_law.Goals as goal

pub returns : goal.returns
returns g c =
    record { hosts = hosts_law; entries = every_entry; touches = touches; keys = key_law; knobs = knob_law; refusals = refusal_law }

-- The text of `--help` ends as it is delivered.
use Rattle.std.proofs.Common.{refl}
use Rattle.probe_index.specs.declared.command.Command.TheVariants.{Help}
use Rattle.probe_index.specs.declared.run.TheConstants.{USAGE, VERSION}
use Rattle.probe_index.proofs.SessionLemmas.{ends_help}
use Rattle.probe_index.proofs.run.help.Goals as goal

pub returns-in-Ok : goal.returns-in-Ok
returns-in-Ok g c =
    let delivered = rw c.in-Ok.ensures.text at (rw c.deref.ensures.value at c.answer.ensures.delivered) in
    record { ends = λ input. ends_help (record { command = Help; input = input; output = _; texts = record { usage = USAGE.now; help = _; version = VERSION.now } }) _ refl delivered }

-- What was written for what was read was written for the file.
use Rattle.std.proofs.Common.{refl}
use Rattle.probe_index.specs.declared.command.Command.TheVariants.{Probe}
use Rattle.probe_index.proofs.SessionLemmas.{Ends-answered}
use Rattle.probe_index.proofs.run.probe.Goals as goal

pub returns-in-Ok-answer_file : goal.returns-in-Ok-answer_file
returns-in-Ok-answer_file g c =
    let answers = c.in-Ok-answer_file in
    let delivered = rw c.deref.ensures.value at c.answer.ensures.delivered in
    record {
      ends = λ texts. Ends-answered (record {
        command = Probe c.args.asked.now;
        input = _;
        output = _;
        texts = texts;
      }) c.args.asked.now c.in-Ok.bytes.items answers.output.items refl c.in-Ok.ensures.read answers.status _ answers.ensures.writes delivered;
    }

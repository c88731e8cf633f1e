-- What was written for the bytes that were read was written for the script.
use Rattle.std.proofs.Common.{refl}
use Rattle.gitodb.specs.declared.command.Command.TheVariants.{World}
use Rattle.gitodb.proofs.SessionLemmas.{Ends-world}
use Rattle.gitodb.proofs.run.world.Goals as goal

pub returns-in-Ok-answer_script : goal.returns-in-Ok-answer_script
returns-in-Ok-answer_script g c =
    let delivered = rw c.deref.ensures.value at c.answer.ensures.delivered in
    record {
      ends = λ help version. Ends-world (record {
        command = World;
        input = _;
        output = _;
        help = help;
        version = version;
      }) c.in-Ok.script.items c.in-Ok-answer_script.output.items c.in-Ok-answer_script.status _ refl c.in-Ok.ensures.read c.in-Ok-answer_script.ensures.answered delivered;
    }

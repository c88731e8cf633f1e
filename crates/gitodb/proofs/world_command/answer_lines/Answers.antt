-- The outcomes are those of the play of the script's lines on its disk.
use Rattle.std.proofs.lemmas.Result.{IfOk-weaker}
use Rattle.std.proofs.Common.{sym}
use Rattle.gitodb.proofs.world_command.answer_lines.Goals as goal

pub returns : goal.returns
returns c = record {
  answered = λ script says. IfOk-weaker c.printed.result _ _ (λ out written. record {
    ends = sym says.ends;
    play = c.in_ok-play.play;
    played = rw says.disk_is at (rw says.lines_are at c.in_ok-play.ensures.played);
    written_is = written;
  }) c.printed.ensures.written;
}

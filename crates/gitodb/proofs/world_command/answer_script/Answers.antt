-- The disk, the lines, the ending and the message are those of the reading.
use Rattle.std.proofs.Common.{ap, ◌∙◌}
use Rattle.odb_script.specs.declared.reader.Reading.{Reading}
use Rattle.odb_script.specs.Script.{disk_of, lines_of}
use Rattle.odb_script.proofs.ToldLaws.{told_of-is}
use Rattle.gitodb.specs.Session.{status_by}
use Rattle.gitodb.proofs.world_command.answer_script.Goals as goal

pub returns : goal.returns
returns c =
    let reads = c.in_ok-reading.ensures.reading in
    let disk = c.in_ok-disk.ensures.disk ∙ ap (λ (r : Reading). disk_of r.script) reads in
    let lines = c.in_ok-disk.ensures.lines ∙ ap (λ (r : Reading). lines_of r.script) reads in
    let ends = c.in_ok-disk.ensures.ending ∙ ap (λ (r : Reading). r.ending) reads in
    let told = c.in_ok-reading.ensures.told ∙ told_of-is _ _ reads in
    record {
      answered = record {
        ending = c.in_ok-disk.ending;
        answers = c.in_ok-out.ensures.answered _ (record { disk_is = disk; lines_are = lines; ends = ends });
        status_is = c.status_by.ensures.status ∙ ap (status_by c.in_ok-disk.ending) told;
      };
    }

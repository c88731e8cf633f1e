use Rattle.std.proofs.Common.{refl}
use Rattle.list_walk.proofs.VisitLemmas.{sorted_visit, unsorted_visit}
use Rattle.list_walk.proofs.run.walk_of.Goals as goal

pub returns-then-choices-clause-ends : goal.returns-then-choices-clause-ends
returns-then-choices-clause-ends g c =
    sorted_visit _ (record {
      choices = c.args.choices;
      state = g.D.Disk.state c.args.disk.now;
      folder = c.args.root;
      before = record { streams = g.D.Disk.streams c.args.disk.now; disk_faults = g.D.Disk.faults c.args.disk.now; held = g.K.Sink.held c.args.sink.now; told = g.E.Sink.held c.args.errors.now };
      after = record {
        streams = g.D.Disk.streams c.walked.new.disk;
        disk_faults = g.D.Disk.faults c.walked.new.disk;
        held = g.K.Sink.held c.walked.new.sink;
        told = g.E.Sink.held c.walked.new.errors;
      };
    }) c.at.result c.chosen-walk.result c.at.ensures.root c.at.ensures.options c.chosen-walk.ensures.walk _ _
    c.sort_by_file_name.result c.sort_by_file_name.ensures.sorted refl c.if-choices.true c.walked.ensures.ends

pub returns-else-choices-clause-ends : goal.returns-else-choices-clause-ends
returns-else-choices-clause-ends g c =
    unsorted_visit _ (record {
      choices = c.args.choices;
      state = g.D.Disk.state c.args.disk.now;
      folder = c.args.root;
      before = record { streams = g.D.Disk.streams c.args.disk.now; disk_faults = g.D.Disk.faults c.args.disk.now; held = g.K.Sink.held c.args.sink.now; told = g.E.Sink.held c.args.errors.now };
      after = record {
        streams = g.D.Disk.streams c.walked-else-choices.new.disk;
        disk_faults = g.D.Disk.faults c.walked-else-choices.new.disk;
        held = g.K.Sink.held c.walked-else-choices.new.sink;
        told = g.E.Sink.held c.walked-else-choices.new.errors;
      };
    }) c.at.result c.chosen-walk.result c.at.ensures.root c.at.ensures.options c.at.ensures.sorter c.chosen-walk.ensures.walk _ c.if-choices.false c.walked-else-choices.ensures.ends

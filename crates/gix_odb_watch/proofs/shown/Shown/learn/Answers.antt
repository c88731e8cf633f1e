use Rattle.std.specs.FinSet as set
use Rattle.std.proofs.lemmas.Result.{on_ok_weaker}
use Rattle.gix_odb_watch.proofs.KeptLemmas.{learnt}
use Rattle.gix_odb_watch.proofs.shown.Shown.learn.Goals as goal

pub returns : goal.returns
returns c = record {
  learns =
      on_ok_weaker c.keep_all.result
      (λ kept.
      learnt c.args.self.now (set.from_list c.self.inside.folders.keys) c.self.inside.linked c.add_all.new.set c.self.inside.contents c.keep_all.new.self c.args.revealed
      c.self.view_is c.in_ok-add_all.ensures.added kept)
      c.keep_all.ensures.kept;
}

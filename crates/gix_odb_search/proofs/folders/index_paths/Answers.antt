use Rattle.std.proofs.Common.{◌∙◌}
use Rattle.gix_odb_search.proofs.IndexPathsLemmas.{paths_more}
use Rattle.gix_odb_search.proofs.folders.index_paths.Goals as goal

pub loop-entry-preserved : goal.loop-entry-preserved
loop-entry-preserved c =
    c.in_ok-put_index.ensures.put ∙ paths_more c.args.multi c.args.folder.now c.loop-entry.yielded c.in-Some.entry c.loop-entry.paths c.loop-entry.invariant

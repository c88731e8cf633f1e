use Rattle.std.specs.Prelude.{take}
use Rattle.gix_odb_watch.specs.Kept.{Fits}
use Rattle.gix_odb_world.specs.Watch.{Watches}
use Rattle.gix_odb_world.proofs.watch.watch_each.Given as goal

-- the folders so far are watched, and what is kept fits the tree
abbrev pub invariant-loop-folder : goal.invariant-loop-folder
invariant-loop-folder l = Watches l.initial.shown l.shown l.tree (take l.folder-index l.folders) × Fits l.shown l.tree

use Rattle.std.proofs.Common.{◌≡◌, ◌++◌, map}
use Rattle.odb_base.specs.Path.{Path}
use Rattle.gix_odb_watch.specs.Watched.{pack_directory}
use Rattle.gix_odb_watch.proofs.touched.add_each.Given as goal

-- those so far and those of the folders that are left are all
abbrev pub invariant-loop-folder : goal.invariant-loop-folder
invariant-loop-folder l =
    l.spots.items ++ map (λ (folder : Path). (folder, pack_directory folder)) l.folder-iterator
    ≡ l.fn.spots.items ++ map (λ (folder : Path). (folder, pack_directory folder)) l.fn.inside

use Rattle.std.proofs.Common.{◌≡◌, ◌++◌, map}
use Rattle.std.specs.List.{filter}
use Rattle.odb_base.specs.Path.{Path}
use Rattle.gix_odb_watch.specs.Touched.{is_watched}
use Rattle.gix_odb_watch.proofs.revealed.add_watched.Given as goal

-- the watched ones so far are added
abbrev pub invariant-loop-path : goal.invariant-loop-path
invariant-loop-path l = l.spots.items ≡ l.fn.spots.items ++ map (λ (path : Path). (l.folder, path)) (filter is_watched l.yielded)

use Rattle.std.proofs.Common.{◌≡◌}
use Rattle.walkdir_uses.specs.Found.{paths_of_files}
use Rattle.walkdir_uses.proofs.files_of.Given as goal

-- the paths of the files so far
abbrev pub invariant-loop-entry : goal.invariant-loop-entry
invariant-loop-entry l = l.paths.items ≡ paths_of_files l.yielded

use Rattle.std.specs.Prelude.{◌≡◌, take}
use Rattle.gix_odb_calls.proofs.init.copy_of_paths.Given as goal

-- the paths so far are copied
abbrev pub invariant-loop-path : goal.invariant-loop-path
invariant-loop-path l = l.copy ≡ take l.path-index l.paths

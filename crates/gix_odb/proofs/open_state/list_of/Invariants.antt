use Rattle.std.specs.Prelude.{◌≡◌, take}
use Rattle.gix_odb.proofs.open_state.list_of.Given as goal

-- the paths so far are in the list
abbrev pub invariant-loop-path : goal.invariant-loop-path
invariant-loop-path l = l.list ≡ take l.path-index l.paths

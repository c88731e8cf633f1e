use Rattle.std.specs.Prelude.{◌∷◌, take}
use Rattle.gix_odb_world.proofs.DistinctLemmas.{Has}
use Rattle.gix_odb_world.proofs.opening.are_good_folders.Given as goal

-- the set has the objects directory and the folders so far
abbrev pub invariant-loop-folder : goal.invariant-loop-folder
invariant-loop-folder l = Has (l.fn.path ∷ take l.folder-index l.fn.folders) l.paths

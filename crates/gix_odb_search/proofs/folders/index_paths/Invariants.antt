use Rattle.std.proofs.Common.{◌≡◌, map}
use Rattle.std.specs.List.{filter}
use Rattle.gix_odb_search.specs.PackFolder.{index_path_in, is_index_entry}
use Rattle.gix_odb_search.proofs.folders.index_paths.Given as goal

abbrev pub invariant-loop-entry : goal.invariant-loop-entry
invariant-loop-entry l = l.paths ≡ map (index_path_in l.folder) (filter (is_index_entry l.multi) (map (λ entry. entry.now) l.yielded))

use Rattle.std.proofs.Common.{◌≡◌, ◌||◌, drop, map}
use Rattle.std.specs.BTreeSet.{contains}
use Rattle.odb_base.specs.Path.{Path, path_cmp}
use Rattle.gix_odb_search.specs.MultiPack.{index_in, is_among}
use Rattle.gix_odb_search.proofs.multi_pack.put_names.Given as goal

abbrev pub invariant-loop-name : goal.invariant-loop-name
invariant-loop-name l =
    (path : Path) → (contains path_cmp l.paths path || is_among (map (index_in l.folder) (drop l.name-index l.names)) path)
    ≡ (contains path_cmp l.initial.paths path || is_among (map (index_in l.folder) l.names) path)

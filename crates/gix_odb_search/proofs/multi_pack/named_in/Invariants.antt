use Rattle.std.proofs.Common.{◌≡◌, ◌||◌, drop}
use Rattle.std.specs.BTreeSet.{contains}
use Rattle.odb_base.specs.Path.{Path, path_cmp}
use Rattle.gix_odb_search.specs.MultiPack.{is_among, named_in}
use Rattle.gix_odb_search.proofs.multi_pack.named_in.Given as goal

abbrev pub invariant-loop-row : goal.invariant-loop-row
invariant-loop-row l =
    (path : Path) → (contains path_cmp l.paths path || is_among (named_in (drop l.row-index l.rows)) path) ≡ is_among (named_in l.rows) path

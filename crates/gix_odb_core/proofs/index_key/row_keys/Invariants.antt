use Rattle.std.proofs.Common.{◌≡◌, take}
use Rattle.std.specs.BTreeSet.{contains}
use Rattle.std.specs.List.{list_any}
use Rattle.gix_odb_core.specs.IndexKeys.{key_cmp, row_has}
use Rattle.gix_odb_core.specs.declared.index_key.IndexKey.{IndexKey}
use Rattle.gix_odb_core.proofs.index_key.row_keys.Given as goal

abbrev pub invariant-loop-row : goal.invariant-loop-row
invariant-loop-row l = (key : IndexKey) → contains key_cmp l.keys key ≡ list_any (row_has key) (take l.row-index l.rows)

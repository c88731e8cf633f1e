use Rattle.std.proofs.Common.{◌≡◌, ◌++◌, drop, map}
use Rattle.gix_odb_search.specs.PackFolder.{firsts, firsts_without}
use Rattle.gix_odb_search.proofs.folders.firsts.Given as goal

abbrev pub invariant-loop-entry : goal.invariant-loop-entry
invariant-loop-entry l =
    map (λ entry. entry.now) l.found.items ++ firsts_without (map (λ name. name.now) l.names.keys) (drop l.entry-index l.entries) ≡ firsts l.entries

use Rattle.std.proofs.Common.{◌≡◌, [], ◌∷◌, ◌++◌, length, map}
use Rattle.odb_disk.specs.declared.entry.Entry.{Entry}
use Rattle.gix_odb_watch.specs.Files.{listed_paths}
use Rattle.gix_odb_watch.proofs.sight.add_listed.Given as goal

-- the paths so far and those of the entries that are left are those of all
abbrev pub invariant-loop-entry : goal.invariant-loop-entry
invariant-loop-entry l =
    l.paths.items ++ map (λ (entry : Entry). l.directory ++ entry.name ∷ []) l.entries ≡ l.fn.paths.items ++ listed_paths l.tree l.listed_at l.directory

abbrev pub decreases-loop-entry : goal.decreases-loop-entry
decreases-loop-entry l = length l.entries

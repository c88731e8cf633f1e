use Rattle.std.proofs.Common.{◌≡◌, ◌++◌}
use Rattle.std.specs.List.{flat_map}
use Rattle.gix_odb_watch.specs.Files.{file_at}
use Rattle.gix_odb_watch.specs.Revealed.{linked_at}
use Rattle.gix_odb_watch.specs.Touched.{Spot}
use Rattle.gix_odb_watch.proofs.revealed.read_all.Given as goal

-- the paths so far are read
abbrev pub invariant-loop-folder : goal.invariant-loop-folder
invariant-loop-folder l =
    (l.revealed.files.items ≡ l.fn.revealed.files.items ++ flat_map (λ (spot : Spot). file_at l.sight spot.1) l.yielded)
    × (l.revealed.linked.items ≡ l.fn.revealed.linked.items ++ flat_map (linked_at l.sight) l.yielded)

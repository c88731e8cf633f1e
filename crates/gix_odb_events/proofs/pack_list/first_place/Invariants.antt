use Rattle.std.proofs.Common.{◌≡◌, false, take}
use Rattle.std.specs.List.{list_any}
use Rattle.gix_odb_events.specs.PackList.{has_path}
use Rattle.gix_odb_events.proofs.pack_list.first_place.Given as goal

-- no pack so far has the path
abbrev pub invariant-loop-place : goal.invariant-loop-place
invariant-loop-place l = list_any (has_path l.path) (take l.place l.packs) ≡ false

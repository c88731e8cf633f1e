use Rattle.std.proofs.Common.{◌≡◌, map}
use Rattle.walkdir_uses.specs.Found.{visible_names}
use Rattle.walkdir_uses.proofs.visible_names_of.Given as goal

-- the names so far that aren't hidden
abbrev pub invariant-loop-entry : goal.invariant-loop-entry
invariant-loop-entry l = map (λ name. name.bytes.items) l.names.items ≡ visible_names l.yielded

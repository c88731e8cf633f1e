-- The names so far, composed.
use Rattle.std.proofs.Common.{◌≡◌, map, take}
use Rattle.gix_features.specs.Composed.{composed_path}
use Rattle.gix_features.proofs.fs.composed.composed_names.Given as goal

abbrev pub invariant-loop-name : goal.invariant-loop-name
invariant-loop-name l = l.composed ≡ composed_path (map (λ name. name.now) (take l.name-index l.names))

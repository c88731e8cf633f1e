use Rattle.std.proofs.Common.{◌≡◌, ◌-◌, take, length}
use Rattle.std.specs.String.{string_bytes}
use Rattle.odb_base.specs.JoinedPath.{joined}
use Rattle.odb_base.proofs.path.PathText.common_front.Given as goal

-- the names so far are those of both
abbrev pub invariant-loop-name : goal.invariant-loop-name
invariant-loop-name l = record {
  taken : string_bytes l.joined ≡ joined (take l.shared l.self);
  same : take l.shared l.self ≡ take l.shared l.other;
}

abbrev pub decreases-loop-name : goal.decreases-loop-name
decreases-loop-name l = length l.self - l.shared

use Rattle.std.proofs.Common.{◌≡◌, ◌+◌, ◌-◌, ◌^◌, ◌<◌, ◌≤◌}
use Rattle.gix_features_parts.proofs.Leb64Lemmas.{ReadSoFar}
use Rattle.gix_features_parts.proofs.decode.leb64_from_read.Given as goal

-- the bytes so far spell the number so far
abbrev pub invariant-reading : goal.invariant-reading
invariant-reading g l = record {
  read : ReadSoFar (g.S.Source.left l.fn.source) (g.S.Source.left l.source) l.value l.count l.more;
  same : g.S.Source.faults l.source ≡ g.S.Source.faults l.fn.source;
  fits : l.value < 2 ^ 64;
  short : l.count ≤ l.value + 1;
}

-- the number grows
abbrev pub decreases-reading : goal.decreases-reading
decreases-reading g l = 2 ^ 64 - l.value

use Rattle.std.proofs.Common.{◌≤◌, ◌+◌, ◌-◌, vec_len, length}
use Rattle.odb_base.specs.Source.{piece_length}
use Rattle.odb_base.proofs.SourceLemmas.{ReadsSoFar}
use Rattle.odb_base.proofs.source.read_file.Given as goal

-- what was left is what was read so far and what is left now, no fault was lost, and not too much was read
abbrev pub invariant-reading : goal.invariant-reading
invariant-reading g l =
    ReadsSoFar (g.S.Source.left l.fn.source) (g.S.Source.left l.source) l.bytes.items × (g.S.Source.faults l.fn.source ≤ g.S.Source.faults l.source) × (length l.bytes.items ≤ l.limit + piece_length)

abbrev pub decreases-reading : goal.decreases-reading
decreases-reading g l = l.limit + 1 - vec_len l.bytes

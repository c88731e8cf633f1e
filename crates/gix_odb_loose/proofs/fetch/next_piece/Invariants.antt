use Rattle.std.proofs.Common.{◌≡◌, ◌≤◌, ◌-◌, vec_len}
use Rattle.gix_odb_loose.specs.WriteStreams.{Draws}
use Rattle.gix_odb_loose.proofs.fetch.next_piece.Given as goal

-- what was read so far is kept
abbrev pub invariant-reads : goal.invariant-reads
invariant-reads g l = record {
  drawn : Draws (g.S.Source.left l.initial.from) (g.S.Source.left l.from) l.bytes.items;
  few : vec_len l.bytes ≤ l.most;
  same : g.S.Source.faults l.from ≡ g.S.Source.faults l.initial.from;
}

abbrev pub decreases-reads : goal.decreases-reads
decreases-reads g l = l.most - vec_len l.bytes

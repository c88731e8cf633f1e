use Rattle.std.proofs.Common.{◌≤◌, length}
use Rattle.odb_base.proofs.SourceLemmas.{Written}
use Rattle.odb_base.proofs.source.write_all.Given as goal

-- a prefix of the bytes is written, and no fault was lost
abbrev pub invariant-writing : goal.invariant-writing
invariant-writing g l =
    Written (g.K.Sink.held l.fn.sink) (g.K.Sink.held l.sink) l.bytes l.rest × (g.K.Sink.faults l.fn.sink ≤ g.K.Sink.faults l.sink)

abbrev pub decreases-writing : goal.decreases-writing
decreases-writing g l = length l.rest

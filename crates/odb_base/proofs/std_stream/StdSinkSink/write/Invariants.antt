use Rattle.std.proofs.Common.{◌≡◌}
use Rattle.std.specs.Io.KnownBytes.{Keeps}
use Rattle.odb_base.proofs.std_stream.StdSinkSink.write.Given as goal

-- a write that was interrupted added nothing
abbrev pub invariant-loop : goal.invariant-loop
invariant-loop g l = (l.self.faults ≡ l.initial.self.faults) × Keeps (g.W.Write.contents l.initial.self.inner) (g.W.Write.contents l.self.inner)

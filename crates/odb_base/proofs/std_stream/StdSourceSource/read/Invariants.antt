use Rattle.std.proofs.Common.{◌≡◌}
use Rattle.std.specs.Io.KnownBytes.{Keeps}
use Rattle.odb_base.proofs.std_stream.StdSourceSource.read.Given as goal

-- a read that was interrupted took nothing
abbrev pub invariant-loop : goal.invariant-loop
invariant-loop g l = (l.self.faults ≡ l.initial.self.faults) × Keeps (g.R.Read.remaining l.initial.self.inner) (g.R.Read.remaining l.self.inner)

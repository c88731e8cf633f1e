use Rattle.std.proofs.Common.{◌≡◌, map}
use Rattle.odb_disk.proofs.entry.EntryQueue.try_clone.Given as goal

-- the entries so far are copied
abbrev pub invariant-loop-entry : goal.invariant-loop-entry
invariant-loop-entry l = l.copy ≡ map (λ e. e.now) l.yielded

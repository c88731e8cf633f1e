use Rattle.std.proofs.Common.{◌≡◌, map}
use Rattle.std.specs.List.{All}
use Rattle.gix_odb_core.specs.History.{History}
use Rattle.gix_odb_core.specs.Journal.{entries_of}
use Rattle.gix_odb_history.specs.JournalKept.{IsJournal}
use Rattle.gix_odb_history.proofs.cores.journals_of.Given as goal

-- the journals so far are those of the cores so far
abbrev pub invariant-loop-core : goal.invariant-loop-core
invariant-loop-core l = (map entries_of l.journals ≡ map (λ (h : History). h.entries) l.yielded) × All IsJournal l.yielded

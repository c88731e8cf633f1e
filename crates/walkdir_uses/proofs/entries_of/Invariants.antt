use Rattle.std.proofs.Common.{◌≡◌, map, Ok}
use Rattle.walkdir_uses.proofs.entries_of.Given as goal

-- the items so far are entries, and the walk is on the same disk, whose state stays as it was
abbrev pub invariant-loop-entry : goal.invariant-loop-entry
invariant-loop-entry g l = record {
  items : map Ok l.entries.items ≡ l.yielded;
  same_disk : l.entry-iterator.disk.ghost_name ≡ l.initial.entry-iterator.disk.ghost_name;
  kept : g.D.Disk.state l.entry-iterator.disk.now ≡ g.D.Disk.state l.initial.entry-iterator.disk.now;
}

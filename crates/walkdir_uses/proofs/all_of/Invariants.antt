use Rattle.std.proofs.Common.{map, Ok}
use Rattle.std.specs.Iterator.{IsFinite, Yields, size}
use Rattle.walkdir_uses.proofs.all_of.Given as goal

-- the items so far are entries
abbrev pub invariant-loop-item : goal.invariant-loop-item
invariant-loop-item g l = record {
  can : g.W.Iterator.can_next l.walk;
  finite : IsFinite (g.W.Iterator.remaining l.walk);
  gave : Yields g.W.Iterator.next_gives l.fn.walk (map Ok l.entries.items) l.walk;
}

abbrev pub decreases-loop-item : goal.decreases-loop-item
decreases-loop-item g l = size (g.W.Iterator.remaining l.walk)

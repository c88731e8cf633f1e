-- What the filter gives from here on is what it gives from where it began.
use Rattle.std.proofs.Common.{◌≤◌}
use Rattle.std.specs.Iterator.{IsFinite, size}
use Rattle.walkdir.proofs.FilterLemmas.{PassesOn}
use Rattle.walkdir.proofs.filter.FilterEntryIterator.next.Given as goal

abbrev pub invariant-loop-error : goal.invariant-loop-error
invariant-loop-error g l = record {
  can : g.I.Iterator.can_next l.self.walk;
  finite : IsFinite (g.I.Iterator.remaining l.self.walk);
  callable : goal.P-IsAlwaysCallable g l.self.predicate;
  fewer : size (g.I.Iterator.remaining l.self.walk) ≤ size (g.I.Iterator.remaining l.initial.self.walk);
  passes : PassesOn g.I.Iterator.next_gives g.I.Walk.skips g.I.Walk.entered g.P.FnMut l.initial.self.walk l.initial.self.predicate l.self.walk
      l.self.predicate;
}

abbrev pub decreases-loop-error : goal.decreases-loop-error
decreases-loop-error g l = size (g.I.Iterator.remaining l.self.walk)

-- A walk can go on, and ends.
use Rattle.std.specs.Iterator.{IsFinite}
use Rattle.walk_tests.proofs.led.take_steps.Given as goal

abbrev pub invariant-loop-word : goal.invariant-loop-word
invariant-loop-word g l = record {
  can : g.W.Iterator.can_next l.walk;
  ends : IsFinite (g.W.Iterator.remaining l.walk);
}

use Rattle.std.proofs.Common.{◌≡◌, ◌∙◌, ap, sym, true, is_some}
use Rattle.std.specs.FinMap as finite
use Rattle.std.specs.Ordering.{nat_cmp}
use borrow.Author.Count.{below_more}
use Rattle.odb_disk.proofs.StreamsLemmas.{get-lists}
use Rattle.odb_mem_disk.proofs.dir_streams.least_closed.Goals as goal

pub returns-then-not-contains_key-clause-least : goal.returns-then-not-contains_key-clause-least
returns-then-not-contains_key-clause-least c = record {
  free = ap is_some (get-lists c.args.lists.now.entries c.loop-number.number-counter) ∙ sym c.contains_key.ensures ∙ c.if-not-contains_key.true;
  least = c.loop-number.invariant.each;
}

pub loop-number-preserved : goal.loop-number-preserved
loop-number-preserved c = record {
  each = below_more (λ n. finite.contains_key (finite.from_entries {R = nat_cmp} c.args.lists.now.entries) n ≡ true) c.loop-number.number-counter c.loop-number.invariant.each
      (ap is_some (get-lists c.args.lists.now.entries c.loop-number.number-counter) ∙ sym c.contains_key.ensures ∙ c.if-not-contains_key.false);
}

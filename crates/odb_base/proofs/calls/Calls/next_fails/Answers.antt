use Rattle.std.proofs.Common.{sym, ap, ◌∙◌}
use Rattle.std.specs.Ordering.{nat_cmp}
use Rattle.std.specs.BTreeSet.{contains}
use Rattle.odb_base.proofs.CallsLemmas.{contains-keys}
use Rattle.odb_base.proofs.calls.Calls.next_fails.Goals as goal

pub returns : goal.returns
returns c = record {
  fails = let listed = c.self.inside.listed in
      rw (← c.self.view_is) (c.contains.ensures ∙ ap (contains nat_cmp listed) c.saturating_add.ensures ∙ sym (contains-keys listed _));
}

use Rattle.std.proofs.Common.{◌∙◌, ap}
use Rattle.std.specs.FinMap as finite
use Rattle.std.specs.Ordering.{nat_cmp}
use Rattle.std.specs.Cmp.{nat_cmp_total}
use Rattle.std.specs.Map.Iter.{deref_pair}
use Rattle.std.proofs.lemmas.Map.Iter.{btree_map_turn}
use Rattle.odb_disk.proofs.StreamsLemmas.{get-lists, lists_put, none_copied, one_copied, all_copied}
use Rattle.odb_mem_disk.proofs.dir_streams.copied.Goals as goal

pub loop-number-init : goal.loop-number-init
loop-number-init c = λ q. none_copied c.args.lists.now.entries c.new-copy.result.entries _ q c.new-copy.ensures.empty c.into_iter-number-iterator.ensures.into_iter_gives.0

pub loop-number-preserved : goal.loop-number-preserved
loop-number-preserved c =
    let all = c.args.lists.now in
    let gives = c.into_iter-number-iterator.ensures.into_iter_gives in
    let turn = btree_map_turn deref_pair _ _ _ _ _ _ c.loop-number.yielded_by c.in-Some.is c.next.ensures.steps nat_cmp_total all gives.0 gives.5 in
    one_copied _ _ _ c.in-Some.number.now c.in-Some.entries.now c.loop-number.number-iterator c.next.new.self (get-lists all.entries _ ∙ turn.1) c.in-Some.ensures.steps
    (lists_put c.loop-number.copy.entries c.insert.new.self.entries c.in-Some.number.now c.in_ok-try_clone.field-0 c.in_ok-insert.ensures.updates.0
    ∙ ap (finite.insert (finite.from_entries {R = nat_cmp} c.loop-number.copy.entries) c.in-Some.number.now) c.in_ok-try_clone.ensures.copy)
    c.loop-number.invariant

pub loop-number-preserved-in_ok-insert : goal.loop-number-preserved-in_ok-insert
loop-number-preserved-in_ok-insert c =
    let all = c.args.lists.now in
    let gives = c.into_iter-number-iterator.ensures.into_iter_gives in
    let turn = btree_map_turn deref_pair _ _ _ _ _ _ c.loop-number.yielded_by c.in-Some.is c.next.ensures.steps nat_cmp_total all gives.0 gives.5 in
    one_copied _ _ _ c.in-Some.number.now c.in-Some.entries.now c.loop-number.number-iterator c.next.new.self (get-lists all.entries _ ∙ turn.1) c.in-Some.ensures.steps
    (lists_put c.loop-number.copy.entries c.insert.new.self.entries c.in-Some.number.now c.in_ok-try_clone.field-0 c.in_ok-insert.ensures.updates.0
    ∙ ap (finite.insert (finite.from_entries {R = nat_cmp} c.loop-number.copy.entries) c.in-Some.number.now) c.in_ok-try_clone.ensures.copy)
    c.loop-number.invariant

pub returns : goal.returns
returns c = record { copy = ap (λ m. record { open_dirs = m; peak = 0 }) (all_copied _ _ c.loop-number.number-iterator c.in-None.ensures.steps.0 c.loop-number.invariant) }

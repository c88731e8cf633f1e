use Rattle.std.proofs.Common.{◌+◌, max, ap, sym, subst, ◌∙◌}
use Rattle.std.specs.FinMap as finite
use Rattle.std.specs.Ordering.{nat_cmp}
use Rattle.odb_disk.specs.StreamNumbers.{AreOpenBelow}
use Rattle.odb_disk.specs.Streams.{Streams, with_opened}
use Rattle.odb_disk.proofs.StreamsLemmas.{len-lists, lists_put, open_more}
use Rattle.odb_mem_disk.proofs.dir_streams.DirStreams.open.Goals as goal

pub returns-clause-opened : goal.returns-clause-opened
returns-clause-opened c =
    let old = c.self.inside in
    let number = c.in_ok-number.number in
    let entries = c.args.entries in
    let put = lists_put old.lists.entries c.insert.new.self.entries number entries c.in_ok-insert.ensures.updates.0 in
    let count = ap finite.len (sym put) ∙ len-lists c.insert.new.self.entries c.len.ensures.ordered ∙ sym c.len.ensures.len in
    ap (λ m. record { open_dirs = m; peak = c.max-self-inside.result }) put
    ∙ ap (λ p. record { open_dirs = finite.insert (finite.from_entries {R = nat_cmp} old.lists.entries) number entries; peak = p }) (c.max-self-inside.ensures ∙ ap (max old.peak) (sym count))
    ∙ ap (λ (s : Streams). with_opened s number entries) c.self.view_is ∙ ap (λ n. with_opened c.args.self.now n entries) (sym c.new.ensures.number)

pub invariant_of-self-2 : goal.invariant_of-self-2
invariant_of-self-2 c =
    let old = c.self.inside in
    let number = c.in_ok-number.number in
    subst (λ m. AreOpenBelow m (number + 1)) (sym (lists_put old.lists.entries c.insert.new.self.entries number c.args.entries c.in_ok-insert.ensures.updates.0))
    (open_more (finite.from_entries old.lists.entries) number c.args.entries c.in_ok-number.ensures.least)

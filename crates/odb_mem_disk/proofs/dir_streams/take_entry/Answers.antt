use Rattle.std.proofs.Common.{ap, sym, ◌∙◌}
use Rattle.odb_disk.proofs.TreeLemmas.{IsSome-from}
use Rattle.odb_disk.specs.Streams.{lists_only}
use Rattle.odb_disk.proofs.StreamsLemmas.{get-lists, taken}
use Rattle.odb_mem_disk.proofs.dir_streams.take_entry.Goals as goal

pub returns-in-Some : goal.returns-in-Some
returns-in-Some c = record {
  takes = let found = c.in-Some.ensures.value in
      let w = c.get_mut.follows.holds c.pop.new.self in
      taken c.args.lists.now.entries _ c.args.number c.in-Some.entries.now c.pop.new.self c.pop.result
      (sym found) (w.3 (IsSome-from _ _ found)).0 c.pop.ensures.first c.pop.ensures.none c.pop.ensures.kept c.pop.ensures.named;
}

pub returns-in-None : goal.returns-in-None
returns-in-None c = record {
  takes = record {
    closed = get-lists c.args.lists.now.entries c.args.number ∙ sym c.in-None.ensures.value;
    same = ap (λ m. lists_only m.entries) c.get_mut.follows.holds-at-none;
  };
}

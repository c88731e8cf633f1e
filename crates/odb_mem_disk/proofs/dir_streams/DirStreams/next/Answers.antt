use Rattle.odb_disk.proofs.StreamsLemmas.{TakesNext-peak, open_taken}
use Rattle.odb_mem_disk.proofs.dir_streams.DirStreams.next.Goals as goal

pub returns : goal.returns
returns c = record {
  takes = let old = c.self.inside in
      rw (← c.self.view_is) (rw (← c.number.ensures.number) (TakesNext-peak old.lists.entries c.take_entry.new.lists.entries old.peak c.number.result c.take_entry.result c.take_entry.ensures.takes));
}

pub invariant_of-self : goal.invariant_of-self
invariant_of-self c =
    let old = c.self.inside in
    open_taken old.lists.entries c.take_entry.new.lists.entries c.number.result old.open_below c.take_entry.result c.take_entry.ensures.takes c.self.invariant

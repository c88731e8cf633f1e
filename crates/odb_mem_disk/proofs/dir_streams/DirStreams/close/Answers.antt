use Rattle.std.proofs.Common.{ap, sym, subst, ◌∙◌, arith}
use Rattle.std.specs.FinMap as finite
use Rattle.odb_disk.specs.Streams.{Streams, with_closed}
use Rattle.odb_disk.specs.StreamNumbers.{AreOpenBelow}
use Rattle.odb_disk.proofs.StreamsLemmas.{lists_take, open_less}
use Rattle.odb_mem_disk.proofs.dir_streams.DirStreams.close.Goals as goal

pub returns : goal.returns
returns c = record {
  closed = let old = c.self.inside in
      ap (λ m. record { open_dirs = m; peak = old.peak }) (lists_take old.lists.entries c.remove.new.self.entries c.number-number.result c.remove.ensures.updates.0)
      ∙ ap (λ n. record { open_dirs = finite.remove (finite.from_entries old.lists.entries) n; peak = old.peak }) c.number-number.ensures.number
      ∙ ap (λ (s : Streams). with_closed s c.args.dir.now) c.self.view_is;
}

pub invariant_of-self : goal.invariant_of-self
invariant_of-self c =
    let old = c.self.inside in
    subst (λ m. AreOpenBelow m c.min-self-inside.result) (sym (lists_take old.lists.entries c.remove.new.self.entries c.number-number.result c.remove.ensures.updates.0))
    (open_less (finite.from_entries old.lists.entries) c.number-number.result old.open_below c.min-self-inside.result
    (omega (arith, c.min-self-inside.ensures)) (omega (arith, c.min-self-inside.ensures)) c.self.invariant)

use Rattle.std.proofs.Common.{◌∙◌, sym, rules}
use Rattle.odb_disk.specs.declared.ask.DiskAsk.TheVariants as asks
use Rattle.odb_disk.proofs.AskLemmas.Carried.{asks_rename}
use Rattle.odb_disk.proofs.AskLemmas.InMemory.{counted_failed}
use Rattle.odb_disk.proofs.AskLemmas.Writes.{written_tree, writes}
use Rattle.odb_mem_disk.proofs.mem_disk.MemDiskDisk.rename.Goals as goal

pub invariant_of-self : goal.invariant_of-self
invariant_of-self c = written_tree (asks_rename c.args.from.now c.args.to.now) c.rename.result c.self.inside.tree _ c.rename.ensures.made c.rename.ensures.kept c.self.invariant

pub returns-then-count-clause-answered : goal.returns-then-count-clause-answered
returns-then-count-clause-answered c = counted_failed c.args.self.now _ (asks.Rename c.args.from.now c.args.to.now) c.count.ensures.counted (sym c.count.ensures.fails ∙ c.if-count.true)

pub returns : goal.returns
returns c =
    let is = writes (asks_rename c.args.from.now c.args.to.now) c.rename.result c.self.inside.tree c.rename.new.self c.rename.ensures.made c.rename.ensures.kept c.args.self.now
    (c.self.view_is ∙ c.count.ensures.counted) (sym c.count.ensures.fails ∙ c.if-count.false) c.rename.ensures.told in
    record { answer = is.answer; tree = search rules; made = is.made; kept = is.kept; streams = search rules; cause = search rules; answered = is.answered }

use Rattle.std.proofs.Common.{◌∙◌, sym, rules}
use Rattle.odb_disk.specs.declared.ask.DiskAsk.TheVariants as asks
use Rattle.odb_disk.proofs.AskLemmas.Carried.{asks_new_file}
use Rattle.odb_disk.proofs.AskLemmas.InMemory.{counted_failed}
use Rattle.odb_disk.proofs.AskLemmas.Writes.{written_tree, writes}
use Rattle.odb_mem_disk.proofs.mem_disk.MemDiskDisk.new_file.Goals as goal

pub invariant_of-self : goal.invariant_of-self
invariant_of-self c = written_tree (asks_new_file c.args.path.now) c.new_file.result c.self.inside.tree _ c.new_file.ensures.made c.new_file.ensures.kept c.self.invariant

pub returns-then-count-clause-answered : goal.returns-then-count-clause-answered
returns-then-count-clause-answered c = counted_failed c.args.self.now _ (asks.NewFile c.args.path.now) c.count.ensures.counted (sym c.count.ensures.fails ∙ c.if-count.true)

pub returns : goal.returns
returns c =
    let is = writes (asks_new_file c.args.path.now) c.new_file.result c.self.inside.tree c.new_file.new.self c.new_file.ensures.made c.new_file.ensures.kept c.args.self.now
    (c.self.view_is ∙ c.count.ensures.counted) (sym c.count.ensures.fails ∙ c.if-count.false) c.new_file.ensures.told in
    record { answer = is.answer; tree = search rules; made = is.made; kept = is.kept; streams = search rules; cause = search rules; answered = is.answered }

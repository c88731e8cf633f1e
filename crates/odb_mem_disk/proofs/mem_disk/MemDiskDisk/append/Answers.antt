use Rattle.std.proofs.Common.{◌∙◌, sym, rules}
use Rattle.odb_disk.specs.declared.ask.DiskAsk.TheVariants as asks
use Rattle.odb_disk.proofs.AskLemmas.Carried.{asks_append}
use Rattle.odb_disk.proofs.AskLemmas.InMemory.{counted_failed}
use Rattle.odb_disk.proofs.AskLemmas.Writes.{written_tree, writes}
use Rattle.odb_mem_disk.proofs.mem_disk.MemDiskDisk.append.Goals as goal

pub invariant_of-self : goal.invariant_of-self
invariant_of-self c = written_tree (asks_append c.args.path.now c.args.bytes.now) c.append.result c.self.inside.tree _ c.append.ensures.made c.append.ensures.kept c.self.invariant

pub returns-then-count-clause-answered : goal.returns-then-count-clause-answered
returns-then-count-clause-answered c = counted_failed c.args.self.now _ (asks.Append c.args.path.now c.args.bytes.now) c.count.ensures.counted (sym c.count.ensures.fails ∙ c.if-count.true)

pub returns : goal.returns
returns c =
    let is = writes (asks_append c.args.path.now c.args.bytes.now) c.append.result c.self.inside.tree c.append.new.self c.append.ensures.made c.append.ensures.kept c.args.self.now
    (c.self.view_is ∙ c.count.ensures.counted) (sym c.count.ensures.fails ∙ c.if-count.false) c.append.ensures.told in
    record { answer = is.answer; tree = search rules; made = is.made; kept = is.kept; streams = search rules; cause = search rules; answered = is.answered }

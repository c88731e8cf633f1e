use Rattle.std.proofs.Common.{◌∙◌, ap}
use Rattle.odb_disk.proofs.StreamsLemmas.{gives, gives_absent}
use Rattle.odb_mem_disk.proofs.mem_disk.MemDiskDisk.next_entry.Goals as goal

pub returns-in_default-clause-gives : goal.returns-in_default-clause-gives
returns-in_default-clause-gives c =
    gives_absent c.self.inside.streams c.args.self.now.streams c.next.new.self c.args.dir.now (ap (λ v. v.streams) c.self.view_is ∙ c.count.ensures.streams) c.in_default.ensures.takes

pub returns-clause-gives : goal.returns-clause-gives
returns-clause-gives c =
    gives c.self.inside.streams c.args.self.now.streams c.next.new.self c.args.dir.now (ap (λ v. v.streams) c.self.view_is ∙ c.count.ensures.streams) c.in-Some.next c.in-Some.ensures.takes

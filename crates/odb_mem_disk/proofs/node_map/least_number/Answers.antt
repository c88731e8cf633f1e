use Rattle.odb_disk.proofs.TreeNumbersLemmas.Taken.{IsLeastFree-first}
use Rattle.odb_mem_disk.proofs.node_map.least_number.Goals as goal

pub returns-in-Some : goal.returns-in-Some
returns-in-Some c = record { least = IsLeastFree-first c.args.free.now.keys c.args.next c.in-Some.number.now c.in-Some.ensures.member c.in-Some.ensures.least }

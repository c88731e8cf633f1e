use Rattle.odb_disk.proofs.MemDiskLemmas.{new_disk}
use Rattle.odb_mem_disk.proofs.mem_disk.MemDisk.with_faults.Goals as goal

pub returns : goal.returns
returns c = record { bare = new_disk _ _ _ _ c.in_ok-bare.ensures.bare c.new.ensures.empty c.in_ok-with_faults.ensures.listed }

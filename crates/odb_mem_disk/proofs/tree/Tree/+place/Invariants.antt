use Rattle.odb_mem_disk.proofs.tree.Tree.+place.Given as goal

abbrev pub decreases-place : goal.decreases-place
decreases-place l = l.links

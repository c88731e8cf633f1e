use Rattle.odb_mem_disk.proofs.tree.Tree.+follow.Given as goal

abbrev pub decreases-follow : goal.decreases-follow
decreases-follow l = l.links

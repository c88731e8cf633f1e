use Rattle.odb_mem_disk.proofs.tree.Tree.+add_ways.Given as goal

abbrev pub decreases-add_ways : goal.decreases-add_ways
decreases-add_ways l = l.links

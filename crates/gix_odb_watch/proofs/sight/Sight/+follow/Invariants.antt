use Rattle.gix_odb_watch.proofs.sight.Sight.+follow.Given as goal

abbrev pub decreases-follow : goal.decreases-follow
decreases-follow l = l.links

-- A skip drops the walks of the children that a directory has left, and nothing else.
use Rattle.walkdir.proofs.SkipLaws.{skip_drops, skip_leaves}
use Rattle.walkdir.proofs.iter.OnDisk.skip_current_dir.Goals as goal

pub returns-clause-drops : goal.returns-clause-drops
returns-clause-drops g c = λ walk before keeps. skip_drops walk before _ _ keeps c.skip.ensures.skips

pub returns-clause-leaves : goal.returns-clause-leaves
returns-clause-leaves g c = λ walk before keeps. skip_leaves walk before _ _ keeps c.skip.ensures.skips

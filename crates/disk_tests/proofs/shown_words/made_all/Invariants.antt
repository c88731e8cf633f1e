use Rattle.gix_odb_watch.specs.Kept.{Fits}
use Rattle.disk_tests.proofs.shown_words.made_all.Given as goal

-- what is kept fits the tree
abbrev pub invariant-loop-words : goal.invariant-loop-words
invariant-loop-words l = Fits l.shown l.tree

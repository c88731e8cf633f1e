use Rattle.gix_odb_watch.specs.Files.{KeepsFiles}
use Rattle.gix_odb_watch.proofs.contents.Contents.keep_all.Given as goal

-- the files so far are kept
abbrev pub invariant-loop-file : goal.invariant-loop-file
invariant-loop-file l = KeepsFiles l.fn.self l.yielded l.self

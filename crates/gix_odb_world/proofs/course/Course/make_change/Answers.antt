use Rattle.std.proofs.lemmas.Result.{on_ok_weaker}
use Rattle.odb_disk.specs.Tree.{Tree, tree_of}
use Rattle.odb_disk.specs.Tree.Change.{changed}
use Rattle.gix_odb_watch.specs.Kept.{Fits}
use Rattle.gix_odb_world.proofs.FitsLemmas.{fits_now}
use Rattle.gix_odb_world.proofs.StepLemmas.{made_change, no_second}
use Rattle.gix_odb_world.proofs.course.Course.make_change.Goals as goal

-- what the change makes watched paths show is kept, and it shows no second content
pub returns-in_ok-made-in-Ok-clause-continues : goal.returns-in_ok-made-in-Ok-clause-continues
returns-in_ok-made-in-Ok-clause-continues c =
    let before : Tree = tree_of c.args.self.now.disk.state in
    let after : Tree = changed before c.args.change.now in
    let here : Fits c.args.self.now.shown before = fits_now c.args.self.now c.requires.explained in
    on_ok_weaker c.note.result
    (made_change c.args.self.now c.note.new.self c.keep.new.self c.change.new.self c.args.change.now c.in_ok-made-in-Ok.made c.requires.valid
    (record {
      notes = c.in_ok-keep.ensures.notes before after here c.requires.tells;
      fits = c.in_ok-keep.ensures.fits before after here c.requires.tells (no_second c.args.self.now c.args.change.now c.requires.valid);
    })
    c.in-Ok.ensures.made c.in_ok-made-in-Ok.ensures.copy) c.note.ensures.notes

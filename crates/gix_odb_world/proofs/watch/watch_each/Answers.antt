use Rattle.std.proofs.Common.{subst, arith}
use Rattle.std.proofs.lemmas.List.{take_all}
use Rattle.gix_odb_world.specs.Watch.{Watches}
use Rattle.gix_odb_world.proofs.WatchLemmas.{watches_more, watches_none}
use Rattle.gix_odb_world.proofs.watch.watch_each.Goals as goal

pub loop-folder-init : goal.loop-folder-init
loop-folder-init c = (watches_none c.args.shown.now c.args.tree.now, c.requires.fits)

pub loop-folder-preserved : goal.loop-folder-preserved
loop-folder-preserved c = (
  watches_more c.args.shown.now c.loop-folder.shown c.watch.new.self c.args.tree.now c.args.folders.now c.loop-folder.folder-index c.folder-item.result
      c.loop-folder-test.true c.folder-item.is c.in_ok-watch.ensures.notes c.in_ok-watch.ensures.fits c.loop-folder.invariant.0,
  c.in_ok-watch.ensures.fits,
)

pub returns : goal.returns
returns c = record {
  watches =
      let done = c.loop-folder-test.false in
      subst (Watches c.args.shown.now c.loop-folder.shown c.args.tree.now) (take_all c.loop-folder.folder-index c.args.folders.now (omega (arith, done))) c.loop-folder.invariant.0;
}

use Rattle.std.proofs.Common.{List, subst}
use Rattle.std.proofs.lemmas.Result.{on_ok_weaker}
use Rattle.odb_base.specs.Path.{Path}
use Rattle.gix_odb_world.specs.Watch.{Watches}
use Rattle.gix_odb_world.proofs.WatchLemmas.{watches_first}
use Rattle.gix_odb_world.proofs.watch.watch_store.Goals as goal

pub returns : goal.returns
returns c = record {
  watches =
      on_ok_weaker c.watch_each.result
      (λ watches.
      watches_first c.args.shown.now c.watch.new.self c.watch_each.new.shown c.args.tree.now c.args.path.now c.args.folders.now c.in_ok-watch.ensures.notes c.in_ok-watch.ensures.fits
      (subst (λ (folders : List Path). Watches c.watch.new.self c.watch_each.new.shown c.args.tree.now folders) c.as_slice.ensures.value watches))
      c.watch_each.ensures.watches;
}

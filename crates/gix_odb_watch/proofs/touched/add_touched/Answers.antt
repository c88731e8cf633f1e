use Rattle.std.proofs.Common.{◌∙◌, sym}
use Rattle.std.proofs.lemmas.Result.{on_ok_weaker}
use Rattle.gix_odb_watch.proofs.TouchedLemmas.{touched_own}
use Rattle.gix_odb_watch.proofs.touched.add_touched.Goals as goal

pub returns : goal.returns
returns c =
    let told = rw c.in-Some-2.is at c.in_ok-folder_of.ensures.folder in
    record {
      added =
          on_ok_weaker c.add_pair.result
          (λ added.
          touched_own c.args.watched.now.keys c.args.place.now c.args.spots.now.items c.add_inside.new.spots.items c.add_pair.new.pairs.items c.in-Some-2.folder c.in-Some.directory
          c.in_ok-try_clone-in-Some-2.field-0 c.in_ok-add_inside.ensures.added (sym c.in_ok-directory.ensures.directory ∙ c.in-Some.is) told.0 told.1 c.in_ok-try_clone-in-Some-2.ensures.copy added)
          c.add_pair.ensures.added;
    }

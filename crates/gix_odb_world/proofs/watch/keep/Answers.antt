use Rattle.gix_odb_world.proofs.JudgedLemmas.{kept_made}
use Rattle.gix_odb_world.proofs.watch.keep.Goals as goal

-- the change that was judged was made
pub returns-in-Some-change : goal.returns-in-Some-change
returns-in-Some-change c = record {
  noted = kept_made c.args.shown.now c.keep.new.self c.args.revealed c.in-Some.revealed c.in-Some.is c.args.change.now _ c.in-Some-change.is c.keep.result c.keep.ensures.notes
      c.keep.ensures.fits;
}

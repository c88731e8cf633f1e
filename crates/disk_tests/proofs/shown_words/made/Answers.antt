use Rattle.std.proofs.Common.{◌∙◌, sym, subst}
use Rattle.std.proofs.lemmas.Bool.{false≢true}
use Rattle.odb_disk.specs.Tree.Change.{changed}
use Rattle.gix_odb_watch.specs.Kept.{Fits}
use Rattle.disk_tests.proofs.shown_words.made.Goals as goal

-- in what was revealed there is no second content
pub returns : goal.returns
returns c =
    let after = changed c.args.tree.now c.args.change.now in
    record {
      fits = subst (Fits c.keep.new.self) (sym c.in_ok-change.ensures.made)
          (c.in_ok-keep.ensures.fits c.args.tree.now after c.requires.fits c.in_ok-revealed.ensures.revealed (λ second.
          false≢true (sym c.if-has_second.false ∙ (c.has_second.ensures.second c.args.tree.now after c.requires.fits c.in_ok-revealed.ensures.revealed).1 second)));
    }

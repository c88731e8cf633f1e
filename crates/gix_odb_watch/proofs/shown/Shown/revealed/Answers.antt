use Rattle.std.proofs.Common.{arith}
use Rattle.std.proofs.lemmas.Grind.{common_steps}
use Rattle.std.proofs.lemmas.List.{nil_from_length}
use Rattle.gix_odb_watch.proofs.RevealedLemmas.{nothing_answer, seen_answer}
use Rattle.gix_odb_watch.proofs.shown.Shown.revealed.Goals as goal

pub after-requires : goal.after-requires
after-requires c = record { is_tree = c.requires.fits.is_tree; possible = c.requires.possible }

pub returns-then-is_empty : goal.returns-then-is_empty
returns-then-is_empty c = record {
  revealed =
      nothing_answer c.args.self.now c.args.tree.now c.args.change.now c.requires.fits c.requires.possible c.self.inside.folders.keys c.self.inside.linked.keys c.self.inside.contents
      c.self.view_is c.in_ok-touched.touched.items c.in_ok-touched.ensures.touched
      (nil_from_length c.in_ok-touched.touched.items (grind (arith, common_steps, c.is_empty.ensures, c.if-is_empty.true))) c.nothing.result c.nothing.ensures.files c.nothing.ensures.linked;
}

pub returns : goal.returns
returns c = record {
  revealed =
      seen_answer c.args.self.now c.args.tree.now c.args.change.now c.requires.fits c.requires.possible c.self.inside.folders.keys c.self.inside.linked.keys c.self.inside.contents
      c.self.view_is c.in_ok-touched.touched.items c.in_ok-touched.ensures.touched c.in_ok-after.after c.in_ok-after.ensures.after c.seen.result c.seen.ensures.seen;
}

use Rattle.std.proofs.Common.{◌≡◌, ◌∙◌, true, false, sym, ap, Ok, drop, length}
use Rattle.std.proofs.lemmas.Result.{err_from_is_err_and}
use Rattle.odb_base.specs.PathLaws.{parent_of-some, lies_below, goes_beyond}
use Rattle.odb_disk.specs.Tree.{node_at, is_directory}
use Rattle.odb_disk.proofs.WriteCallsLemmas.Spots.{spot_root, spot_refused, spot_nowhere, spot_there}
use Rattle.odb_mem_disk.proofs.tree.Tree.spot.Goals as goal

pub returns-in_default : goal.returns-in_default
returns-in_default c = record { told = spot_root c.args.self.now c.args.path.now c.in_ok-front.field-0 c.in_ok-front.ensures.parent c.in_default.is ∙ ap Ok (sym c.root.ensures.empty) }

pub returns-in_err-place : goal.returns-in_err-place
returns-in_err-place c = record {
  told = let p = err_from_is_err_and c.from_residual-in_err-place.result c.from_residual-in_err-place.ensures.1 in
      rw (p.1, p.2) (spot_refused c.args.self.now c.args.path.now c.in_ok-front.field-0 c.in_ok-front.ensures.parent c.in-Some.front c.in-Some.is _ c.in_err-place.ensures.told);
}

pub returns-then-not-stands_directory : goal.returns-then-not-stands_directory
returns-then-not-stands_directory c = record {
  told = let other : is_directory (node_at c.args.self.now c.in_ok-place.place) ≡ false = cc in
      spot_nowhere c.args.self.now c.args.path.now c.in_ok-front.field-0 c.in_ok-front.ensures.parent c.in-Some.front c.in-Some.is c.in_ok-place.place c.in_ok-place.ensures.told other;
}

pub moved_path-requires : goal.moved_path-requires
moved_path-requires c = record {
  below = let last = parent_of-some c.args.path.now c.in-Some.front (sym c.in_ok-front.ensures.parent ∙ c.in-Some.is) in
      lies_below c.args.path.now c.in-Some.front _ last.1;
}

pub returns : goal.returns
returns c = record {
  told = let directory : is_directory (node_at c.args.self.now c.in_ok-place.place) ≡ true = cc in
      let path = c.args.path.now in
      let front = c.in-Some.front in
      let last = parent_of-some path front (sym c.in_ok-front.ensures.parent ∙ c.in-Some.is) in
      let whole = sym (goes_beyond path front (lies_below path front _ last.1)) in
      spot_there c.args.self.now path c.in_ok-front.field-0 c.in_ok-front.ensures.parent front c.in-Some.is c.in_ok-place.place c.in_ok-place.ensures.told directory (drop (length front) path) whole
      ∙ ap Ok (sym c.in_ok-moved_path.ensures.path);
}

use Rattle.std.proofs.Common.{◌∙◌, ◌++◌, ap, subst}
use Rattle.std.proofs.lemmas.Result.{IfOk-weaker}
use Rattle.odb_base.specs.Path.{Path}
use Rattle.gix_odb_watch.specs.Files.{listed_paths}
use Rattle.gix_odb_watch.specs.Over.{IsLaid, place_put}
use Rattle.gix_odb_watch.specs.Sight.{put_path}
use Rattle.gix_odb_watch.proofs.SightLemmas.{found_paths, refused_paths}
use Rattle.gix_odb_watch.proofs.sight.Sight.paths_in.Goals as goal

pub returns-in-None : goal.returns-in-None
returns-in-None c =
    let refused = rw c.in-None.is at c.in_ok-follow.ensures.found in
    record { paths = refused_paths c.args.self.now c.args.directory.now refused.0 refused.1 c.new.result.items c.new.ensures.items }

pub returns-in_ok-listed_at-in-Some : goal.returns-in_ok-listed_at-in-Some
returns-in_ok-listed_at-in-Some c =
    let found = rw c.in-Some.is at c.in_ok-follow.ensures.found in
    let laid = subst (IsLaid c.self.inside.tree.now c.self.inside.over) c.self.view_is c.self.invariant in
    record {
      paths =
          IfOk-weaker c.paths_at.result _ _
          (λ paths are.
          found_paths c.self.inside.tree.now c.args.self.now c.self.inside.over laid c.args.directory.now c.in-Some.found.place found.0 found.1 paths.items
          (are
          ∙ ap (λ (place : Path). listed_paths c.self.inside.tree.now place c.args.directory.now ++ put_path c.args.directory.now (place_put c.self.inside.over))
          c.in_ok-listed_at-in-Some.ensures.origin))
          c.paths_at.ensures.paths;
    }

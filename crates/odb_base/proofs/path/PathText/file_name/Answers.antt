use Rattle.std.proofs.Common.{sym, ap, ◌∙◌}
use Rattle.odb_base.specs.Path.{last_name}
use Rattle.odb_base.proofs.PathLemmas.{last_name-push, last_name-root}
use Rattle.odb_base.proofs.JoinedPathLemmas.{cut_at, no_cut_at}
use Rattle.odb_base.proofs.path.PathText.file_name.Goals as goal

pub returns-in-None : goal.returns-in-None
returns-in-None c = record { name = sym (ap last_name (no_cut_at _ _ c.self.view_is c.self.invariant.0 _ c.deref.ensures c.in-None.ensures.cases) ∙ last_name-root) }

pub returns-in-Some : goal.returns-in-Some
returns-in-Some c = record {
  name = let k = cut_at _ _ c.self.view_is c.self.invariant.0 _ c.deref.ensures _ _ c.in-Some.ensures.cases in
      sym (ap last_name k.is ∙ last_name-push k.front _);
}

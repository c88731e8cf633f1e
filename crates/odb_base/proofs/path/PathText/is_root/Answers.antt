use Rattle.std.proofs.Common.{length, sym, ap, ◌∙◌, arith}
use Rattle.std.proofs.lemmas.Bool.{eqb-true, eq-eqb}
use Rattle.std.proofs.lemmas.List.{nil_from_length}
use Rattle.odb_base.proofs.JoinedPathLemmas.{empty_root}
use Rattle.odb_base.proofs.path.PathText.is_root.Goals as goal

pub returns : goal.returns
returns c = record {
  root = let joined = c.self.inside.joined in
      let told = empty_root _ c.self.invariant.0 in (
        λ e. sym c.self.view_is ∙ told.0 (nil_from_length _ (omega (arith, joined.bytes.ok.0, eqb-true _ _ (sym c.is_empty.ensures ∙ e)))),
        λ e. c.is_empty.ensures ∙ eq-eqb _ _ (omega (arith, joined.bytes.ok.0, ap length (told.1 (c.self.view_is ∙ e)))),
      );
}

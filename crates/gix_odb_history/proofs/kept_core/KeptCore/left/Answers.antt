use Rattle.std.proofs.Common.{◌≡◌, length, subst, sym, ◌∙◌}
use Rattle.gix_odb_core.specs.History.{History, present}
use Rattle.gix_odb_core.specs.Possible.{IsComplete}
use Rattle.gix_odb_history.proofs.kept_core.KeptCore.left.Goals as goal

pub invariant_of-result : goal.invariant_of-result
invariant_of-result c =
    let same = sym (c.into_remains.ensures.same ∙ c.into_inner.ensures) in
    record {
      complete = subst (λ (h : History). IsComplete h.entries) same c.requires.complete;
      left = subst (λ (h : History). length (present h).handles ≡ 0) same c.requires.none;
    }

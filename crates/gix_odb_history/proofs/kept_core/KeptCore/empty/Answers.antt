use Rattle.std.proofs.Common.{◌≡◌, length, refl, subst, sym}
use Rattle.gix_odb_core.specs.History.{History, present}
use Rattle.gix_odb_core.specs.Possible.{IsComplete}
use Rattle.gix_odb_history.proofs.KeptCoreLemmas.{nothing_lacks}
use Rattle.gix_odb_history.proofs.kept_core.KeptCore.empty.Goals as goal

-- nothing happened to it, so nothing lacked memory, and no handle is registered
pub invariant_of-result : goal.invariant_of-result
invariant_of-result c =
    record {
      complete = subst (λ (h : History). IsComplete h.entries) (sym c.empty.ensures.opened) nothing_lacks;
      left = subst (λ (h : History). length (present h).handles ≡ 0) (sym c.empty.ensures.opened) refl;
    }

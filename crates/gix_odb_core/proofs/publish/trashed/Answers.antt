use Rattle.std.proofs.Common.{◌≡◌, ◌∙◌, ap, false, sym}
use Rattle.std.proofs.lemmas.Result.{IfOk-weaker}
use Rattle.gix_odb_events.specs.Slots.{filled_trashed}
use Rattle.gix_odb_core.specs.Publish.{has_trashable}
use Rattle.gix_odb_core.proofs.StandsLemmas.{filled-trashed-same}
use Rattle.gix_odb_core.proofs.publish.trashed.Goals as goal

-- no file of the slot changes
pub returns : goal.returns
returns c =
    let stays : has_trashable c.args.filled.now ≡ false = ap has_trashable (sym c.value.ensures.value) ∙ sym c.has_trashable.ensures.trashable ∙ c.if-has_trashable.false in
    record {
      trashed = IfOk-weaker c.try_clone.result (λ after. after ≡ c.args.filled.now) (λ after. after ≡ filled_trashed c.args.filled.now)
          (λ after e. e ∙ sym (filled-trashed-same c.args.filled.now stays)) c.try_clone.ensures.value;
    }

use Rattle.std.proofs.Common.{◌≡◌, ◌∙◌, ap, false, sym}
use Rattle.std.proofs.lemmas.Result.{IfOk-weaker}
use Rattle.gix_odb_events.specs.Slots.{filled_put_back}
use Rattle.gix_odb_events.specs.Slots.{has_disposable}
use Rattle.gix_odb_core.proofs.StandsLemmas.{filled-put_back-same}
use Rattle.gix_odb_core.proofs.publish.put_back.Goals as goal

-- no file of the slot changes
pub returns : goal.returns
returns c =
    let stays : has_disposable c.args.filled.now ≡ false = ap has_disposable (sym c.value.ensures.value) ∙ sym c.has_disposable.ensures.disposable ∙ c.if-has_disposable.false in
    record {
      put_back = IfOk-weaker c.try_clone.result (λ after. after ≡ c.args.filled.now) (λ after. after ≡ filled_put_back c.args.filled.now)
          (λ after e. e ∙ sym (filled-put_back-same c.args.filled.now stays)) c.try_clone.ensures.value;
    }

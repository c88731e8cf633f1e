-- A view that is passed to a handle changes nothing of its setting, so that a call is fed alike before and after its handle sees the view.
use Rattle.std.proofs.Common.{◌≡◌, Option, Some, None, refl, ap, ◌∙◌}
use Rattle.gix_odb.specs.CallOrder.{fed}
use Rattle.gix_odb.specs.HandleState.{seeing, setting_at, told_by}
use Rattle.gix_odb.specs.declared.call_state.CallStage.{CallStage}
use Rattle.gix_odb.specs.declared.handle_state.HandleState.{HandleState}
use Rattle.gix_odb_events.specs.declared.answer.Answer.{Answer}
use Rattle.gix_odb_events.specs.declared.view.View.{View}
use Rattle.gix_odb.specs.LookUpOrder.{Setting, view_of}

setting_told : (handle : HandleState) (view : Option View) → setting_at (seeing handle view) ≡ setting_at handle
setting_told handle None = refl
setting_told handle (Some view) = refl

-- a stage after an answer, whose view the handle has already
pub fed_by : (old handle : HandleState) (answer same : Answer) (before stage next : CallStage) → handle ≡ told_by old answer → same ≡ answer → before ≡ stage
    → next ≡ fed (setting_at handle) before same → next ≡ fed (setting_at old) stage answer
fed_by old handle answer same before stage next seen is was feeds =
    feeds ∙ (ap (λ (b : CallStage). fed (setting_at handle) b same) was
    ∙ (ap (λ (a : Answer). fed (setting_at handle) stage a) is
    ∙ (ap (λ (h : HandleState). fed (setting_at h) stage answer) seen
    ∙ ap (λ (setting : Setting). fed setting stage answer) (setting_told old (view_of answer)))))

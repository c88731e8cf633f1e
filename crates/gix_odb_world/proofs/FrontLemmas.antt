-- Where what stands in front of a write stands after one event more, and how many turns it took.
use Rattle.std.proofs.Common.{◌≡◌, ℕ, ◌≤◌, List, [], ◌∷◌, ◌++◌, length, None, ◌∙◌, ap}
use Rattle.gix_odb.specs.LookExchanges.{Exchange}
use Rattle.gix_odb.specs.LookUpOrder.{Setting}
use Rattle.gix_odb.specs.RefreshOrder.{asked_of, started, step_fed}
use Rattle.gix_odb.specs.Refreshed.{AreAsked, behind, turns_of}
use Rattle.gix_odb.specs.Store.{listed_for}
use Rattle.gix_odb.proofs.AskedLemmas.{behind-push, turns_of-asked, turns_of-ended}
use Rattle.gix_odb_world.specs.AtWork.{Modes, Store, setting_in}
use Rattle.gix_odb_history.specs.Event.{Event}
use Rattle.gix_odb_world.specs.Told.{refresh_begun, refresh_now, told_since, turns_in_front}
use Rattle.gix_odb_world.proofs.ToldLemmas.{view_kept}

-- it took a turn for each answer to its handle, where it asked for each
pub front_asked : (events : List Event) (handle : ℕ) (store : Store) (modes : Modes) (begun : ℕ)
    → AreAsked (setting_in store) (refresh_begun events handle modes begun) (told_since events handle begun)
    → turns_in_front events handle store modes begun ≡ length (told_since events handle begun)
front_asked events handle store modes begun asked =
    turns_of-asked asked_of (step_fed store.parts.objects (listed_for store.parts)) (refresh_begun events handle modes begun) (told_since events handle begun) asked

module _ (events : List Event) (e : Event) (handle : ℕ) (store : Store) (modes : Modes) (begun : ℕ) (since : begun ≤ length events) where
  abbrev whole : List Event
  whole = events ++ e ∷ []

  abbrev setting : Setting
  setting = setting_in store

  pub begun_same : refresh_begun whole handle modes begun ≡ refresh_begun events handle modes begun
  begun_same = ap started (view_kept events e handle begun since modes.core)

  -- ---- where nothing is answered

  module _ (same : told_since whole handle begun ≡ told_since events handle begun) where
    pub now_same : refresh_now whole handle store modes begun ≡ refresh_now events handle store modes begun
    now_same = ap (λ refresh. behind setting refresh (told_since whole handle begun)) begun_same ∙ ap (behind setting (refresh_begun events handle modes begun)) same

    pub front_same : turns_in_front whole handle store modes begun ≡ turns_in_front events handle store modes begun
    front_same = ap (λ refresh. turns_of setting refresh (told_since whole handle begun)) begun_same ∙ ap (turns_of setting (refresh_begun events handle modes begun)) same

  -- ---- after one more exchange

  module _ (exchange : Exchange) (more : told_since whole handle begun ≡ told_since events handle begun ++ exchange ∷ []) where
    pub now_more : refresh_now whole handle store modes begun ≡ step_fed store.parts.objects (listed_for store.parts) (refresh_now events handle store modes begun) exchange.answer
    now_more =
        ap (λ refresh. behind setting refresh (told_since whole handle begun)) begun_same
        ∙ (ap (behind setting (refresh_begun events handle modes begun)) more
        ∙ behind-push asked_of (step_fed store.parts.objects (listed_for store.parts)) (refresh_begun events handle modes begun) (told_since events handle begun) exchange)

    -- what has ended takes no more turns
    pub front_ended : asked_of (refresh_now events handle store modes begun) ≡ None
        → turns_in_front whole handle store modes begun ≡ turns_in_front events handle store modes begun
    front_ended ended =
        ap (λ refresh. turns_of setting refresh (told_since whole handle begun)) begun_same
        ∙ (ap (turns_of setting (refresh_begun events handle modes begun)) more
        ∙ turns_of-ended asked_of (step_fed store.parts.objects (listed_for store.parts)) (refresh_begun events handle modes begun) (told_since events handle begun) exchange ended)

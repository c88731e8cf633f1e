-- What an event of one handle does to the histories of cores, for every handle that is registered at one.
use Rattle.std.proofs.Common.{◌≡◌, ◌≢◌, ℕ, Bool, true, false, cond, List, [], ◌∷◌, ◌++◌, length, Option, Some, None, Ok, refl, sym, ◌∙◌, ap, subst, arith}
use Rattle.std.specs.Prelude.{slice_get, ◌==◌, unwrap_or}
use Rattle.std.specs.List.{cons_option, filter_map, last_or}
use Rattle.std.specs.Option.{IsSome}
use Rattle.std.proofs.lemmas.Bool.{eqb-true, eqb-false}
use Rattle.std.proofs.lemmas.List.{length-replicate}
use Rattle.gix_odb_core.specs.Handles.{registered}
use Rattle.gix_odb_core.specs.History.{History, opened, present}
use Rattle.gix_odb_core.specs.Replay.{snapshot_of}
use Rattle.gix_odb_events.specs.Answers.{view_in}
use Rattle.gix_odb_core.specs.Snapshots.{handed_to}
use Rattle.gix_odb_events.specs.declared.event.Effect.{Effect}
use Rattle.gix_odb_events.specs.declared.event.Event.TheVariants as events
use Rattle.gix_odb_core.specs.declared.journal.Entry.{Entry}
use Rattle.gix_odb_events.specs.declared.view.View.{View}
use Rattle.gix_odb_core.proofs.HandleLemmas.{with_seat-same}
use Rattle.gix_odb_core.proofs.SnapshotLaws.{handed-append}
use Rattle.gix_odb_world.specs.AtWork.{Modes}
use Rattle.gix_odb_history.specs.Cores.{cores_after_asked, entered, entry_of, history_at, or_before, registered_at}
use Rattle.gix_odb_history.specs.Event.{CoreAnswer, CoreEvent, OfCore}
use Rattle.gix_odb_world.specs.Seats.{IsNowhere, IsSeated}
use Rattle.gix_odb_world.proofs.HistoryLemmas.{slice_get-kept, slice_get-last}
use Rattle.gix_odb_world.proofs.SeatLemmas.Elsewhere.{handles-entered, kept_other, out_before, out_new, out_other, out_own, slice_get-set_other, slice_get-set_same}

-- ---- one more entry

last_or-append : {X : Type 0} (o : Option X) (xs ys : List X) → last_or o (xs ++ ys) ≡ last_or (last_or o xs) ys
last_or-append o [] ys = refl
last_or-append o (x ∷ xs) ys = last_or-append (Some x) xs ys

pub snapshot-push : (seat : ℕ) (entries : List Entry) (entry : Entry) → snapshot_of seat (entries ++ entry ∷ []) ≡ last_or (snapshot_of seat entries) (handed_to seat (entry ∷ []))
snapshot-push seat entries entry = ap (last_or None) (handed-append seat entries (entry ∷ [])) ∙ last_or-append None (handed_to seat entries) (handed_to seat (entry ∷ []))

pub handed_by : (seat : ℕ) (entry : Entry) (b : Bool) → (entry.seat == seat) ≡ b
    → handed_to seat (entry ∷ []) ≡ filter_map (λ (e : Entry). view_in e.answer) (cond b (entry ∷ []) [])
handed_by seat entry b is = ap (λ (c : Bool). filter_map (λ (e : Entry). view_in e.answer) (cond c (entry ∷ []) [])) is

last_handed : (w o : Option View) → last_or o (cons_option w []) ≡ or_before w o
last_handed None o = refl
last_handed (Some view) o = refl

module _ (h : History) (seat : ℕ) (event : CoreEvent) (answer : CoreAnswer) where
  abbrev entry : Entry
  entry = entry_of h seat event answer

  pub snapshot_own : snapshot_of seat (entered h seat event answer).entries ≡ or_before (view_in answer) (snapshot_of seat h.entries)
  snapshot_own =
      let same : (seat == seat) ≡ true = grind arith in
      snapshot-push seat h.entries entry
      ∙ (ap (last_or (snapshot_of seat h.entries)) (handed_by seat entry true same) ∙ last_handed (view_in answer) (snapshot_of seat h.entries))

  pub snapshot_other : (other : ℕ) → (seat == other) ≡ false → snapshot_of other (entered h seat event answer).entries ≡ snapshot_of other h.entries
  snapshot_other other apart = snapshot-push other h.entries entry ∙ ap (last_or (snapshot_of other h.entries)) (handed_by other entry false apart)

-- an event that isn't refused leaves every other handle registered
registered_other : (h : History) (seat : ℕ) (event : CoreEvent) (effect : Effect) (other : ℕ) → other ≢ seat → IsSome (registered (present h).handles other)
    → IsSome (registered (present (entered h seat event (Ok effect))).handles other)
registered_other h seat event effect other apart was = subst IsSome (sym (kept_other h seat event effect other apart)) was

-- ---- the handles of all cores

module _ (cores : List History) (store seat : ℕ) (event : CoreEvent) (effect : Effect) where
  abbrev cores_then : List History
  cores_then = cores_after_asked cores (OfCore store seat event (Ok effect))

  history_is : (h : History) → slice_get cores store ≡ Some h → history_at cores store ≡ h
  history_is h there = ap (λ o. unwrap_or o (opened 0 0 0 0)) there

  -- a handle that isn't its own stays seated
  pub seated_other : (handle : ℕ) (modes : Modes) → handle ≢ seat → IsSeated cores handle modes → IsSeated cores_then handle modes
  seated_other handle modes apart seated = by_core (modes.core == store) refl
    where
      only : (place : ℕ) → place ≢ modes.core → registered_at cores_then place handle ≡ None
      only place elsewhere = out_other cores store seat event effect handle apart place (seated.only place elsewhere)

      by_core : (b : Bool) → (modes.core == store) ≡ b → IsSeated cores_then handle modes
      by_core true is =
          let same : modes.core ≡ store = eqb-true modes.core store is in
          let own : slice_get cores store ≡ Some seated.history = ap (slice_get cores) (sym same) ∙ seated.there in
          let other : (seat == handle) ≡ false = not_same seat handle (λ e. apart (sym e)) in
          record {
            history = entered seated.history seat event (Ok effect);
            there =
                ap (slice_get cores_then) same
                ∙ (slice_get-set_same cores store (entered (history_at cores store) seat event (Ok effect)) seated.history own
                ∙ ap (λ h. Some (entered h seat event (Ok effect))) (history_is seated.history own));
            slots = seated.slots;
            registered = registered_other seated.history seat event effect handle apart seated.registered;
            only = only;
            snapshot = seated.snapshot ∙ sym (snapshot_other seated.history seat event (Ok effect) handle other);
          }
        where
          not_same : (a b : ℕ) → a ≢ b → (a == b) ≡ false
          not_same a b differ = by (a == b) refl
            where
              by : (c : Bool) → (a == b) ≡ c → (a == b) ≡ false
              by true e = absurd (differ (eqb-true a b e))
              by false e = e
      by_core false is = record {
        history = seated.history;
        there = slice_get-set_other cores store modes.core (entered (history_at cores store) seat event (Ok effect)) (eqb-false modes.core store is) ∙ seated.there;
        slots = seated.slots;
        registered = seated.registered;
        only = only;
        snapshot = seated.snapshot;
      }

-- a handle that is registered at a core whose view it has
pub seated_joined : (cores : List History) (modes other : Modes) (handle from : ℕ) (view : View) (effect : Effect) → IsSeated cores from modes
    → IsNowhere cores handle
    → view_in (Ok effect) ≡ Some view → other.core ≡ modes.core → other.slots ≡ modes.slots → other.view ≡ Some view
    → IsSeated (cores_after_asked cores (OfCore modes.core handle (events.Register false) (Ok effect))) handle other
seated_joined cores modes other handle from view effect seated nowhere shows core_is slots_are view_is =
    let h : History = seated.history in
    let now : List History = cores_after_asked cores (OfCore modes.core handle (events.Register false) (Ok effect)) in
    record {
      history = entered h handle (events.Register false) (Ok effect);
      there =
          ap (slice_get now) core_is
          ∙ (slice_get-set_same cores modes.core (entered (history_at cores modes.core) handle (events.Register false) (Ok effect)) h seated.there
          ∙ ap (λ x. Some (entered x handle (events.Register false) (Ok effect))) (history_is cores modes.core handle (events.Register false) effect h seated.there));
      slots = seated.slots ∙ sym slots_are;
      registered =
          subst IsSome
          (sym (ap (λ handles. registered handles handle) (handles-entered h handle (events.Register false) effect) ∙ with_seat-same (present h).handles handle false)) refl;
      only = λ place elsewhere.
          out_own cores modes.core handle (events.Register false) effect place (λ same. elsewhere (same ∙ sym core_is)) (nowhere place);
      snapshot =
          view_is ∙ (ap (λ w. or_before w (snapshot_of handle h.entries)) (sym shows) ∙ sym (snapshot_own h handle (events.Register false) (Ok effect)));
    }

-- a core that was made for another handle leaves a handle where it is
pub seated_more : (cores : List History) (slots folders seat handle : ℕ) (modes : Modes) (effect : Effect) → handle ≢ seat → IsSeated cores handle modes
    → IsSeated (cores ++ entered (opened slots folders 0 0) seat (events.Register false) (Ok effect) ∷ []) handle modes
seated_more cores slots folders seat handle modes effect apart seated =
    let new : History = entered (opened slots folders 0 0) seat (events.Register false) (Ok effect) in
    record {
      history = seated.history;
      there = slice_get-kept cores new modes.core seated.history seated.there;
      slots = seated.slots;
      registered = seated.registered;
      only = λ place elsewhere. out_new cores slots folders seat handle effect apart place (seated.only place elsewhere);
      snapshot = seated.snapshot;
    }

-- and its own handle is seated there
pub seated_new : (cores : List History) (slots folders handle : ℕ) (modes : Modes) (effect : Effect) (view : View) → IsNowhere cores handle
    → view_in (Ok effect) ≡ Some view → modes.core ≡ length cores → modes.slots ≡ slots → modes.view ≡ Some view
    → IsSeated (cores ++ entered (opened slots folders 0 0) handle (events.Register false) (Ok effect) ∷ []) handle modes
seated_new cores slots folders handle modes effect view nowhere shows core_is slots_are view_is =
    let h : History = opened slots folders 0 0 in
    let new : History = entered h handle (events.Register false) (Ok effect) in
    record {
      history = new;
      there = ap (slice_get (cores ++ new ∷ [])) core_is ∙ slice_get-last cores new;
      slots = length-replicate slots None ∙ sym slots_are;
      registered =
          subst IsSome
          (sym (ap (λ handles. registered handles handle) (handles-entered h handle (events.Register false) effect) ∙ with_seat-same (present h).handles handle false)) refl;
      only = λ place elsewhere. out_before cores new handle place (λ same. elsewhere (same ∙ sym core_is)) (nowhere place);
      snapshot =
          view_is ∙ (ap (λ w. or_before w (snapshot_of handle h.entries)) (sym shows) ∙ sym (snapshot_own h handle (events.Register false) (Ok effect)));
    }

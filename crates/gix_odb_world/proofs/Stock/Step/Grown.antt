-- How one event makes the cores of stores grow: none, one of them, or by one more.
use Rattle.std.proofs.Common.{◌≡◌, ℕ, Bool, true, false, List, [], ◌∷◌, ◌++◌, length, Contains, Some, inl, inr, refl, sym, ◌∙◌, ap, subst, arith}
use Rattle.std.specs.Prelude.{◌==◌, slice_get, unwrap_or}
use Rattle.std.proofs.lemmas.Bool.{eqb-true, eqb-false}
use Rattle.std.proofs.lemmas.List.{length_push}
use Rattle.odb_disk.specs.MemDisk.{Volume}
use Rattle.gix_odb_core.specs.History.{History, opened, present}
use Rattle.gix_odb_core.specs.Replay.{CanHappen}
use Rattle.gix_odb_events.specs.declared.event.Event.TheVariants as core_events
use Rattle.gix_odb.specs.Shown.{IsHanded}
use Rattle.gix_odb.specs.Contents.{folder_list}
use Rattle.gix_odb_world.specs.AtWork.{Store, setting_in}
use Rattle.gix_odb_history.specs.Cores.{answer_behind, cores_after, cores_after_asked, entered, history_at}
use Rattle.gix_odb_history.specs.Event.{Asked, CoreEvent, Event, OfCore, OfNewCore}
use Rattle.gix_odb_world.proofs.HistoryLemmas.{cores_after-push, slice_get-kept, slice_get-last, slice_get-push}
use Rattle.gix_odb_world.proofs.SeatLemmas.Elsewhere.{slice_get-set_other, slice_get-set_same}
use Rattle.gix_odb_world.proofs.Stock.OneCore.{IsOfStore, IsStocked, ListsStill, ShownSince, of_store_grown, of_store_later}
use Rattle.gix_odb_world.proofs.Stock.Owned.{AreStocked}
use Rattle.gix_odb_world.proofs.ToldLists.{length-slice_set}

module _ (first : Volume) (past : List Event) (e : Event) (before : AreStocked first past) where
  abbrev now : List Event
  now = past ++ e ∷ []

  abbrev cores : List History
  cores = cores_after past

  -- the cores are those of these stores then, and each that was one is
  pub record GrowsTo (stores : List Store) : Type 0 where
    pub long : length stores ≡ length (cores_after now)
    pub each : (core : ℕ) (store : Store) → slice_get stores core ≡ Some store → IsStocked first now core store
    pub keeps : (core : ℕ) (store : Store) → slice_get before.stores core ≡ Some store → slice_get stores core ≡ Some store

  now_is : (asked : Asked) → e.asked ≡ asked → cores_after now ≡ cores_after_asked cores asked
  now_is asked is = cores_after-push past e ∙ ap (cores_after_asked cores) is

  pub grown_same : (asked : Asked) → e.asked ≡ asked → cores_after_asked cores asked ≡ cores → GrowsTo before.stores
  grown_same asked is same =
      let cores_are : cores_after now ≡ cores = now_is asked is ∙ same in
      record {
        long = before.long ∙ ap length (sym cores_are);
        each = λ core store has.
            let stock = before.each core store has in
            record { history = stock.history; there = ap (λ cs. slice_get cs core) cores_are ∙ stock.there; of = of_store_later first past e store stock.history stock.of };
        keeps = λ core store has. has;
      }

  -- an event of a core that can happen, and passes it what was read
  pub grown_core : (core handle : ℕ) (event : CoreEvent) → e.asked ≡ OfCore core handle event (answer_behind (history_at cores core) handle event)
      → CanHappen (present (history_at cores core)) handle event
      → ((store : Store) → slice_get before.stores core ≡ Some store → IsHanded (ShownSince first past store) (setting_in store) store.parts.object_hash event)
      → ((store : Store) → slice_get before.stores core ≡ Some store → ListsStill first past store event)
      → GrowsTo before.stores
  grown_core core handle event is can handed lists =
      let answer = answer_behind (history_at cores core) handle event in
      let new : History = entered (history_at cores core) handle event answer in
      let grown : cores_after now ≡ cores_after_asked cores (OfCore core handle event answer) = now_is _ is in
      record {
        long = before.long ∙ (sym (length-slice_set cores core new) ∙ ap length (sym grown));
        each = λ place store has. by place store has (place == core) refl;
        keeps = λ place store has. has;
      }
    where
      by : (place : ℕ) (store : Store) → slice_get before.stores place ≡ Some store → (b : Bool) → (place == core) ≡ b → IsStocked first now place store
      by place store has true is_here =
          let same : place ≡ core = eqb-true place core is_here in
          let answer = answer_behind (history_at cores core) handle event in
          let own : slice_get before.stores core ≡ Some store = ap (slice_get before.stores) (sym same) ∙ has in
          let stock = before.each core store own in
          let there : history_at cores core ≡ stock.history = ap (λ o. unwrap_or o (opened 0 0 0 0)) stock.there in
          record {
            history = entered stock.history handle event answer;
            there =
                ap (λ cs. slice_get cs place) (now_is _ is)
                ∙ (ap (slice_get (cores_after_asked cores (OfCore core handle event answer))) same
                ∙ (slice_get-set_same cores core (entered (history_at cores core) handle event answer) stock.history stock.there
                ∙ ap (λ h. Some (entered h handle event answer)) there));
            of =
                of_store_grown first past e store stock.history handle event answer (ap (λ h. answer_behind h handle event) there)
                (subst (λ h. CanHappen (present h) handle event) there can) (handed store own) (lists store own) stock.of;
          }
      by place store has false is_other =
          let answer = answer_behind (history_at cores core) handle event in
          let stock = before.each place store has in
          record {
            history = stock.history;
            there =
                ap (λ cs. slice_get cs place) (now_is _ is)
                ∙ (slice_get-set_other cores core place (entered (history_at cores core) handle event answer) (eqb-false place core is_other) ∙ stock.there);
            of = of_store_later first past e store stock.history stock.of;
          }

  -- a core that was made for a store
  pub grown_new : (store : Store) (slots folders handle : ℕ) → folders ≡ length (folder_list store.parts)
      → e.asked ≡ OfNewCore slots folders (length cores) handle (answer_behind (opened slots folders 0 0) handle (core_events.Register false))
      → GrowsTo (before.stores ++ store ∷ [])
  grown_new store slots folders handle folders_are is =
      let h : History = opened slots folders 0 0 in
      let answer = answer_behind h handle (core_events.Register false) in
      let new : History = entered h handle (core_events.Register false) answer in
      let grown : cores_after now ≡ cores ++ new ∷ [] = now_is _ is in
      let long = before.long in
      let none : IsOfStore first past store h = record {
        slots = slots;
        opening = ap (λ n. (opened slots n 0 0).opening) folders_are;
        legal = λ i entry there. absurd (cc there);
        possible = tt;
        handed = λ entry among. absurd (nothing_in entry among);
        still = λ entry among. absurd (nothing_in entry among);
      } in
      record {
        long =
            let more = length_push before.stores store in
            let mores = length_push cores new in
            let same = ap length grown in
            omega (arith, more, mores, same, long);
        each = λ place other has.
            elim (slice_get-push before.stores store place other has) [
              | inl old ↦
                  let stock = before.each place other old.1 in
                  record {
                    history = stock.history;
                    there = ap (λ cs. slice_get cs place) grown ∙ slice_get-kept cores new place stock.history stock.there;
                    of = of_store_later first past e other stock.history stock.of;
                  }
              | inr last ↦
                  let here : place ≡ length cores = last.0 ∙ long in
                  record {
                    history = new;
                    there = ap (λ cs. slice_get cs place) grown ∙ (ap (slice_get (cores ++ new ∷ [])) here ∙ slice_get-last cores new);
                    of =
                        subst (λ (o : Store). IsOfStore first now o new) last.1
                        (of_store_grown first past e store h handle (core_events.Register false) answer refl refl tt tt none);
                  }
            ];
        keeps = λ place other has. slice_get-kept before.stores store place other has;
      }
    where
      nothing_in : {A : Type 0} (x : A) → ¬ (Contains [] x)
      nothing_in x (k, within, is) = omega (arith, within)

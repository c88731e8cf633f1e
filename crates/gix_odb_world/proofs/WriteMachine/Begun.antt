-- A write where it begins: at the refresh before it, or at its own turns where its handle has seen a list that was read.
use Rattle.std.proofs.Common.{◌≡◌, ℕ, ◌+◌, ◌≤◌, Bool, true, false, List, [], ◌∷◌, ◌++◌, length, None, Option, refl, sym, ◌∙◌, ap, subst, arith}
use Rattle.std.specs.Prelude.{if◌then◌else◌}
use Rattle.std.proofs.lemmas.List.{length_push}
use Rattle.odb_disk.specs.MemDisk.{Volume}
use Rattle.gix_hash.specs.declared.object_id.ObjectId.{ObjectId}
use Rattle.gix_object.specs.declared.kind.Kind.{Kind}
use Rattle.gix_odb_loose.specs.declared.call.LooseCall.{LooseCall}
use Rattle.gix_odb_loose.specs.declared.write_order.WriteStage.TheVariants.{Making}
use Rattle.gix_odb_calls.proofs.QueryLaws.{by_call-call_of, each_call}
use Rattle.gix_odb_calls.specs.Query.{call_of}
use Rattle.gix_odb_calls.specs.declared.call.Call.{Call}
use Rattle.gix_odb_calls.specs.declared.call.Call.TheVariants as call_kinds
use Rattle.gix_odb_calls.specs.declared.query.Query.{Query}
use Rattle.gix_odb.specs.LookUpOrder as looks
use Rattle.gix_odb.specs.declared.look_up.LookUp.{LookUp}
use Rattle.gix_odb.specs.LookUpOrder.{Setting}
use Rattle.gix_odb.specs.RefreshOrder.{IsReady, started}
use Rattle.gix_odb.specs.Refreshed.{AreAsked, behind, turns_of}
use Rattle.gix_odb.specs.declared.refresh.Refresh.{Refresh}
use Rattle.gix_odb.specs.declared.refresh.Refresh.TheVariants.{Reading}
use Rattle.gix_odb.specs.declared.refresh.RefreshStep.TheVariants as fronts
use Rattle.gix_odb.proofs.RefreshLaws.{a_read_snapshot_is_ready}
use Rattle.gix_odb.specs.CallOrder as calls
use Rattle.gix_odb.specs.CallOrder.{fronted}
use Rattle.gix_odb.specs.Contents.{folder_list, sought}
use Rattle.gix_odb.specs.declared.call_state.CallStage.{CallStage}
use Rattle.gix_odb.specs.declared.call_state.CallStage.TheVariants.{Looking}
use Rattle.gix_odb_world.specs.Work.{Calling}
use Rattle.gix_odb_world.specs.AtWork.{Modes, setting_in, view_in_modes}
use Rattle.gix_odb.specs.Laps.{turns_of_lap}
use Rattle.gix_odb_history.specs.Event.{Event}
use Rattle.gix_odb_world.specs.Running.Write.{InFront, IsAtOwnWrite, IsInFront, KnowsOfWrite, Own, Unlisted, WriteState, work_of}
use Rattle.gix_odb_world.specs.Status.{MakeCall, OpenStore, Running, Store, Task, begun_with, running_from}
use Rattle.gix_odb_world.specs.Told.{refresh_begun, refresh_now, told_since, turns_in_front}
use Rattle.gix_odb_history.specs.Writing.{ChangedNothing, ToWrite, to_write}
use Rattle.gix_odb_world.proofs.AnsweredLemmas.{answered_at_first, none_told}
use Rattle.gix_odb_world.proofs.MachineLaws.{BeginsAs, IsStarted}
use Rattle.gix_odb_world.proofs.RefusedLemmas.{refused_at_first}
use Rattle.gix_odb_world.proofs.ToldLemmas.{snapshot_seen}
use Rattle.gix_odb_world.proofs.WriteKept.{each_turn_none, stands_at_first}

module _ (first : Volume) (events : List Event) (e : Event) (handle : ℕ) (store : Store) (modes : Modes) where
  abbrev whole : List Event
  whole = events ++ e ∷ []

  abbrev number : ℕ
  number = length events + 1

  abbrev setting : Setting
  setting = setting_in store

  module _ (kind : Kind) (size : ℕ) (bytes : List ℕ) (known : Option ObjectId)
      (start : IsStarted first whole handle store modes (call_kinds.Write kind size bytes known)) where
    abbrev w : ToWrite
    w = to_write store.parts.objects store.parts.object_hash kind size bytes known

    abbrev write : LooseCall
    write = calls.writing store.parts.objects store.parts.object_hash kind size bytes known

    abbrev running : Running
    running = running_from number (MakeCall (call_kinds.Write kind size bytes known)) store modes

    none : told_since whole handle number ≡ []
    none = none_told first events e handle

    unchanged : ChangedNothing whole handle number
    unchanged =
        let longer = length_push events e in
        each_turn_none whole handle number (λ x. x.entry.change ≡ None) (omega (arith, longer))

    since : number ≤ length whole
    since = let longer = length_push events e in omega (arith, longer)

    early : store.opened ≤ number
    early = let longer = length_push events e in let before = start.opened in omega (arith, longer, before)

    -- the refresh before it begins from the snapshot that its handle has
    begins : refresh_begun whole handle modes number ≡ started (view_in_modes modes)
    begins = ap started (sym (snapshot_seen events e handle modes start.seated))

    now_is : refresh_now whole handle store modes number ≡ started (view_in_modes modes)
    now_is = ap (behind setting (refresh_begun whole handle modes number)) none ∙ begins

    no_turns : turns_in_front whole handle store modes number ≡ 0
    no_turns = ap (turns_of setting (refresh_begun whole handle modes number)) none

    -- the list was not read
    begins_in_front : started (view_in_modes modes) ≡ fronts.More Reading → IsInFront first whole handle running Reading write
    begins_in_front unread = record {
      write = w;
      of = record { into = refl; hashed = refl; fits = start.sized; task = refl };
      is = refl;
      opened = early;
      since = since;
      distinct = start.distinct;
      refresh_is = sym (now_is ∙ unread);
      asked = subst (AreAsked setting (refresh_begun whole handle modes number)) (sym none) tt;
      turns = ap length (sym none);
      well = answered_at_first first events e handle store;
      refused = refused_at_first events e handle modes.core;
      unchanged = unchanged;
    }

    -- or it was
    begins_itself : started (view_in_modes modes) ≡ fronts.Read (view_in_modes modes) → IsAtOwnWrite first whole handle running write
    begins_itself ready = record {
      writing = record {
        write = w;
        into = refl;
        hashed = refl;
        fits = start.sized;
        stage = Making 0;
        is = refl;
        own = 0;
        stands = stands_at_first first whole handle number w unchanged;
      };
      task = refl;
      since = since;
      ready = subst IsReady (sym (now_is ∙ ready)) tt;
      turns = sym (ap (λ n. n + 0) no_turns);
      short = λ entries most. subst (λ n. n ≤ turns_of_lap modes.slots (length (folder_list store.parts)) entries) (sym no_turns) (omega arith);
    }

    by_read : (read : Bool) → (view_in_modes modes).read ≡ read → (state : WriteState)
        → Calling (fronted (if read then fronts.Read (view_in_modes modes) else fronts.More Reading) write) ≡ work_of state → KnowsOfWrite first whole handle running state
    by_read true is (Own call) at =
        let same : write ≡ call = cc at in
        subst (IsAtOwnWrite first whole handle running) same (begins_itself (a_read_snapshot_is_ready (view_in_modes modes) is))
    by_read true is (InFront refresh call) at = absurd (cc at)
    by_read true is (Unlisted error) at = absurd (cc at)
    by_read false is (InFront refresh call) at =
        let same : write ≡ call = cc at in
        let looks : Reading ≡ refresh = cc at in
        subst (λ (r : Refresh). IsInFront first whole handle running r call) looks
        (subst (IsInFront first whole handle running Reading) same
        (begins_in_front (ap (λ (b : Bool). if b then fronts.Read (view_in_modes modes) else fronts.More Reading) is)))
    by_read false is (Own call) at = absurd (cc at)
    by_read false is (Unlisted error) at = absurd (cc at)

  -- a look-up begins at no state of a write
  no_look : (look : LookUp) (state : WriteState) → ¬ (Calling (Looking look) ≡ work_of state)
  no_look look (InFront refresh call) is = cc is
  no_look look (Own call) is = cc is
  no_look look (Unlisted error) is = cc is

  no_query : (query : Query) (state : WriteState) → ¬ (begun_with store modes (MakeCall (call_of query)) ≡ work_of state)
  no_query query state is =
      no_look (looks.started (setting_in store) modes.refresh (view_in_modes modes) query.want (sought store.parts modes.ignoring query)) state
      (ap (λ (s : CallStage). Calling s)
      (sym (by_call-call_of (λ (q : Query). calls.looking (setting_in store) modes.refresh (view_in_modes modes) (sought store.parts modes.ignoring) q)
      (λ kind size bytes known. fronted (started (view_in_modes modes)) (calls.writing store.parts.objects store.parts.object_hash kind size bytes known)) query)) ∙ is)

  -- a state at which a task begins is that of its write
  pub write_starts : (task : Task) (state : WriteState) → BeginsAs first whole handle store modes task → begun_with store modes task ≡ work_of state
      → KnowsOfWrite first whole handle (running_from number task store modes) state
  write_starts (MakeCall call) state start at =
      each_call
      (λ (c : Call). IsStarted first whole handle store modes c → begun_with store modes (MakeCall c) ≡ work_of state
      → KnowsOfWrite first whole handle (running_from number (MakeCall c) store modes) state)
      (λ query own begun. absurd (no_query query state begun))
      (λ kind size bytes known own begun. by_read kind size bytes known own (view_in_modes modes).read refl state begun)
      call start at
  write_starts OpenStore (InFront refresh call) start at = absurd (cc at)
  write_starts OpenStore (Own call) start at = absurd (cc at)
  write_starts OpenStore (Unlisted error) start at = absurd (cc at)

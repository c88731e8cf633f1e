-- A query where it begins.
use Rattle.std.proofs.Common.{◌≡◌, ℕ, ◌+◌, Bool, true, false, List, [], ◌∷◌, ◌++◌, length, Option, None, Some, refl, sym, ◌∙◌, ap, subst, arith}
use Rattle.std.specs.Prelude.{if◌then◌else◌}
use Rattle.std.proofs.lemmas.List.{length_push}
use Rattle.odb_disk.specs.MemDisk.{Volume}
use Rattle.gix_hash.specs.ObjectId.{kind_of}
use Rattle.gix_hash.specs.declared.object_id.ObjectId.{ObjectId}
use Rattle.gix_object.specs.declared.kind.Kind.{Kind}
use Rattle.gix_odb_calls.specs.Hashes.{is_of_hash}
use Rattle.gix_odb_calls.proofs.QueryLaws.{by_call-call_of, each_call, is_of_hash-query}
use Rattle.gix_odb_calls.specs.declared.call.Call.{Call}
use Rattle.gix_odb_calls.specs.declared.call.Call.TheVariants as call_kinds
use Rattle.gix_odb_calls.specs.declared.query.Query.{Query}
use Rattle.gix_object.specs.declared.want.Want.{Want}
use Rattle.gix_object.specs.declared.want.Want.TheVariants.{Object, Header, Presence}
use Rattle.gix_odb.specs.LookExchanges.{AreAsked, behind}
use Rattle.gix_odb.specs.LookUpOrder as looks
use Rattle.gix_odb.specs.declared.look_up.LookUp.{LookUp}
use Rattle.gix_odb.specs.RefreshOrder as refreshes
use Rattle.gix_odb.specs.declared.refresh.Refresh.TheVariants.{Reading}
use Rattle.gix_odb.specs.declared.refresh.RefreshStep.TheVariants as fronts
use Rattle.gix_odb.specs.Contents.{or_itself, replacement_in, sought, sought_for}
use Rattle.gix_odb.specs.CallOrder as calls
use Rattle.gix_odb.specs.CallOrder.{fronted, writing}
use Rattle.gix_odb.specs.declared.call_state.CallStage.{CallStage}
use Rattle.gix_odb.specs.declared.call_state.CallStage.TheVariants.{Looking}
use Rattle.gix_odb_world.specs.Work.{Calling}
use Rattle.gix_odb_world.specs.AtWork.{Modes, setting_in, view_in_modes}
use Rattle.gix_odb_history.specs.Event.{Event}
use Rattle.gix_odb_world.specs.Running.Query.{IsLooking, call_of}
use Rattle.gix_odb_world.specs.Status.{MakeCall, OpenStore, Store, Task, begun_with, running_from}
use Rattle.gix_odb_world.specs.Told.{look_begun, told_since, view_then}
use Rattle.gix_odb_world.proofs.MachineLaws.{BeginsAs, IsStarted}
use Rattle.gix_odb_world.proofs.OpenFacts.{same_is}
use Rattle.gix_odb_world.proofs.RefusedLemmas.{refused_at_first}
use Rattle.gix_odb_world.proofs.ToldLemmas.{snapshot_seen, told_first}
use Rattle.gix_odb_world.proofs.ToldWell.{told_well_at_first}

-- the sought id is of the store's hash
sought_of : (store : Store) (modes : Modes) (query : Query) → is_of_hash store.parts.object_hash (call_of query) ≡ true
    → ((id other : ObjectId) → replacement_in store.parts id ≡ Some other → kind_of other ≡ store.parts.object_hash)
    → kind_of (sought store.parts modes.ignoring query) ≡ store.parts.object_hash
sought_of store modes query hashed replaced = by query.want query.of named modes.ignoring
  where
    named : kind_of query.of ≡ store.parts.object_hash
    named = same_is (kind_of query.of) store.parts.object_hash (sym (is_of_hash-query store.parts.object_hash query) ∙ hashed)

    itself : (id : ObjectId) → kind_of id ≡ store.parts.object_hash → (o : Option ObjectId) → replacement_in store.parts id ≡ o → kind_of (or_itself o id) ≡ store.parts.object_hash
    itself id own None is = own
    itself id own (Some other) is = replaced id other is

    by : (want : Want) (id : ObjectId) → kind_of id ≡ store.parts.object_hash → (ignoring : Bool) → kind_of (sought_for (replacement_in store.parts) ignoring want id) ≡ store.parts.object_hash
    by Object id own true = own
    by Object id own false = itself id own (replacement_in store.parts id) refl
    by Header id own true = own
    by Header id own false = itself id own (replacement_in store.parts id) refl
    by Presence id own ignoring = own

module _ (first : Volume) (events : List Event) (e : Event) (handle : ℕ) (store : Store) (modes : Modes) where
  abbrev begun_whole : List Event
  begun_whole = events ++ e ∷ []

  abbrev number : ℕ
  number = length events + 1

  module _ (query : Query) (start : IsStarted first begun_whole handle store modes (call_of query)) where
    count : number ≡ length begun_whole
    count = sym (length_push events e)

    -- the snapshot of the handle is what it saw then
    seen : view_in_modes modes ≡ view_then begun_whole handle modes.core number
    seen = snapshot_seen events e handle modes start.seated

    nothing_told : told_since begun_whole handle number ≡ []
    nothing_told = ap (told_since begun_whole handle) count ∙ told_first begun_whole handle

    begins : (look : LookUp) → looks.started (setting_in store) modes.refresh (view_in_modes modes) query.want (sought store.parts modes.ignoring query) ≡ look
        → IsLooking first begun_whole handle (running_from number (MakeCall (call_of query)) store modes) look
    begins look is = record {
      query = query;
      task = refl;
      since = omega (arith, count);
      fits = record { distinct = start.distinct; hashed = sought_of store modes query start.hashed start.replaced };
      is =
          sym is
          ∙ (ap (λ v. looks.started (setting_in store) modes.refresh v query.want (sought store.parts modes.ignoring query)) seen
          ∙ ap (behind (setting_in store) (look_begun begun_whole handle store modes number query)) (sym nothing_told));
      asked = subst (AreAsked (setting_in store) (look_begun begun_whole handle store modes number query)) (sym nothing_told) tt;
      turns = ap length (sym nothing_told);
      well = told_well_at_first first events e handle store modes (call_of query) start;
      refused = refused_at_first events e handle modes.core;
    }

  -- a call begins with the look-up of its query
  begins_call : (query : Query) (look : LookUp) → IsStarted first begun_whole handle store modes (call_of query)
      → begun_with store modes (MakeCall (call_of query)) ≡ Calling (Looking look)
      → IsLooking first begun_whole handle (running_from number (MakeCall (call_of query)) store modes) look
  begins_call query look start is =
      let same : Calling (Looking (looks.started (setting_in store) modes.refresh (view_in_modes modes) query.want (sought store.parts modes.ignoring query))) ≡ Calling (Looking look) =
      ap (λ (s : CallStage). Calling s)
      (sym (by_call-call_of (λ (q : Query). calls.looking (setting_in store) modes.refresh (view_in_modes modes) (sought store.parts modes.ignoring) q)
      (λ kind size bytes known. fronted (refreshes.started (view_in_modes modes)) (writing store.parts.objects store.parts.object_hash kind size bytes known)) query)) ∙ is in
      begins query start look (cc same)

  begins_no_write : (kind : Kind) (size : ℕ) (bytes : List ℕ) (known : Option ObjectId) (look : LookUp)
      → ¬ (begun_with store modes (MakeCall (call_kinds.Write kind size bytes known)) ≡ Calling (Looking look))
  begins_no_write kind size bytes known look is = never (view_in_modes modes).read is
    where
      never : (read : Bool) → ¬ (Calling (fronted (if read then fronts.Read (view_in_modes modes) else fronts.More Reading) (writing store.parts.objects store.parts.object_hash kind size bytes known)) ≡ Calling (Looking look))
      never true is = cc is
      never false is = cc is

  pub looking_starts : (task : Task) (look : LookUp) → BeginsAs first begun_whole handle store modes task → begun_with store modes task ≡ Calling (Looking look)
      → IsLooking first begun_whole handle (running_from number task store modes) look
  looking_starts OpenStore look start is = absurd (cc is)
  looking_starts (MakeCall call) look start is =
      each_call
      (λ (c : Call). IsStarted first begun_whole handle store modes c → begun_with store modes (MakeCall c) ≡ Calling (Looking look)
      → IsLooking first begun_whole handle (running_from number (MakeCall c) store modes) look)
      (λ query own begun. begins_call query look own begun)
      (λ kind size bytes known own begun. absurd (begins_no_write kind size bytes known look begun))
      call start is

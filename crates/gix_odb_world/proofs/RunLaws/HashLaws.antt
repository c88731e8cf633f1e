-- Laws of runs about the ids of what finds find.
use Rattle.std.proofs.Common.{◌≡◌, ℕ, ◌+◌, ◌≤◌, List, [], ◌∷◌, ◌++◌, length, take, Ok, sym, ap, ◌∙◌, subst, arith}
use Rattle.std.proofs.lemmas.List.{length_push}
use Rattle.odb_base.specs.Path.{Path}
use Rattle.odb_disk.specs.MemDisk.{Volume}
use Rattle.odb_disk.specs.Tree.{Tree}
use Rattle.odb_disk.specs.Tree.Follow.{read_of}
use Rattle.gix_hash.specs.declared.kind.Kind.{Kind as HashKind}
use Rattle.gix_hash.specs.declared.object_id.ObjectId.{ObjectId}
use Rattle.gix_object.specs.Id.{object_id}
use Rattle.gix_object.specs.declared.kind.Kind.{Kind}
use Rattle.gix_odb_calls.specs.declared.call.Reply.TheVariants as replies
use Rattle.gix_object.specs.declared.want.Want.TheVariants as wants
use Rattle.gix_odb_calls.specs.declared.step.Outcome.TheVariants as outcomes
use Rattle.gix_odb.specs.Contents.{Contents, InIndex, InMulti, InMultiPack, InPack, LooseFile, Object, sought}
use Rattle.gix_odb.specs.Held.{Held, WasShown, WasShownAt}
use Rattle.gix_odb_world.specs.AtWork.{MakeCall, Running}
use Rattle.gix_odb_world.specs.Begun.{BegunAs}
use Rattle.gix_odb_history.specs.Event.{Event}
use Rattle.gix_odb_history.specs.Run.{tree_at}
use Rattle.gix_odb_world.specs.Told.{call_of}
use Rattle.gix_odb_world.proofs.RunSteps.Fronts.{take_next}
use Rattle.gix_odb_world.specs.RunLaws.Hashed.{ObjectsHash, find_of}
use Rattle.gix_odb_world.specs.RunLaws.Turn.{IsQueryTurn}
use Rattle.gix_odb_world.proofs.RunLaws.KnownRun.{IsKnownRun}
use Rattle.gix_odb_world.proofs.RunLaws.QueryTurns.{IsLookTurn, look_turn, tree_in_front}

-- what was shown up to a moment of a prefix of a run was shown in the run
module _ (first : Volume) (events : List Event) (place : ℕ) (within : place ≤ length events) where
  shown_in_run : (opened from now : ℕ) → opened ≤ from → now ≤ place → (path : Path) (bytes : List ℕ) → WasShownAt (tree_at first (take place events)) from now path bytes
      → WasShownAt (tree_at first events) opened (length events) path bytes
  shown_in_run opened from now later early path bytes was =
      let since = was.from in
      let to = was.to in
      let last = within in
      record {
        moment = was.moment;
        from = omega (arith, later, since);
        to = omega (arith, to, early, last);
        was =
            subst (λ (tree : Tree). (time : ℕ) × (read_of tree path ≡ Ok (bytes, time)))
            (tree_in_front first events place was.moment (omega (arith, to, early))) was.was;
      }

  -- where a call began after its store was opened, contents that were shown since the call began were shown since the store was opened
  contents_in_run : (opened begun now : ℕ) → opened ≤ begun → now ≤ place → (folder : Path) (id : ObjectId) (contents : Contents)
      → WasShown (tree_at first (take place events)) opened begun now folder id contents
      → WasShown (tree_at first events) opened opened (length events) folder id contents
  contents_in_run opened begun now later early folder id (LooseFile bytes) was = shown_in_run opened begun now later early _ bytes was
  contents_in_run opened begun now later early folder id (InIndex name index offset) was =
      (was.0, shown_in_run opened opened now (omega arith) early _ index was.1)
  contents_in_run opened begun now later early folder id (InPack name index pack offset) was =
      (was.0, shown_in_run opened opened now (omega arith) early _ index was.1, shown_in_run opened opened now (omega arith) early _ pack was.2)
  contents_in_run opened begun now later early folder id (InMulti name multi offset) was = shown_in_run opened opened now (omega arith) early _ multi was
  contents_in_run opened begun now later early folder id (InMultiPack name multi pack offset) was =
      (shown_in_run opened opened now (omega arith) early _ multi was.0, shown_in_run opened opened now (omega arith) early _ pack was.1)

-- Where each object in the files of a store, as the run shows them since the store was opened, has data that hash to its id, what a find finds has
-- data that hash to the id that it seeks.
pub found_data_hash_to_the_sought_id : (first : Volume) (events : List Event) → IsKnownRun first events
    → (place : ℕ) (e : Event) (handle : ℕ) (running : Running) (asked : ObjectId) → IsQueryTurn events place e handle running (find_of asked)
    → (kind : Kind) (bytes : List ℕ) → e.outcome ≡ outcomes.Reply (replies.Found kind bytes)
    → ObjectsHash (tree_at first events) (length events) running.store
    → object_id running.store.parts.object_hash kind bytes ≡ sought running.store.parts running.modes.ignoring (find_of asked)
found_data_hash_to_the_sought_id first events is place e handle running asked turn kind bytes ends hashed =
    let at : IsLookTurn first events place e handle running (find_of asked) = look_turn first events is place e handle running (find_of asked) turn in
    let id : ObjectId = sought running.store.parts running.modes.ignoring (find_of asked) in
    let past : List Event = take place events in
    let began : BegunAs past handle running.begun running.store (MakeCall (call_of (find_of asked))) =
    subst (BegunAs past handle running.begun running.store) turn.task at.works.begins in
    let held : Held (tree_at first (past ++ e ∷ [])) running.store.parts running.store.opened running.begun (length (past ++ e ∷ [])) wants.Object id (Object kind bytes) =
    at.law.promise handle running (MakeCall (call_of (find_of asked))) (replies.Found kind bytes) turn.turns began ends in
    let front : take (place + 1) events ≡ past ++ e ∷ [] = take_next events place e turn.there in
    let own : Held (tree_at first (take (place + 1) events)) running.store.parts running.store.opened running.begun (length (past ++ e ∷ [])) wants.Object id (Object kind bytes) =
    subst (λ (es : List Event). Held (tree_at first es) running.store.parts running.store.opened running.begun (length (past ++ e ∷ [])) wants.Object id (Object kind bytes)) (sym front) held in
    let count = length_push past e in
    let long = at.long in
    let within = at.within in
    let early : length (past ++ e ∷ []) ≤ place + 1 = omega (arith, count, long) in
    ap (λ (hash : HashKind). object_id hash kind bytes) (sym at.fits.hashed)
    ∙ hashed id own.folder own.among own.contents
    (contents_in_run first events (place + 1) (omega (arith, within)) running.store.opened running.begun (length (past ++ e ∷ [])) at.well.opened early own.folder id own.contents
    own.shown)
    kind bytes own.holds

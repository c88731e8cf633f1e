-- Laws of runs about what queries read: it is stored in the next turn, and nothing else is.
use Rattle.std.proofs.Common.{◌≡◌, ℕ, true, List, length, take, Some, sym, ap, ◌∙◌, arith}
use Rattle.std.specs.Prelude.{slice_get}
use Rattle.odb_base.specs.Path.{Path}
use Rattle.odb_disk.specs.MemDisk.{Volume}
use Rattle.odb_disk.specs.declared.ask.DiskAnswer.TheVariants as answers
use Rattle.odb_disk.specs.declared.ask.DiskAsk.TheVariants as asks
use Rattle.odb_disk.specs.Tree.{Tree}
use Rattle.gix_hash.specs.declared.object_id.ObjectId.{ObjectId}
use Rattle.gix_pack_read.specs.Index.{is_index}
use Rattle.gix_pack_read.specs.Pack.{is_pack}
use Rattle.gix_odb_events.specs.declared.pack_id.PackId.{PackId}
use Rattle.gix_odb_events.specs.declared.event.Event.TheVariants as events_of
use Rattle.gix_odb_events.specs.declared.event.PassWhy.{PassWhy}
use Rattle.gix_odb_events.specs.declared.view.View.{View}
use Rattle.gix_odb_calls.specs.declared.query.Query.{Query}
use Rattle.gix_odb.specs.LookExchanges.{Exchange}
use Rattle.gix_odb.specs.LookUpOrder.{Setting, ask_of}
use Rattle.gix_odb.specs.Shown.{IsIndexPath}
use Rattle.gix_odb.specs.Contents.{ShowsFile, sought}
use Rattle.gix_odb.specs.Held.{WasShownWith}
use Rattle.gix_odb.specs.JustRead.{GotLast, IsOfLastRead, IsPackPath, MissedLast, read_of}
use Rattle.gix_odb.proofs.ReadLaws.{index_that_was_read_is_stored_next, pack_that_was_read_is_stored_next, what_is_stored_or_passed_over_was_just_read}
use Rattle.gix_odb_world.specs.AtWork.{Running, setting_in}
use Rattle.gix_odb_history.specs.Event.{CoreEvent, Event}
use Rattle.gix_odb_history.specs.Run.{disk_after, tree_at}
use Rattle.gix_odb_world.specs.Told.{exchange_of, told_since, view_then}
use Rattle.gix_odb_world.proofs.DiskTold.{read_is}
use Rattle.gix_odb_world.specs.RunLaws.Stored.{IsAsRead, IsBacked, IsMissing}
use Rattle.gix_odb_world.specs.RunLaws.Turn.{AsksCore, IsQueryTurn, IsTurnBefore, Reads}
use Rattle.gix_odb_world.proofs.RunLaws.JustRead.{answered_then, just_read, told_before_next}
use Rattle.gix_odb_world.proofs.RunLaws.KnownRun.{IsKnownRun}
use Rattle.gix_odb_world.proofs.RunLaws.QueryTurns.{IsLookTurn, asks_look, look_asks, look_turn}

module _ (first : Volume) (events : List Event) (is : IsKnownRun first events) where
  abbrev trees : ℕ → Tree
  trees moment = tree_at first events moment

  -- a path that was read showed what was read
  shown_then : (place : ℕ) (e : Event) (path : Path) (bytes : List ℕ) (time : ℕ) → slice_get events place ≡ Some e → Reads e path (answers.File bytes time)
      → ShowsFile (tree_at first events place) path bytes
  shown_then place e path bytes time there reads =
      (time, read_is (disk_after first (take place events)) path bytes time (answered_then first events is place e there (asks.Read path) (answers.File bytes time) reads))

  module _ (place : ℕ) (e : Event) (handle : ℕ) (running : Running) (query : Query) (turn : IsQueryTurn events place e handle running query) where
    abbrev past : List Event
    past = take place events

    abbrev begun : ℕ
    begun = running.begun

    abbrev told : List Exchange
    told = told_since past handle begun

    abbrev id : ObjectId
    id = sought running.store.parts running.modes.ignoring query

    abbrev view : View
    view = view_then past handle running.modes.core begun

    abbrev setting : Setting
    setting = setting_in running.store

    abbrev Shown : Path → ℕ → List ℕ → Type 0
    Shown path time bytes = WasShownWith (tree_at first past) running.store.opened (length past) path time bytes

    at : IsLookTurn first events place e handle running query
    at = look_turn first events is place e handle running query turn

    -- ---- what was read is stored

    module _ (before : ℕ) (read : Event) (path : Path) (bytes : List ℕ) (time : ℕ) (comes : IsTurnBefore events handle begun before read place)
        (reads : Reads read path (answers.File bytes time)) where
      got : GotLast told path bytes
      got =
          let within = at.within in
          record {
            time = time;
            last = (
              told_since (take before events) handle begun,
              told_before_next events handle begun before read place comes (omega (arith, within)) (read_of path (answers.File bytes time)) (ap exchange_of reads),
            );
          }

      -- Where a query read an index in a folder of its store, and the bytes parse, its next turn stores these bytes.
      pub index_that_a_turn_read_is_stored_in_the_next : IsIndexPath setting path → is_index running.store.parts.object_hash bytes ≡ true
          → (slot : ℕ) × AsksCore e (events_of.PutIndex slot path (record { kind = running.store.parts.object_hash; bytes = bytes }))
      index_that_a_turn_read_is_stored_in_the_next index parsed =
          let put =
          index_that_was_read_is_stored_next Shown setting running.store.parts.object_hash query.want id at.fits.hashed running.modes.refresh view at.well.snapshot told at.asked at.well.truth path bytes index parsed got in (
            put.0,
            asks_look first events place e handle running query at
                (events_of.PutIndex put.0 path (record { kind = running.store.parts.object_hash; bytes = bytes })) (ap ask_of at.is ∙ put.1),
          )

      -- And where it read a pack, its next turn stores that.
      pub pack_that_a_turn_read_is_stored_in_the_next : IsPackPath setting path → is_pack running.store.parts.object_hash bytes ≡ true
          → (pack : PackId) × AsksCore e (events_of.PutPack pack path (record { kind = running.store.parts.object_hash; bytes = bytes }))
      pack_that_a_turn_read_is_stored_in_the_next pack parsed =
          let put =
          pack_that_was_read_is_stored_next Shown setting running.store.parts.object_hash query.want id at.fits.hashed running.modes.refresh view at.well.snapshot told at.asked at.well.truth path bytes pack parsed got in (
            put.0,
            asks_look first events place e handle running query at
                (events_of.PutPack put.0 path (record { kind = running.store.parts.object_hash; bytes = bytes })) (ap ask_of at.is ∙ put.1),
          )

    -- ---- what is stored was read

    as_read : (path : Path) (bytes : List ℕ) → GotLast told path bytes → IsAsRead events trees handle begun place path bytes
    as_read path bytes last =
        let read = just_read first events place e handle running query at path (answers.File bytes last.time) last.last in
        record { time = last.time; read = read; shown = shown_then read.place read.event path bytes last.time read.before.there read.reads }

    missing : (path : Path) (why : PassWhy) → MissedLast running.store.parts.object_hash told path why → IsMissing events handle begun place running.store.parts.object_hash path why
    missing path why last =
        record { answer = last.answer; read = just_read first events place e handle running query at path last.answer last.last; reason = last.reason }

    backed : (event : CoreEvent) → IsOfLastRead running.store.parts.object_hash told event → IsBacked events trees handle begun place running.store.parts.object_hash event
    backed (events_of.PutIndex slot path file) last = as_read path file.bytes last
    backed (events_of.PutPack pack path file) last = as_read path file.bytes last
    backed (events_of.PassOver slot path why) last = missing path why last
    backed event last = tt

    -- What a query stores is what it read in the turn before, as the file's path showed it then; and it passes a file over only in the turn after a
    -- read of its path, for what that read gave.
    pub what_a_turn_stores_or_passes_over_was_just_read : (event : CoreEvent) → AsksCore e event → IsBacked events trees handle begun place running.store.parts.object_hash event
    what_a_turn_stores_or_passes_over_was_just_read event asks_it =
        backed event
        (what_is_stored_or_passed_over_was_just_read Shown setting running.store.parts.object_hash query.want id at.fits.hashed running.modes.refresh view at.well.snapshot told at.asked at.well.truth event
        (sym (ap ask_of at.is) ∙ look_asks first events place e handle running query at event asks_it))

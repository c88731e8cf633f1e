-- Along a run the streams of handles at work are open, and no two handles read one.
use Rattle.std.proofs.Common.{◌≡◌, ◌≢◌, ◌⊎◌, ℕ, true, false, List, Contains, Option, Some, None, inl, inr, sym, ◌∙◌, ap, subst}
use Rattle.odb_base.specs.Path.{Path}
use Rattle.odb_disk.specs.MemDisk.{Volume}
use Rattle.odb_disk.specs.StreamAsks.{is_of_streams}
use Rattle.odb_disk.specs.declared.ask.DiskAsk.{DiskAsk}
use Rattle.odb_disk.specs.declared.ask.DiskAsk.TheVariants as asks
use Rattle.gix_odb_loose.specs.LooseOrder.{IsStreamless, disk_ask_of}
use Rattle.gix_odb_loose.specs.declared.call.LooseCall.{LooseCall}
use Rattle.gix_odb_loose.specs.declared.write_order.WriteStage.{WriteStage}
use Rattle.gix_odb_loose.proofs.StillAskLaws.{call_asks_still}
use Rattle.gix_odb_search.specs.ListOrder as lists
use Rattle.gix_odb_search.specs.PackFolder.{pack_folder}
use Rattle.gix_odb_events.specs.declared.answer.Ask.{Ask}
use Rattle.gix_odb_events.specs.declared.answer.Ask.TheVariants as parts
use Rattle.gix_odb.specs.LookUpOrder as looks
use Rattle.gix_odb.specs.OpenStream.{IsOnStream}
use Rattle.gix_odb.specs.Stream.{Stream, stream_in}
use Rattle.gix_odb.proofs.HandedLaws.{streams_of_look_ups_are_their_own}
use Rattle.gix_odb.proofs.OpenedLaws.{look_ups_open_folders_of_packs}
use Rattle.gix_odb.specs.RefreshOrder as refreshes
use Rattle.gix_odb.proofs.RefreshLaws.{refreshes_open_folders_of_packs, streams_of_refreshes_are_their_own}
use Rattle.gix_odb.specs.Contents.{folder_list, sought}
use Rattle.gix_odb.specs.OpenExchanges.{asks_of as opening_asks}
use Rattle.gix_odb.proofs.OpenLaws.{openings_open_folders_of_packs, streams_of_openings_are_their_own}
use Rattle.gix_odb.specs.declared.call_state.CallStage.TheVariants.{Looking, Refreshing, Refused, Writing}
use Rattle.gix_odb.specs.declared.open_state.OpenStage.TheVariants as opens
use Rattle.gix_odb_world.specs.Work.{Work}
use Rattle.gix_odb_world.specs.Work.{Opening, Calling}
use Rattle.gix_odb_world.specs.AtWork.{Running, setting_in}
use Rattle.gix_odb_history.specs.Event.{Event}
use Rattle.gix_odb_history.specs.Writing.{ToWrite}
use Rattle.gix_odb.specs.CallOrder.{loose_ask}
use Rattle.gix_odb_world.specs.Machines.{ask_in}
use Rattle.gix_odb_world.specs.Running.{Knows}
use Rattle.gix_odb_world.specs.Running.Write.{write_at}
use Rattle.gix_odb_world.specs.Status.{Working, status_of}
use Rattle.gix_odb_world.specs.Told.{look_now, opening_now, refresh_now, told_since, view_then}
use Rattle.gix_odb_world.proofs.Stock.OneCore.{ShownSince}
use Rattle.gix_odb_world.proofs.Streams.OneEvent.{StandsOpen}

-- ---- what a handle at work asks of streams

-- the call of the disk of a handle that is at work: it opens only folders of packs, and reads and closes only its own stream
pub record AsksOwn (events : List Event) (handle : ℕ) (running : Running) (ask : DiskAsk) : Type 0 where
  pub opens : (path : Path) → ask ≡ asks.OpenDir path → (folder : Path) × Contains (folder_list running.store.parts) folder × (path ≡ pack_folder folder)
  pub on : (dir : ℕ) → IsOnStream dir ask → (stream : Stream) × (stream_in (told_since events handle running.begun) ≡ Some stream) × (stream.dir ≡ dir)

-- a call that isn't of streams is on none
still_asks : (events : List Event) (handle : ℕ) (running : Running) (ask : DiskAsk) → is_of_streams ask ≡ false → AsksOwn events handle running ask
still_asks events handle running ask still = record {
  opens = λ path is. let none : is_of_streams (asks.OpenDir path) ≡ false = ap is_of_streams (sym is) ∙ still in absurd (cc none);
  on = λ dir is. absurd (on_none ask still dir is);
}
  where
    on_none : (ask : DiskAsk) → is_of_streams ask ≡ false → (dir : ℕ) → ¬ (IsOnStream dir ask)
    on_none (asks.NextEntry other) still dir is = cc still
    on_none (asks.CloseDir other) still dir is = cc still
    on_none (asks.OpenDir path) still dir is = is
    on_none (asks.Look path follow) still dir is = is
    on_none (asks.Read path) still dir is = is
    on_none (asks.MakeDir path) still dir is = is
    on_none (asks.NewFile path) still dir is = is
    on_none (asks.Append path bytes) still dir is = is
    on_none (asks.Rename from to) still dir is = is
    on_none (asks.Remove path) still dir is = is

call_of_disk : (asked : Option DiskAsk) (ask : DiskAsk) → loose_ask asked ≡ Some (parts.Disk ask) → asked ≡ Some ask
call_of_disk None ask is = absurd (cc is)
call_of_disk (Some own) ask is = let same : own ≡ ask = cc is in ap (λ a. Some a) same

-- a call on a stream is for its next entry, or closes it
on_stream : (asked : Option Ask) (ask : DiskAsk) → asked ≡ Some (parts.Disk ask) → (dir : ℕ) → IsOnStream dir ask
    → (asked ≡ Some (parts.Disk (asks.NextEntry dir))) ⊎ (asked ≡ Some (parts.Disk (asks.CloseDir dir)))
on_stream asked (asks.NextEntry other) is dir same = inl (is ∙ ap (λ n. Some (parts.Disk (asks.NextEntry n))) same)
on_stream asked (asks.CloseDir other) is dir same = inr (is ∙ ap (λ n. Some (parts.Disk (asks.CloseDir n))) same)
on_stream asked (asks.OpenDir path) is dir never = absurd never
on_stream asked (asks.Look path follow) is dir never = absurd never
on_stream asked (asks.Read path) is dir never = absurd never
on_stream asked (asks.MakeDir path) is dir never = absurd never
on_stream asked (asks.NewFile path) is dir never = absurd never
on_stream asked (asks.Append path bytes) is dir never = absurd never
on_stream asked (asks.Rename from to) is dir never = absurd never
on_stream asked (asks.Remove path) is dir never = absurd never

-- a write reads no directory
streamless : (call : LooseCall) (write : ToWrite) (stage : WriteStage) → call ≡ write_at write stage → IsStreamless call.stage
streamless call write stage is = subst (λ (c : LooseCall). IsStreamless c.stage) (sym is) tt

pub asks_own : (first : Volume) (events : List Event) (handle : ℕ) (running : Running) (work : Work) → Knows first events handle running work → (ask : DiskAsk)
    → ask_in running.store work ≡ Some (parts.Disk ask) → AsksOwn events handle running ask
asks_own first events handle running (Opening opens.Looking) knows ask is =
    let same : asks.Look running.store.parts.objects true ≡ ask = cc is in still_asks events handle running ask (ap is_of_streams (sym same))
asks_own first events handle running (Opening (opens.Listing lister percent minimum)) knows ask is =
    let setting = setting_in running.store in
    let exchanges = told_since events handle running.begun in
    let here : opening_asks setting (opens.Listing lister percent minimum) ≡ Some (parts.Disk ask) =
    let same : lists.ask_of lister ≡ ask = cc is in ap (λ (a : DiskAsk). Some (parts.Disk a)) same in
    let asked : opening_asks setting (opening_now events handle running.store running.begun) ≡ Some (parts.Disk ask) = ap (opening_asks setting) (sym knows.is) ∙ here in
    record {
      opens = λ path same.
          openings_open_folders_of_packs setting running.store.parts.slots exchanges knows.asked knows.well.suited path (asked ∙ ap (λ a. Some (parts.Disk a)) same);
      on = λ dir on_it.
          let own = streams_of_openings_are_their_own setting running.store.parts.slots exchanges knows.asked knows.well.suited dir
          (on_stream (opening_asks setting (opening_now events handle running.store running.begun)) ask asked dir on_it) in
          (own.stream, own.told, own.number);
    }
asks_own first events handle running (Opening (opens.Registering slots)) knows ask is = absurd (cc is)
asks_own first events handle running (Opening (opens.Done reply)) knows ask is = absurd (cc is)
asks_own first events handle running (Calling (Refused error)) knows ask is = absurd (cc is)
asks_own first events handle running (Calling (Refreshing refresh call)) knows ask is =
    let setting = setting_in running.store in
    let exchanges = told_since events handle running.begun in
    let snapshot = view_then events handle running.modes.core running.begun in
    let asked : refreshes.asked_of (refresh_now events handle running.store running.modes running.begun) ≡ Some (parts.Disk ask) =
    ap refreshes.asked_of (sym knows.refresh_is) ∙ is in
    record {
      opens = λ path same. refreshes_open_folders_of_packs setting snapshot exchanges knows.asked knows.well.suited path (asked ∙ ap (λ a. Some (parts.Disk a)) same);
      on = λ dir on_it.
          let own = streams_of_refreshes_are_their_own setting snapshot exchanges knows.asked dir
          (on_stream (refreshes.asked_of (refresh_now events handle running.store running.modes running.begun)) ask asked dir on_it) in
          (own.stream, own.told, own.number);
    }
asks_own first events handle running (Calling (Writing call)) knows ask is =
    still_asks events handle running ask
    (call_asks_still call ask (streamless call knows.writing.write knows.writing.stage knows.writing.is) (call_of_disk (disk_ask_of call) ask is))
asks_own first events handle running (Calling (Looking look)) knows ask is =
    let asked : looks.ask_of (look_now events handle running.store running.modes running.begun knows.query) ≡ Some (parts.Disk ask) =
    ap looks.ask_of (sym knows.is) ∙ is in
    record {
      opens = λ path same.
          look_ups_open_folders_of_packs (ShownSince first events running.store) (setting_in running.store) running.store.parts.object_hash knows.query.want
          (sought running.store.parts running.modes.ignoring knows.query) knows.fits.hashed running.modes.refresh (view_then events handle running.modes.core running.begun) knows.well.snapshot
          (told_since events handle running.begun) knows.asked knows.well.truth path (asked ∙ ap (λ a. Some (parts.Disk a)) same);
      on = λ dir on_it.
          let own = streams_of_look_ups_are_their_own (setting_in running.store) running.modes.refresh (view_then events handle running.modes.core running.begun) knows.query.want
          (sought running.store.parts running.modes.ignoring knows.query) (told_since events handle running.begun) knows.asked dir
          (on_stream (looks.ask_of (look_now events handle running.store running.modes running.begun knows.query)) ask asked dir on_it) in
          (own.stream, own.told, own.number);
    }

-- ---- all streams

-- the stream of each handle at work is open, and those of two handles have two numbers
pub record AreOpen (first : Volume) (events : List Event) : Type 0 where
  pub stands : (handle : ℕ) (running : Running) → status_of events handle ≡ Working running → (stream : Stream)
      → stream_in (told_since events handle running.begun) ≡ Some stream → StandsOpen first events running stream
  pub apart : (handle other : ℕ) (running further : Running) → handle ≢ other → status_of events handle ≡ Working running → status_of events other ≡ Working further
      → (one two : Stream) → stream_in (told_since events handle running.begun) ≡ Some one → stream_in (told_since events other further.begun) ≡ Some two
      → one.dir ≢ two.dir

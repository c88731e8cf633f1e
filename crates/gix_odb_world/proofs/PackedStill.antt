-- While an object stays unchanged in a pack, the answers to a query are fair to it.
pub mod Directory
pub mod Answers
pub mod Moments
pub mod Contents
pub mod Rule
use Rattle.std.proofs.Common.{◌≡◌, ℕ, ◌≤◌, Bool, true, false, List, [], ◌∷◌, ◌++◌, length, Option, Ok, inl, inr, refl, sym, ap, ◌∙◌, subst}
use Rattle.std.proofs.Common.{append-nil, append_assoc, arith}
use Rattle.std.specs.Prelude.{if◌then◌else◌}
use Rattle.std.proofs.lemmas.Bool.{false_from_ne_true}
use Rattle.odb_base.specs.Path.{Path}
use Rattle.odb_disk.specs.Entries.{opened}
use Rattle.odb_disk.specs.Tree.{tree_of}
use Rattle.odb_disk.specs.Tree.Follow.{looked}
use Rattle.odb_disk.specs.declared.entry.Entry.{Entry}
use Rattle.odb_disk.specs.Ask.{answer_in, answer_now, fails_now}
use Rattle.odb_disk.specs.MemDisk.{Volume}
use Rattle.odb_disk.specs.declared.ask.DiskAnswer.TheVariants as answers
use Rattle.odb_disk.specs.declared.ask.DiskAsk.{DiskAsk}
use Rattle.odb_disk.specs.declared.ask.DiskAsk.TheVariants as asks
use Rattle.odb_disk.specs.declared.disk_error.DiskError.TheVariants as errors
use Rattle.gix_hash.specs.declared.kind.Kind.{Kind}
use Rattle.gix_hash.specs.declared.object_id.ObjectId.{ObjectId}
use Rattle.gix_odb_search.specs.PackFolder.{pack_folder}
use Rattle.gix_odb_search.specs.declared.multi_pack.MultiUse.{MultiUse}
use Rattle.gix_odb_events.specs.declared.answer.Answer.TheVariants as told
use Rattle.gix_odb_events.specs.declared.answer.Ask.TheVariants as parts
use Rattle.gix_odb.specs.LookExchanges.{Exchange}
use Rattle.gix_odb.specs.Fair.{AreFair, IsDiskFair, IsFair, PackedPlace, carrier_name}
use Rattle.gix_odb.specs.OpenStream.{ListsFile}
use Rattle.gix_odb.specs.StillListed.{AreFairOrFailed, IsFairOrFailed}
use Rattle.gix_odb.specs.Store.{listed_for}
use Rattle.gix_odb.proofs.HandedLaws.{IsOwnStream}
use Rattle.gix_odb.proofs.StreamLaws.Directories.{looked_file_is_listed}
use Rattle.gix_odb.proofs.StreamLaws.Exchanges.{next_answer_is_fair}
use Rattle.gix_odb_world.specs.AtWork.{Running}
use Rattle.gix_odb_history.specs.Event.{Event}
use Rattle.gix_odb_history.specs.Run.{FailedSince, disk_after, tree_at}
use Rattle.gix_odb_world.specs.Running.PackedStill.{IsPackedStill, LiesPacked}
use Rattle.gix_odb_world.specs.Told.{told_since}
use Rattle.gix_odb_world.proofs.MachineLaws.{IsRunning}
use Rattle.gix_odb_world.proofs.PackedStill.Answers.{calls_are_fair}
use Rattle.gix_odb_world.proofs.PackedStill.Contents.{carrier_itself}
use Rattle.gix_odb_world.proofs.PackedStill.Moments.{lies_at}
use Rattle.gix_odb_world.proofs.QuietTurn.{failed_now}
use Rattle.gix_odb_world.proofs.Streams.{streams_stand}
use Rattle.gix_odb_world.proofs.Streams.OneEvent.{StandsOpen}
use Rattle.gix_odb_world.proofs.WriteTurn.Common.{IsTurnWith}

-- exchanges with a fair one after them are fair
pub AreFair-push : (multi : Option MultiUse) (hash : Kind) (id : ObjectId) (place : PackedPlace) (past exchanges : List Exchange) (exchange : Exchange)
    → AreFair multi hash id place past exchanges → IsFair multi hash id place (past ++ exchanges) exchange.ask exchange.answer
    → AreFair multi hash id place past (exchanges ++ exchange ∷ [])
AreFair-push multi hash id place past [] exchange all one =
    (subst (λ es. IsFair multi hash id place es exchange.ask exchange.answer) (append-nil past) one, tt)
AreFair-push multi hash id place past (first ∷ exchanges) exchange all one = (
  all.0,
  AreFair-push multi hash id place (past ++ first ∷ []) exchanges exchange all.1
      (subst (λ es. IsFair multi hash id place es exchange.ask exchange.answer) (sym (append_assoc past (first ∷ []) exchanges)) one),
)

-- and so where calls may have failed
pub AreFairOrFailed-push : (multi : Option MultiUse) (hash : Kind) (id : ObjectId) (place : PackedPlace) (past exchanges : List Exchange) (exchange : Exchange)
    → AreFairOrFailed multi hash id place past exchanges → IsFairOrFailed multi hash id place (past ++ exchanges) exchange.ask exchange.answer
    → AreFairOrFailed multi hash id place past (exchanges ++ exchange ∷ [])
AreFairOrFailed-push multi hash id place past [] exchange all one =
    (subst (λ es. IsFairOrFailed multi hash id place es exchange.ask exchange.answer) (append-nil past) one, tt)
AreFairOrFailed-push multi hash id place past (first ∷ exchanges) exchange all one = (
  all.0,
  AreFairOrFailed-push multi hash id place (past ++ first ∷ []) exchanges exchange all.1
      (subst (λ es. IsFairOrFailed multi hash id place es exchange.ask exchange.answer) (sym (append_assoc past (first ∷ []) exchanges)) one),
)

-- ---- a call of the disk in a turn

module _ (first : Volume) (events : List Event) (e : Event) (handle : ℕ) (running : Running) (ran : IsRunning first events handle running)
    (since : running.begun ≤ length events) (id : ObjectId) (place : PackedPlace)
    (still : IsPackedStill (tree_at first (events ++ e ∷ [])) running.store running.begun (length (events ++ e ∷ [])) id place) where
  abbrev whole : List Event
  whole = events ++ e ∷ []

  abbrev disk : Volume
  disk = disk_after first events

  abbrev before : List Exchange
  before = told_since events handle running.begun

  abbrev multi : Option MultiUse
  multi = (listed_for running.store.parts).multi

  abbrev hash : Kind
  hash = running.store.parts.object_hash

  -- the folder that a stream was opened on listed the carrier as a file then
  lists : (folder : Path) (moment : ℕ) → running.begun ≤ moment → moment ≤ length events → (entries : List Entry)
      → opened (tree_at first events moment) folder ≡ Ok entries → folder ≡ pack_folder place.folder → ListsFile (tree_at first events moment) folder (carrier_name place)
  lists folder moment from to entries opens here =
      let itself =
      carrier_itself running.store.parts (tree_at first events moment) id place (lies_at first events e running.store running.begun id place still moment from to) in
      looked_file_is_listed (tree_at first events moment) folder entries (carrier_name place) itself.meta opens
      (ap (λ f. looked (tree_at first events moment) (f ++ carrier_name place ∷ []) false) here ∙ itself.looks) itself.is_file

  module _ (dir : ℕ) (own : IsOwnStream before dir) where
    stands : StandsOpen first events running own.stream
    stands = streams_stand first events ran.lawful ran.throughout handle running ran.status own.stream own.told

    -- the next entry of its own stream
    next_is_fair : IsDiskFair multi hash id place before (asks.NextEntry dir) (answer_now disk (asks.NextEntry dir))
    next_is_fair =
        subst (λ n. IsDiskFair multi hash id place before (asks.NextEntry n) (answer_now disk (asks.NextEntry n))) own.number
        (next_answer_is_fair multi hash id place (tree_at first events stands.moment) disk own.stream stands.coming stands.is
        (lists own.stream.folder stands.moment stands.from stands.to (own.stream.entries ++ stands.coming) stands.is.fixed)
        before own.told)

  -- the tree that answers is that of the moment before
  lies_now : tree_at first events (length events) ≡ tree_of disk.state → LiesPacked running.store.parts (tree_of disk.state) id place
  lies_now here =
      subst (λ t. LiesPacked running.store.parts t id place) here
      (lies_at first events e running.store running.begun id place still (length events) since (omega arith))

  -- it is fair, where it doesn't fail
  pub told_fairly : (ask : DiskAsk) → ((dir : ℕ) → ask ≡ asks.NextEntry dir → IsOwnStream before dir) → tree_at first events (length events) ≡ tree_of disk.state
      → IsTurnWith first events e handle ask → ¬ (FailedSince whole handle running.begun)
      → IsFair multi hash id place before (parts.Disk ask) (told.Disk (answer_now disk ask))
  told_fairly ask own here turn works =
      calls_are_fair running.store.parts id place disk (lies_now here) before ask
      (false_from_ne_true (fails_now disk ask) (λ fails. works (failed_now first events e handle running since ask turn fails)))
      (λ dir is. next_is_fair dir (own dir is))

  -- it is fair, or it fails
  pub told_fairly_or_failed : (ask : DiskAsk) → ((dir : ℕ) → ask ≡ asks.NextEntry dir → IsOwnStream before dir) → tree_at first events (length events) ≡ tree_of disk.state
      → IsFairOrFailed multi hash id place before (parts.Disk ask) (told.Disk (answer_now disk ask))
  told_fairly_or_failed ask own here = by (fails_now disk ask) refl
    where
      by : (b : Bool) → fails_now disk ask ≡ b → IsFairOrFailed multi hash id place before (parts.Disk ask) (told.Disk (answer_now disk ask))
      by true fails = inr (ap (λ (b : Bool). if b then answers.Refused errors.Failed else answer_in (tree_of disk.state) disk.streams ask) fails)
      by false works = inl (calls_are_fair running.store.parts id place disk (lies_now here) before ask works (λ dir is. next_is_fair dir (own dir is)))

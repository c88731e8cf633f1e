-- How trying the indices of a list ends.
use Rattle.std.proofs.Common.{◌≡◌, Bool, true, false, List, [], ◌∷◌, Option, Some, None, Result, Ok, Err, refl, sym, subst, ℕ, inl, inr}
use Rattle.std.specs.Prelude.{slice_get, unwrap_or, if◌then◌else◌}
use Rattle.std.proofs.lemmas.Bool.{or_cases}
use Rattle.odb_base.specs.Path.{Path}
use Rattle.odb_disk.specs.declared.ask.DiskAnswer.{DiskAnswer}
use Rattle.odb_disk.specs.declared.ask.DiskAnswer.TheVariants as answers
use Rattle.odb_disk.specs.declared.disk_error.DiskError.TheVariants as disk_errors
use Rattle.gix_hash.specs.ObjectId.{kind_of}
use Rattle.gix_pack_read.specs.FileBytes.{FileBytes}
use Rattle.gix_pack_read.specs.Pack.{Entry, entry_at, header_at, is_pack}
use Rattle.gix_pack_read.specs.declared.data.Error as pack
use Rattle.gix_pack_read.specs.declared.data.entry.Header as pack_header
use Rattle.gix_odb_events.specs.declared.event.Refusal.{Refusal}
use Rattle.gix_odb_events.specs.OnDiskFile.{loaded}
use Rattle.gix_odb_events.specs.PackFiles.{PackFile}
use Rattle.gix_odb_events.specs.declared.loaded.SnapshotIndex.{SnapshotIndex}
use Rattle.gix_odb_events.specs.declared.loaded.Todo.{Todo}
use Rattle.gix_odb_search.specs.Goal.{given_by, header_in, object_in}
use Rattle.gix_odb_search.specs.Search.{at_spot, first_of, given_or_not, in_file, in_packs, place_in, rest_behind, search, tried, was_absent, with_absent}
use Rattle.gix_odb_search.specs.Spot.{spot_in}
use Rattle.gix_odb_search.specs.LoadOrder as load
use Rattle.gix_odb_search.specs.TryOrder.{after_load, at, ask_of, ask_at, noting, is_failed, at_search, at_todo, by_answer, by_given, fed, pack_read, seek, pack_behind}
use Rattle.gix_odb_events.specs.declared.answer.Answer.{Answer}
use Rattle.gix_odb_events.specs.declared.answer.Answer.TheVariants as told
use Rattle.gix_odb_search.specs.declared.goal.Error.{Error}
use Rattle.gix_odb_search.specs.declared.goal.Error.TheVariants as errors
use Rattle.gix_odb_search.specs.declared.goal.Found.{Found}
use Rattle.gix_odb_search.specs.declared.goal.Found.TheVariants as found
use Rattle.gix_odb_search.specs.declared.goal.Goal.{Goal}
use Rattle.gix_object.specs.declared.want.Want.{Want}
use Rattle.gix_object.specs.declared.want.Want.TheVariants as wanted
use Rattle.gix_odb_search.specs.declared.index_loader.LoadStep.{LoadStep}
use Rattle.gix_odb_search.specs.declared.index_loader.LoadStep.TheVariants as steps
use Rattle.gix_odb_search.specs.declared.search.AbsentFile.{AbsentFile}
use Rattle.gix_odb_search.specs.declared.search.Sought.{Sought}
use Rattle.gix_odb_search.specs.declared.search.Sought.TheVariants as searches
use Rattle.gix_odb_search.specs.declared.search.WantedPack.{WantedPack}
use Rattle.gix_odb_search.specs.declared.spot.Spot.{Spot}
use Rattle.gix_odb_search.specs.declared.trier.Ahead.{Ahead}
use Rattle.gix_odb_search.specs.declared.trier.Stage.{Stage}
use Rattle.gix_odb_search.specs.declared.trier.Stage.TheVariants as stages
use Rattle.gix_odb_search.specs.declared.trier.Tried.{Tried}
use Rattle.gix_odb_search.specs.declared.trier.Tried.TheVariants as ends
use Rattle.gix_odb_search.specs.declared.trier.Trier.{Trier}
use Rattle.gix_odb_search.specs.declared.search.Notes.{Notes}
use Rattle.gix_odb_events.specs.declared.event.PassWhy.{PassWhy}
use Rattle.gix_odb_events.specs.declared.answer.Ask.TheVariants as asks
use Rattle.gix_odb_events.specs.declared.event.Event.{Event}
use Rattle.gix_odb_search.proofs.LoadLaws as loads

-- ---- what a pack gives

-- what was found is what is wanted
abbrev pub Fits : Want → Found → Type 0
Fits wanted.Object (found.Object kind bytes) = Unit {0}
Fits wanted.Header (found.Header kind size) = Unit {0}
Fits wanted.Presence found.Presence = Unit {0}
Fits wanted found = ⊥

abbrev IsGiven : Want → Result Found Error → Type 0
IsGiven wanted (Ok found) = Fits wanted found
IsGiven wanted (Err error) = Unit {0}

object_given : (result : Result Entry pack.Error) → IsGiven wanted.Object (object_in result)
object_given (Ok entry) = tt
object_given (Err error) = tt

header_given : (result : Result pack_header.Header pack.Error) → IsGiven wanted.Header (header_in result)
header_given (Ok header) = tt
header_given (Err error) = tt

given_fits : (wanted : Want) (limit : Option ℕ) (file : FileBytes) (offset : ℕ) → IsGiven wanted (given_by wanted limit file offset)
given_fits wanted.Object limit file offset = object_given (entry_at file.kind file.bytes offset limit)
given_fits wanted.Header limit file offset = header_given (header_at file.kind file.bytes offset)
given_fits wanted.Presence limit file offset = tt

-- ---- a search

abbrev IsSought : Want → Sought → Type 0
IsSought wanted searches.Nowhere = Unit {0}
IsSought wanted (searches.Finds found) = Fits wanted found
IsSought wanted (searches.Fails error) = Unit {0}
IsSought wanted (searches.Wants pack) = Unit {0}

given_or_not-sought : (wanted : Want) (result : Result Found Error) → IsGiven wanted result → IsSought wanted (given_or_not result)
given_or_not-sought wanted (Ok found) fits = fits
given_or_not-sought wanted (Err error) fits = tt

first_of-sought : (wanted : Want) (search further : Sought) → IsSought wanted search → IsSought wanted further → IsSought wanted (first_of search further)
first_of-sought wanted searches.Nowhere further fits next = next
first_of-sought wanted (searches.Finds found) further fits next = fits
first_of-sought wanted (searches.Fails error) further fits next = tt
first_of-sought wanted (searches.Wants pack) further fits next = tt

module _ (goal : Goal) (absent : List AbsentFile) where
  module _ (index : SnapshotIndex) (spot : Spot) where
    in_file-sought : (path : Path) (file : Option FileBytes) → IsSought goal.want (in_file goal absent index spot path file)
    in_file-sought path (Some file) =
        given_or_not-sought goal.want (given_by goal.want goal.limit file spot.offset) (given_fits goal.want goal.limit file spot.offset)
    in_file-sought path None = by (was_absent absent index.slot path)
      where
        pack : WantedPack
        pack = record { slot = index.slot; place = place_in index.index spot; path = path; offset = spot.offset }

        by : (b : Bool) → IsSought goal.want (if b then searches.Nowhere else searches.Wants pack)
        by true = tt
        by false = tt

    in_packs-sought : (pack : Option PackFile) → IsSought goal.want (in_packs goal absent index spot pack)
    in_packs-sought None = tt
    in_packs-sought (Some pack) = in_file-sought pack.path (loaded pack.state)

  at_spot-sought : (wanted : Want) → goal.want ≡ wanted → (index : SnapshotIndex) (spot : Option Spot)
      → IsSought goal.want (at_spot wanted goal absent index spot)
  at_spot-sought wanted.Object is index None = tt
  at_spot-sought wanted.Header is index None = tt
  at_spot-sought wanted.Presence is index None = tt
  at_spot-sought wanted.Object is index (Some spot) = in_packs-sought index spot (slice_get index.packs spot.place)
  at_spot-sought wanted.Header is index (Some spot) = in_packs-sought index spot (slice_get index.packs spot.place)
  at_spot-sought wanted.Presence is index (Some spot) = subst (λ (w : Want). Fits w found.Presence) (sym is) tt

  tried-sought : (index : SnapshotIndex) → IsSought goal.want (tried goal absent index)
  tried-sought index = at_spot-sought goal.want refl index (spot_in index.index goal.id)

  search-sought : (indices : List SnapshotIndex) → IsSought goal.want (search goal absent indices)
  search-sought [] = tt
  search-sought (index ∷ rest) = first_of-sought goal.want (tried goal absent index) (search goal absent rest) (tried-sought index) (search-sought rest)

-- ---- a trier

-- an index is passed over for a failure only where a read failed
abbrev pub Passes : (Failed : Type 0) → Stage → Type 0
Passes Failed (stages.Loading loader) = loads.Passes Failed loader
Passes Failed stage = Unit {0}

pub failed-passes : (Failed : Type 0) → Failed → (stage : Stage) → Passes Failed stage
failed-passes Failed failed (stages.Loading loader) = loads.failed-passes Failed failed loader
failed-passes Failed failed (stages.ReadingPack pack) = tt
failed-passes Failed failed (stages.StoringPack pack file) = tt
failed-passes Failed failed (stages.PassingPack pack) = tt

pub passes-further : (Failed Further : Type 0) → (Failed → Further) → (stage : Stage) → Passes Failed stage → Passes Further stage
passes-further Failed Further on (stages.Loading loader) passes = loads.passes-further Failed Further on loader passes
passes-further Failed Further on (stages.ReadingPack pack) passes = tt
passes-further Failed Further on (stages.StoringPack pack file) passes = tt
passes-further Failed Further on (stages.PassingPack pack) passes = tt

module _ (goal : Goal) (Failed : Type 0) (Refuses : Refusal → Type 0) where
  -- what is noted failed
  abbrev Noted : Notes → Type 0
  Noted notes = notes.failed ≡ true → Failed

  -- How trying ends: it goes on for its goal, finds what is wanted, or ends. A failure that is noted is one, as is a refusal.
  abbrev pub Comes : Tried → Type 0
  Comes (ends.More trier) = (trier.goal ≡ goal) × Noted trier.ahead.notes × Passes Failed trier.stage
  Comes (ends.Hit found) = Fits goal.want found
  Comes (ends.Missed notes) = Noted notes
  Comes (ends.Bad error) = Unit {0}
  Comes (ends.Broken refusal) = Refuses refusal

  given-comes : (result : Result Found Error) → IsGiven goal.want result → Comes (by_given result)
  given-comes (Ok found) fits = fits
  given-comes (Err error) fits = tt

  at_todo-comes : (ahead : Ahead) → Noted ahead.notes → (todo : List Todo) → Comes (at_todo goal ahead todo)
  at_todo-comes ahead noted [] = noted
  at_todo-comes ahead noted (todo ∷ rest) = (refl, noted, tt)

  at_search-comes : (ahead : Ahead) → Noted ahead.notes → (sought : Sought) → IsSought goal.want sought → Comes (at_search goal ahead sought)
  at_search-comes ahead noted searches.Nowhere fits = at_todo-comes ahead noted ahead.todo
  at_search-comes ahead noted (searches.Finds found) fits = fits
  at_search-comes ahead noted (searches.Fails error) fits = tt
  at_search-comes ahead noted (searches.Wants pack) fits = (refl, noted, tt)

  pub seek-comes : (ahead : Ahead) → Noted ahead.notes → Comes (seek goal ahead)
  seek-comes ahead noted =
      at_search-comes (record ahead { indices = rest_behind goal ahead.notes.absent ahead.indices }) noted (search goal ahead.notes.absent ahead.indices)
      (search-sought goal ahead.notes.absent ahead.indices)

  module _ (ahead : Ahead) (noted : Noted ahead.notes) where
    -- an index that was passed over
    missed-noted : (why : PassWhy) → (is_failed why ≡ true → Failed) → Noted (noting ahead.notes why)
    missed-noted why passes is =
        elim (or_cases ahead.notes.failed (is_failed why) is) [
          | inl before ↦ noted before
          | inr now ↦ passes now
        ]

    after_load-comes : (step : LoadStep) → loads.Comes Failed Refuses step → Comes (after_load goal ahead step)
    after_load-comes (steps.More loader) passes = (refl, noted, passes)
    after_load-comes (steps.Loaded index) loaded =
        at_search-comes ahead noted (tried goal ahead.notes.absent index) (tried-sought goal ahead.notes.absent index)
    after_load-comes (steps.Missed why) passes = seek-comes (record ahead { notes = noting ahead.notes why }) (missed-noted why passes)
    after_load-comes (steps.Broken refusal) refuses = refuses

    pack_read-comes : (pack : WantedPack) (answer : DiskAnswer) → Comes (pack_read goal ahead pack answer)
    pack_read-comes pack (answers.File bytes time) = by (is_pack (kind_of goal.id) bytes)
      where
        stored : Tried
        stored = at goal ahead (stages.StoringPack pack (record { kind = kind_of goal.id; bytes = bytes }))

        by : (b : Bool) → Comes (if b then stored else ends.Bad errors.LoadPack)
        by true = (refl, noted, tt)
        by false = tt
    pack_read-comes pack (answers.Refused disk_errors.Absent) = (refl, noted, tt)
    pack_read-comes pack answer = tt

    by_answer-comes : (stage : Stage) (answer : Answer) → Passes Failed stage → (answer ≡ told.Disk (answers.Refused disk_errors.Failed) → Failed)
        → ((event : Event) (refusal : Refusal) → ask_at stage ≡ asks.Core event → answer ≡ told.Core (Err refusal) → Refuses refusal)
        → Comes (by_answer goal ahead stage answer)
    by_answer-comes (stages.Loading loader) answer passes fails refuses =
        after_load-comes (load.fed (kind_of goal.id) loader answer)
        (loads.fed-comes Failed Refuses (kind_of goal.id) loader answer passes fails refuses)
    by_answer-comes (stages.ReadingPack pack) (told.Disk answer) passes fails refuses = pack_read-comes pack answer
    by_answer-comes (stages.ReadingPack pack) (told.Core answer) passes fails refuses = (refl, noted, tt)
    by_answer-comes (stages.StoringPack pack file) (told.Core (Ok effect)) passes fails refuses =
        given-comes (given_by goal.want goal.limit (unwrap_or (pack_behind pack effect) file) pack.offset)
        (given_fits goal.want goal.limit (unwrap_or (pack_behind pack effect) file) pack.offset)
    by_answer-comes (stages.PassingPack pack) (told.Core (Ok effect)) passes fails refuses =
        seek-comes (record ahead { notes = with_absent ahead.notes pack.slot pack.path }) noted
    by_answer-comes (stages.StoringPack pack file) (told.Core (Err refusal)) passes fails refuses = refuses _ refusal refl refl
    by_answer-comes (stages.PassingPack pack) (told.Core (Err refusal)) passes fails refuses = refuses _ refusal refl refl
    by_answer-comes (stages.StoringPack pack file) (told.Disk answer) passes fails refuses = (refl, noted, tt)
    by_answer-comes (stages.PassingPack pack) (told.Disk answer) passes fails refuses = (refl, noted, tt)

-- an answer to a trier: a failure that it notes was noted before, or is the answer, as is a refusal that ends it
pub fed-comes : (Failed : Type 0) (Refuses : Refusal → Type 0) (trier : Trier) (answer : Answer) → (trier.ahead.notes.failed ≡ true → Failed)
    → Passes Failed trier.stage
    → (answer ≡ told.Disk (answers.Refused disk_errors.Failed) → Failed)
    → ((event : Event) (refusal : Refusal) → ask_of trier ≡ asks.Core event → answer ≡ told.Core (Err refusal) → Refuses refusal)
    → Comes trier.goal Failed Refuses (fed trier answer)
fed-comes Failed Refuses trier answer noted passes fails refuses =
    by_answer-comes trier.goal Failed Refuses trier.ahead noted trier.stage answer passes fails refuses

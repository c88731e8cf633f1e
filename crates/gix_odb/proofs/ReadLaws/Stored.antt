-- While the indices of a list are tried, what is to be stored or passed over was read in the turn before.
use Rattle.std.proofs.Common.{◌≡◌, ℕ, Bool, true, false, cond, List, [], ◌∷◌, unwrap_or, Result, Ok, Err, refl, sym, subst}
use Rattle.odb_base.specs.Path.{Path}
use Rattle.odb_disk.specs.declared.ask.DiskAnswer.{DiskAnswer}
use Rattle.odb_disk.specs.declared.ask.DiskAnswer.TheVariants as answers
use Rattle.odb_disk.specs.declared.ask.DiskAsk.TheVariants as disk_asks
use Rattle.odb_disk.specs.declared.disk_error.DiskError.TheVariants as disk_errors
use Rattle.gix_hash.specs.ObjectId.{kind_of}
use Rattle.gix_hash.specs.declared.kind.Kind.{Kind}
use Rattle.gix_pack_read.specs.Index.{is_index}
use Rattle.gix_pack_read.specs.Pack.{is_pack}
use Rattle.gix_odb_events.specs.declared.event.PassWhy.TheVariants as whys
use Rattle.gix_odb_events.specs.declared.loaded.SnapshotIndex.{SnapshotIndex}
use Rattle.gix_odb_events.specs.declared.loaded.Todo.{Todo}
use Rattle.gix_odb_search.specs.Goal.{given_by}
use Rattle.gix_odb_search.specs.Search.{rest_behind, tried, with_absent}
use Rattle.gix_odb_search.specs.LoadOrder as load
use Rattle.gix_odb_search.specs.TryOrder.{after_load, ask_at, at, at_search, at_todo, by_answer, by_given, noting, pack_behind, pack_read, seek}
use Rattle.gix_odb_events.specs.declared.answer.Answer.{Answer}
use Rattle.gix_odb_events.specs.declared.answer.Answer.TheVariants as told
use Rattle.gix_odb_events.specs.declared.answer.Ask.TheVariants as asks
use Rattle.gix_odb_search.specs.declared.goal.Error.{Error}
use Rattle.gix_odb_search.specs.declared.goal.Error.TheVariants as errors
use Rattle.gix_odb_search.specs.declared.goal.Found.{Found}
use Rattle.gix_odb_search.specs.declared.goal.Goal.{Goal}
use Rattle.gix_odb_search.specs.declared.index_loader.IndexLoader.{IndexLoader}
use Rattle.gix_odb_search.specs.declared.index_loader.IndexLoader.TheVariants.{Reading, Storing, Passing}
use Rattle.gix_odb_search.specs.declared.index_loader.IndexPlace.{IndexPlace}
use Rattle.gix_odb_search.specs.declared.index_loader.LoadStep.{LoadStep}
use Rattle.gix_odb_search.specs.declared.index_loader.LoadStep.TheVariants as steps
use Rattle.gix_odb_search.specs.declared.search.AbsentFile.{AbsentFile}
use Rattle.gix_odb_search.specs.declared.search.WantedPack.{WantedPack}
use Rattle.gix_odb_search.specs.declared.trier.Ahead.{Ahead}
use Rattle.gix_odb_search.specs.declared.trier.Stage.{Stage}
use Rattle.gix_odb_search.specs.declared.trier.Stage.TheVariants as stages
use Rattle.gix_odb_search.specs.declared.trier.Tried.{Tried}
use Rattle.gix_odb_search.specs.declared.trier.Tried.TheVariants as ends
use Rattle.gix_odb_search.specs.declared.trier.Trier.{Trier}
use Rattle.gix_odb.specs.LookUpOrder.{Setting}
use Rattle.gix_odb.specs.True.{IsTrue}
use Rattle.gix_odb.specs.JustRead.{IsWhy}
use Rattle.gix_odb.proofs.AnySearch.{any_search, any_try}
use Rattle.gix_odb.proofs.TrierAtHand.{OfTried}

-- Here `Read path answer` says that the path was read in the turn before, with this answer.
module _ (Read : Path → DiskAnswer → Type 0) (hash : Kind) where
  abbrev pub IsReadBy : IndexLoader → Type 0
  IsReadBy (Storing place file) = (time : ℕ) × Read place.path (answers.File file.bytes time)
  IsReadBy (Passing place why) = (answer : DiskAnswer) × Read place.path answer × IsWhy hash answer why
  IsReadBy (Reading place) = Unit {0}

  abbrev pub IsReadAt : Stage → Type 0
  IsReadAt (stages.Loading loader) = IsReadBy loader
  IsReadAt (stages.StoringPack pack file) = (time : ℕ) × Read pack.path (answers.File file.bytes time)
  IsReadAt (stages.PassingPack pack) = Read pack.path (answers.Refused disk_errors.Absent)
  IsReadAt stage = Unit {0}

  abbrev pub IsRead : Trier → Type 0
  IsRead trier = IsReadAt trier.stage

  abbrev Goes : Tried → Type 0
  Goes end = OfTried IsRead end

  -- ---- the search goes on

  todo_goes : (goal : Goal) (ahead : Ahead) (todo : List Todo) → Goes (at_todo goal ahead todo)
  todo_goes goal ahead [] = tt
  todo_goes goal ahead (todo ∷ rest) = tt

  -- what the search in one index leads to
  try_goes : (goal : Goal) (ahead : Ahead) (absent : List AbsentFile) (index : SnapshotIndex) → Goes (at_search goal ahead (tried goal absent index))
  try_goes goal ahead absent index =
      any_try Goes goal ahead (todo_goes goal ahead ahead.todo) (λ found. tt) (λ error. tt) (λ pack. tt) absent index

  pub seek_goes : (goal : Goal) (ahead : Ahead) → Goes (seek goal ahead)
  seek_goes goal ahead =
      let left : Ahead = record ahead { indices = rest_behind goal ahead.notes.absent ahead.indices } in
      any_search Goes goal left (todo_goes goal left ahead.todo) (λ found. tt) (λ error. tt) (λ pack. tt) ahead.notes.absent ahead.indices

  given_goes : (given : Result Found Error) → Goes (by_given given)
  given_goes (Ok found) = tt
  given_goes (Err error) = tt

  -- ---- an index that is loaded

  abbrev LoadGoes : LoadStep → Type 0
  LoadGoes (steps.More loader) = IsReadBy loader
  LoadGoes step = Unit {0}

  module _ (Shown : Path → ℕ → List ℕ → Type 0) (setting : Setting) where
    abbrev Truth : Path → DiskAnswer → Type 0
    Truth path answer = IsTrue Shown setting hash (load.read_of path) (told.Disk answer)

    index_parsed : (place : IndexPlace) (bytes : List ℕ) (time : ℕ) → Read place.path (answers.File bytes time) → (b : Bool) → is_index hash bytes ≡ b
        → IsReadBy (cond b (Storing place (record { kind = hash; bytes = bytes })) (Passing place whys.Bad))
    index_parsed place bytes time just true is = (time, just)
    index_parsed place bytes time just false is = (answers.File bytes time, just, is)

    index_goes : (place : IndexPlace) (answer : DiskAnswer) → Truth place.path answer → Read place.path answer → IsReadBy (load.index_read hash place answer)
    index_goes place (answers.File bytes time) truth just = index_parsed place bytes time just (is_index hash bytes) refl
    index_goes place (answers.Refused disk_errors.Absent) truth just = (answers.Refused disk_errors.Absent, just, tt)
    index_goes place (answers.Refused disk_errors.WrongKind) truth just = (answers.Refused disk_errors.WrongKind, just, tt)
    index_goes place (answers.Refused disk_errors.LinkLoop) truth just = (answers.Refused disk_errors.LinkLoop, just, tt)
    index_goes place (answers.Refused disk_errors.Failed) truth just = (answers.Refused disk_errors.Failed, just, tt)
    index_goes place (answers.Refused disk_errors.Exists) truth just = absurd truth.0
    index_goes place (answers.Refused disk_errors.NotEmpty) truth just = absurd truth.0
    index_goes place (answers.Refused disk_errors.NoMemory) truth just = absurd truth.0
    index_goes place (answers.Meta meta) truth just = absurd truth.0
    index_goes place (answers.Dir dir) truth just = absurd truth.0
    index_goes place (answers.Entry entry) truth just = absurd truth.0
    index_goes place answers.End truth just = absurd truth.0
    index_goes place answers.Done truth just = absurd truth.0

    load_goes : (loader : IndexLoader) (answer : Answer) → IsTrue Shown setting hash (load.ask_of loader) answer
        → ((path : Path) (own : DiskAnswer) → load.ask_of loader ≡ asks.Disk (disk_asks.Read path) → answer ≡ told.Disk own → Read path own)
        → LoadGoes (load.fed hash loader answer)
    load_goes (Reading place) (told.Disk answer) truth just = index_goes place answer truth (just place.path answer refl refl)
    load_goes (Reading place) (told.Core answer) truth just = tt
    load_goes (Storing place file) (told.Core (Ok effect)) truth just = tt
    load_goes (Passing place why) (told.Core (Ok effect)) truth just = tt
    load_goes (Storing place file) (told.Core (Err refusal)) truth just = tt
    load_goes (Passing place why) (told.Core (Err refusal)) truth just = tt
    load_goes (Storing place file) (told.Disk answer) truth just = absurd truth
    load_goes (Passing place why) (told.Disk answer) truth just = absurd truth

  module _ (goal : Goal) (of_hash : kind_of goal.id ≡ hash) (ahead : Ahead) where
    after_load_goes : (step : LoadStep) → LoadGoes step → Goes (after_load goal ahead step)
    after_load_goes (steps.More loader) here = here
    after_load_goes (steps.Loaded index) here = try_goes goal ahead ahead.notes.absent index
    after_load_goes (steps.Missed why) here = seek_goes goal (record ahead { notes = noting ahead.notes why })
    after_load_goes (steps.Broken refusal) here = tt

    -- ---- a pack that is read

    pack_parsed : (pack : WantedPack) (bytes : List ℕ) (time : ℕ) → Read pack.path (answers.File bytes time) → (b : Bool)
        → Goes (cond b (at goal ahead (stages.StoringPack pack (record { kind = kind_of goal.id; bytes = bytes }))) (ends.Bad errors.LoadPack))
    pack_parsed pack bytes time just true = (time, just)
    pack_parsed pack bytes time just false = tt

    pack_goes : (pack : WantedPack) (answer : DiskAnswer) → Read pack.path answer → Goes (pack_read goal ahead pack answer)
    pack_goes pack (answers.File bytes time) just = pack_parsed pack bytes time just (is_pack (kind_of goal.id) bytes)
    pack_goes pack (answers.Refused disk_errors.Absent) just = just
    pack_goes pack answer just = tt

    -- ---- an answer

    module _ (Shown : Path → ℕ → List ℕ → Type 0) (setting : Setting) where
      pub answer_goes : (stage : Stage) (answer : Answer) → IsTrue Shown setting hash (ask_at stage) answer
          → ((path : Path) (own : DiskAnswer) → ask_at stage ≡ asks.Disk (disk_asks.Read path) → answer ≡ told.Disk own → Read path own)
          → Goes (by_answer goal ahead stage answer)
      answer_goes (stages.Loading loader) answer truth just =
          after_load_goes (load.fed (kind_of goal.id) loader answer)
          (subst (λ (kind : Kind). LoadGoes (load.fed kind loader answer)) (sym of_hash) (load_goes Shown setting loader answer truth just))
      answer_goes (stages.ReadingPack pack) (told.Disk answer) truth just = pack_goes pack answer (just pack.path answer refl refl)
      answer_goes (stages.StoringPack pack file) (told.Core (Ok effect)) truth just =
          given_goes (given_by goal.want goal.limit (unwrap_or (pack_behind pack effect) file) pack.offset)
      answer_goes (stages.PassingPack pack) (told.Core (Ok effect)) truth just =
          seek_goes goal (record ahead { notes = with_absent ahead.notes pack.slot pack.path })
      answer_goes (stages.StoringPack pack file) (told.Core (Err refusal)) truth just = tt
      answer_goes (stages.PassingPack pack) (told.Core (Err refusal)) truth just = tt
      answer_goes (stages.ReadingPack pack) (told.Core answer) truth just = absurd truth
      answer_goes (stages.StoringPack pack file) (told.Disk answer) truth just = absurd truth
      answer_goes (stages.PassingPack pack) (told.Disk answer) truth just = absurd truth

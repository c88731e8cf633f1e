-- While indices are tried, each call of the disk that fails ends the try or is noted, after the core's answer where an index was read; and
-- what was noted stays noted.
use Rattle.std.proofs.Common.{◌≡◌, ◌⊎◌, inl, inr, ℕ, ◌||◌, Bool, true, false, cond, List, [], ◌∷◌, unwrap_or, Result, Ok, Err, refl}
use Rattle.odb_disk.specs.declared.ask.DiskAnswer.{DiskAnswer}
use Rattle.odb_disk.specs.declared.ask.DiskAnswer.TheVariants as disk_answers
use Rattle.odb_disk.specs.declared.disk_error.DiskError.TheVariants as disk_errors
use Rattle.gix_hash.specs.ObjectId.{kind_of}
use Rattle.gix_pack_read.specs.Pack.{is_pack}
use Rattle.gix_odb_events.specs.declared.loaded.Todo.{Todo}
use Rattle.gix_odb_events.specs.declared.event.PassWhy.{PassWhy}
use Rattle.gix_odb_search.specs.Goal.{given_by}
use Rattle.gix_odb_search.specs.LoadOrder as load
use Rattle.gix_odb_search.specs.Search.{rest_behind, search, tried as try_index, with_absent}
use Rattle.gix_odb_search.specs.TryOrder.{after_load, ask_at, at, at_search, at_todo, by_answer, by_given, is_failed, noting, pack_behind, pack_read, seek}
use Rattle.gix_odb_events.specs.declared.answer.Answer.{Answer}
use Rattle.gix_odb_events.specs.declared.answer.Answer.TheVariants as told
use Rattle.gix_odb_events.specs.declared.answer.Ask.{Ask}
use Rattle.gix_odb_events.specs.declared.answer.Ask.TheVariants as asks
use Rattle.gix_odb_search.specs.declared.goal.Error.{Error}
use Rattle.gix_odb_search.specs.declared.goal.Error.TheVariants as errors
use Rattle.gix_odb_search.specs.declared.goal.Found.{Found}
use Rattle.gix_odb_search.specs.declared.goal.Goal.{Goal}
use Rattle.gix_odb_search.specs.declared.index_loader.IndexLoader.TheVariants.{Reading, Storing, Passing}
use Rattle.gix_odb_search.specs.declared.index_loader.IndexPlace.{IndexPlace}
use Rattle.gix_odb_search.specs.declared.index_loader.LoadStep.{LoadStep}
use Rattle.gix_odb_search.specs.declared.index_loader.LoadStep.TheVariants as steps
use Rattle.gix_odb_search.specs.declared.search.Notes.{Notes}
use Rattle.gix_odb_search.specs.declared.search.Sought.{Sought}
use Rattle.gix_odb_search.specs.declared.search.Sought.TheVariants.{Nowhere, Finds, Fails, Wants}
use Rattle.gix_odb_search.specs.declared.search.WantedPack.{WantedPack}
use Rattle.gix_odb_search.specs.declared.trier.Ahead.{Ahead}
use Rattle.gix_odb_search.specs.declared.trier.Stage.{Stage}
use Rattle.gix_odb_search.specs.declared.trier.Stage.TheVariants as try_stages
use Rattle.gix_odb_search.specs.declared.trier.Tried.{Tried}
use Rattle.gix_odb_search.specs.declared.trier.Tried.TheVariants as tried
use Rattle.gix_odb_search.specs.declared.trier.Trier.{Trier}

-- ---- tries

-- a failure was noted
abbrev pub IsNoted : Notes → Type 0
IsNoted notes = notes.failed ≡ true

-- a failed read of an index is noted next, once the core has passed the index over
abbrev pub IsNext : Stage → Type 0
IsNext (try_stages.Loading (Passing place why)) = is_failed why ≡ true
IsNext stage = ⊥

abbrev pub IsNotedBy : Trier → Type 0
IsNotedBy trier = IsNoted trier.ahead.notes ⊎ IsNext trier.stage

-- a try that goes on has noted it or does so next, and one that misses has noted it
abbrev pub NotedIn : Tried → Type 0
NotedIn (tried.More trier) = IsNotedBy trier
NotedIn (tried.Hit what) = Unit {0}
NotedIn (tried.Missed notes) = IsNoted notes
NotedIn (tried.Bad error) = Unit {0}
NotedIn (tried.Broken refusal) = Unit {0}

or_later : (a b : Bool) → b ≡ true → (a || b) ≡ true
or_later true b is = refl
or_later false b is = is

or_first : (a b : Bool) → a ≡ true → (a || b) ≡ true
or_first true b is = refl
or_first false b is = absurd (cc is)

module _ (goal : Goal) where
  noted_todo : (ahead : Ahead) → IsNoted ahead.notes → (todo : List Todo) → NotedIn (at_todo goal ahead todo)
  noted_todo ahead noted [] = noted
  noted_todo ahead noted (todo ∷ rest) = inl noted

  noted_search : (ahead : Ahead) → IsNoted ahead.notes → (found : Sought) → NotedIn (at_search goal ahead found)
  noted_search ahead noted Nowhere = noted_todo ahead noted ahead.todo
  noted_search ahead noted (Finds what) = tt
  noted_search ahead noted (Fails error) = tt
  noted_search ahead noted (Wants pack) = inl noted

  pub noted_seek : (ahead : Ahead) → IsNoted ahead.notes → NotedIn (seek goal ahead)
  noted_seek ahead noted =
      noted_search (record ahead { indices = rest_behind goal ahead.notes.absent ahead.indices }) noted (search goal ahead.notes.absent ahead.indices)

  noted_given : (given : Result Found Error) → NotedIn (by_given given)
  noted_given (Ok what) = tt
  noted_given (Err error) = tt

  noted_load : (ahead : Ahead) → IsNoted ahead.notes → (step : LoadStep) → NotedIn (after_load goal ahead step)
  noted_load ahead noted (steps.More loader) = inl noted
  noted_load ahead noted (steps.Loaded index) = noted_search ahead noted (try_index goal ahead.notes.absent index)
  noted_load ahead noted (steps.Missed why) =
      noted_seek (record ahead { notes = noting ahead.notes why }) (or_first ahead.notes.failed (is_failed why) noted)
  noted_load ahead noted (steps.Broken refusal) = tt

  noted_bytes : (ahead : Ahead) → IsNoted ahead.notes → (pack : WantedPack) (bytes : List ℕ) (b : Bool)
      → NotedIn (cond b (at goal ahead (try_stages.StoringPack pack (record { kind = kind_of goal.id; bytes = bytes }))) (tried.Bad errors.LoadPack))
  noted_bytes ahead noted pack bytes true = inl noted
  noted_bytes ahead noted pack bytes false = tt

  noted_pack : (ahead : Ahead) → IsNoted ahead.notes → (pack : WantedPack) (answer : DiskAnswer) → NotedIn (pack_read goal ahead pack answer)
  noted_pack ahead noted pack (disk_answers.File bytes time) = noted_bytes ahead noted pack bytes (is_pack (kind_of goal.id) bytes)
  noted_pack ahead noted pack (disk_answers.Refused disk_errors.Absent) = inl noted
  noted_pack ahead noted pack answer = tt

  noted_before : (ahead : Ahead) → IsNoted ahead.notes → (stage : Stage) (answer : Answer) → NotedIn (by_answer goal ahead stage answer)
  noted_before ahead noted (try_stages.Loading loader) answer = noted_load ahead noted (load.fed (kind_of goal.id) loader answer)
  noted_before ahead noted (try_stages.ReadingPack pack) (told.Disk answer) = noted_pack ahead noted pack answer
  noted_before ahead noted (try_stages.ReadingPack pack) (told.Core answer) = inl noted
  noted_before ahead noted (try_stages.StoringPack pack file) (told.Core (Ok effect)) =
      noted_given (given_by goal.want goal.limit (unwrap_or (pack_behind pack effect) file) pack.offset)
  noted_before ahead noted (try_stages.PassingPack pack) (told.Core (Ok effect)) =
      noted_seek (record ahead { notes = with_absent ahead.notes pack.slot pack.path }) noted
  noted_before ahead noted (try_stages.StoringPack pack file) (told.Core (Err refusal)) = tt
  noted_before ahead noted (try_stages.PassingPack pack) (told.Core (Err refusal)) = tt
  noted_before ahead noted (try_stages.StoringPack pack file) (told.Disk answer) = inl noted
  noted_before ahead noted (try_stages.PassingPack pack) (told.Disk answer) = inl noted

  noted_next : (ahead : Ahead) (place : IndexPlace) (why : PassWhy) → is_failed why ≡ true → (answer : Answer)
      → NotedIn (by_answer goal ahead (try_stages.Loading (Passing place why)) answer)
  noted_next ahead place why next (told.Disk answer) = inr next
  noted_next ahead place why next (told.Core (Ok effect)) =
      noted_seek (record ahead { notes = noting ahead.notes why }) (or_later ahead.notes.failed (is_failed why) next)
  noted_next ahead place why next (told.Core (Err refusal)) = tt

  pub noted_answer : (ahead : Ahead) (stage : Stage) → IsNoted ahead.notes ⊎ IsNext stage → (answer : Answer) → NotedIn (by_answer goal ahead stage answer)
  noted_answer ahead stage (inl noted) answer = noted_before ahead noted stage answer
  noted_answer ahead (try_stages.Loading (Passing place why)) (inr next) answer = noted_next ahead place why next answer
  noted_answer ahead (try_stages.Loading (Reading place)) (inr next) answer = absurd next
  noted_answer ahead (try_stages.Loading (Storing place file)) (inr next) answer = absurd next
  noted_answer ahead (try_stages.ReadingPack pack) (inr next) answer = absurd next
  noted_answer ahead (try_stages.StoringPack pack file) (inr next) answer = absurd next
  noted_answer ahead (try_stages.PassingPack pack) (inr next) answer = absurd next

abbrev pub IsDisk : Ask → Type 0
IsDisk (asks.Disk ask) = Unit {0}
IsDisk ask = ⊥

abbrev pub failed : Answer
failed = told.Disk (disk_answers.Refused disk_errors.Failed)

module _ (goal : Goal) where
  pub failed_trier : (ahead : Ahead) (stage : Stage) → IsDisk (ask_at stage) → NotedIn (by_answer goal ahead stage failed)
  failed_trier ahead (try_stages.Loading (Reading place)) disk = inr refl
  failed_trier ahead (try_stages.Loading (Storing place file)) disk = absurd disk
  failed_trier ahead (try_stages.Loading (Passing place why)) disk = absurd disk
  failed_trier ahead (try_stages.ReadingPack pack) disk = tt
  failed_trier ahead (try_stages.StoringPack pack file) disk = absurd disk
  failed_trier ahead (try_stages.PassingPack pack) disk = absurd disk

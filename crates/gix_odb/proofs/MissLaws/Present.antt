-- While an object stays unchanged in a pack, this pack is never noted as absent, whatever is sought in the indices that are tried.
use Rattle.std.proofs.Common.{◌≡◌, ℕ, Bool, true, false, cond, List, [], ◌∷◌, Option, unwrap_or, Result, Ok, Err}
use Rattle.odb_disk.specs.declared.ask.DiskAnswer.{DiskAnswer}
use Rattle.odb_disk.specs.declared.ask.DiskAnswer.TheVariants as answers
use Rattle.odb_disk.specs.declared.disk_error.DiskError.TheVariants as disk_errors
use Rattle.gix_hash.specs.ObjectId.{kind_of}
use Rattle.gix_hash.specs.declared.kind.Kind.{Kind}
use Rattle.gix_hash.specs.declared.object_id.ObjectId.{ObjectId}
use Rattle.gix_pack_read.specs.Pack.{is_pack}
use Rattle.gix_odb_events.specs.declared.answer.Answer.{Answer}
use Rattle.gix_odb_events.specs.declared.answer.Answer.TheVariants as told
use Rattle.gix_odb_events.specs.declared.loaded.Todo.{Todo}
use Rattle.gix_odb_search.specs.Goal.{given_by}
use Rattle.gix_odb_search.specs.LoadOrder as load
use Rattle.gix_odb_search.specs.Search.{rest_behind, with_absent}
use Rattle.gix_odb_search.specs.TryOrder.{after_load, ask_at, at, at_todo, by_answer, by_given, fed, noting, pack_behind, pack_read, seek}
use Rattle.gix_odb_search.specs.declared.goal.Error.{Error}
use Rattle.gix_odb_search.specs.declared.goal.Error.TheVariants as errors
use Rattle.gix_odb_search.specs.declared.goal.Found.{Found}
use Rattle.gix_odb_search.specs.declared.goal.Goal.{Goal}
use Rattle.gix_odb_search.specs.declared.index_loader.LoadStep.{LoadStep}
use Rattle.gix_odb_search.specs.declared.index_loader.LoadStep.TheVariants as steps
use Rattle.gix_odb_search.specs.declared.multi_pack.MultiUse.{MultiUse}
use Rattle.gix_odb_search.specs.declared.search.Notes.{Notes}
use Rattle.gix_odb_search.specs.declared.search.WantedPack.{WantedPack}
use Rattle.gix_odb_search.specs.declared.trier.Ahead.{Ahead}
use Rattle.gix_odb_search.specs.declared.trier.Stage.{Stage}
use Rattle.gix_odb_search.specs.declared.trier.Stage.TheVariants as stages
use Rattle.gix_odb_search.specs.declared.trier.Tried.{Tried}
use Rattle.gix_odb_search.specs.declared.trier.Tried.TheVariants as ends
use Rattle.gix_odb_search.specs.declared.trier.Trier.{Trier}
use Rattle.gix_odb_search.proofs.ReachLemmas.{IsPresent, present-noted}
use Rattle.gix_odb.proofs.AnySearch.{any_search, any_try}
use Rattle.gix_odb.specs.Fair.{IsFair, PackedPlace, pack_at}
use Rattle.gix_odb.specs.LookExchanges.{Exchange}

module _ (place : PackedPlace) where
  -- the pack was never noted as absent
  abbrev pub IsThere : Notes → Type 0
  IsThere notes = IsPresent (pack_at place) notes.absent

  -- nor is it next
  abbrev PassesOther : Stage → Type 0
  PassesOther (stages.PassingPack wanted) = ¬ (wanted.path ≡ pack_at place)
  PassesOther stage = Unit {0}

  abbrev pub IsUnnoted : Trier → Type 0
  IsUnnoted trier = IsThere trier.ahead.notes × PassesOther trier.stage

  -- a try that goes on, or misses, hasn't noted it
  abbrev pub UnnotedIn : Tried → Type 0
  UnnotedIn (ends.More trier) = IsUnnoted trier
  UnnotedIn (ends.Hit what) = Unit {0}
  UnnotedIn (ends.Missed notes) = IsThere notes
  UnnotedIn (ends.Bad error) = Unit {0}
  UnnotedIn (ends.Broken refusal) = Unit {0}

  module _ (goal : Goal) where
    there_todo : (ahead : Ahead) → IsThere ahead.notes → (todo : List Todo) → UnnotedIn (at_todo goal ahead todo)
    there_todo ahead there [] = there
    there_todo ahead there (todo ∷ rest) = (there, tt)

    pub there_seek : (ahead : Ahead) → IsThere ahead.notes → UnnotedIn (seek goal ahead)
    there_seek ahead there =
        let left : Ahead = record ahead { indices = rest_behind goal ahead.notes.absent ahead.indices } in
        any_search UnnotedIn goal left (there_todo left there left.todo) (λ found. tt) (λ error. tt) (λ pack. (there, tt)) ahead.notes.absent ahead.indices

    there_given : (given : Result Found Error) → UnnotedIn (by_given given)
    there_given (Ok what) = tt
    there_given (Err error) = tt

    there_load : (ahead : Ahead) → IsThere ahead.notes → (step : LoadStep) → UnnotedIn (after_load goal ahead step)
    there_load ahead there (steps.More loader) = (there, tt)
    there_load ahead there (steps.Loaded index) =
        any_try UnnotedIn goal ahead (there_todo ahead there ahead.todo) (λ found. tt) (λ error. tt) (λ pack. (there, tt)) ahead.notes.absent index
    there_load ahead there (steps.Missed why) = there_seek (record ahead { notes = noting ahead.notes why }) there
    there_load ahead there (steps.Broken refusal) = tt

    there_bytes : (ahead : Ahead) → IsThere ahead.notes → (pack : WantedPack) (bytes : List ℕ) (b : Bool)
        → UnnotedIn (cond b (at goal ahead (stages.StoringPack pack (record { kind = kind_of goal.id; bytes = bytes }))) (ends.Bad errors.LoadPack))
    there_bytes ahead there pack bytes true = (there, tt)
    there_bytes ahead there pack bytes false = tt

    module _ (multi : Option MultiUse) (hash : Kind) (id : ObjectId) (past : List Exchange) where
      abbrev FairAt : Stage → Answer → Type 0
      FairAt stage answer = IsFair multi hash id place past (ask_at stage) answer

      there_pack : (ahead : Ahead) → IsThere ahead.notes → (pack : WantedPack) (answer : DiskAnswer) → FairAt (stages.ReadingPack pack) (told.Disk answer)
          → UnnotedIn (pack_read goal ahead pack answer)
      there_pack ahead there pack (answers.File bytes time) fair = there_bytes ahead there pack bytes (is_pack (kind_of goal.id) bytes)
      there_pack ahead there pack (answers.Refused disk_errors.Absent) fair = (there, fair.2)
      there_pack ahead there pack answer fair = tt

      there_answer : (ahead : Ahead) → IsThere ahead.notes → (stage : Stage) → PassesOther stage → (answer : Answer) → FairAt stage answer
          → UnnotedIn (by_answer goal ahead stage answer)
      there_answer ahead there (stages.Loading loader) other answer fair = there_load ahead there (load.fed (kind_of goal.id) loader answer)
      there_answer ahead there (stages.ReadingPack pack) other (told.Disk answer) fair = there_pack ahead there pack answer fair
      there_answer ahead there (stages.ReadingPack pack) other (told.Core answer) fair = absurd fair
      there_answer ahead there (stages.StoringPack pack file) other (told.Disk answer) fair = absurd fair
      there_answer ahead there (stages.StoringPack pack file) other (told.Core (Ok effect)) fair =
          there_given (given_by goal.want goal.limit (unwrap_or (pack_behind pack effect) file) pack.offset)
      there_answer ahead there (stages.StoringPack pack file) other (told.Core (Err refusal)) fair = tt
      there_answer ahead there (stages.PassingPack pack) other (told.Disk answer) fair = absurd fair
      there_answer ahead there (stages.PassingPack pack) other (told.Core (Ok effect)) fair =
          there_seek (record ahead { notes = with_absent ahead.notes pack.slot pack.path })
          (present-noted (pack_at place) ahead.notes pack.slot pack.path other there)
      there_answer ahead there (stages.PassingPack pack) other (told.Core (Err refusal)) fair = tt

  -- a try during which the pack was not noted as absent goes on so
  pub stays_there : (multi : Option MultiUse) (hash : Kind) (id : ObjectId) (past : List Exchange) (trier : Trier) → IsUnnoted trier → (answer : Answer)
      → IsFair multi hash id place past (ask_at trier.stage) answer → UnnotedIn (fed trier answer)
  stays_there multi hash id past trier there answer fair =
      there_answer trier.goal multi hash id past trier.ahead there.0 trier.stage there.1 answer fair

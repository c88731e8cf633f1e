-- A turn of trying the indices of a list takes one of its turns.
use Rattle.std.proofs.Common.{ℕ, ◌+◌, ◌-◌, ◌<◌, ◌≤◌, Bool, true, false, cond, unwrap_or, Result, Ok, Err, arith}
use Rattle.odb_disk.specs.declared.ask.DiskAnswer.{DiskAnswer}
use Rattle.odb_disk.specs.declared.ask.DiskAnswer.TheVariants as disk_answers
use Rattle.odb_disk.specs.declared.disk_error.DiskError.TheVariants as disk_errors
use Rattle.gix_hash.specs.ObjectId.{kind_of}
use Rattle.gix_hash.specs.declared.kind.Kind.{Kind}
use Rattle.gix_pack_read.specs.FileBytes.{FileBytes}
use Rattle.gix_pack_read.specs.Index.{is_index}
use Rattle.gix_pack_read.specs.Pack.{is_pack}
use Rattle.gix_odb_events.specs.declared.event.PassWhy.TheVariants as whys
use Rattle.gix_odb_search.specs.Goal.{given_by}
use Rattle.gix_odb_search.proofs.LoadLaws.{loader_turns, loader_turns-pos}
use Rattle.gix_odb_search.proofs.TryTurnLaws.{TriesFor, ahead_turns, loaded_tries, seek_tries, stage_turns, trier_turns}
use Rattle.gix_odb_search.specs.LoadOrder as load
use Rattle.gix_odb_search.specs.Search.{with_absent}
use Rattle.gix_odb_search.specs.TryOrder.{after_load, ask_at, at, by_answer, by_given, fed, noting, pack_behind, pack_read}
use Rattle.gix_odb_events.specs.declared.answer.Answer.{Answer}
use Rattle.gix_odb_events.specs.declared.answer.Answer.TheVariants as told
use Rattle.gix_odb_search.specs.declared.goal.Error.{Error}
use Rattle.gix_odb_search.specs.declared.goal.Error.TheVariants as errors
use Rattle.gix_odb_search.specs.declared.goal.Found.{Found}
use Rattle.gix_odb_search.specs.declared.goal.Goal.{Goal}
use Rattle.gix_odb_search.specs.declared.index_loader.IndexLoader.{IndexLoader}
use Rattle.gix_odb_search.specs.declared.index_loader.IndexLoader.TheVariants.{Reading, Storing, Passing}
use Rattle.gix_odb_search.specs.declared.index_loader.IndexPlace.{IndexPlace}
use Rattle.gix_odb_search.specs.declared.index_loader.LoadStep.{LoadStep}
use Rattle.gix_odb_search.specs.declared.index_loader.LoadStep.TheVariants as steps
use Rattle.gix_odb_search.specs.declared.search.WantedPack.{WantedPack}
use Rattle.gix_odb_search.specs.declared.trier.Ahead.{Ahead}
use Rattle.gix_odb_search.specs.declared.trier.Stage.{Stage}
use Rattle.gix_odb_search.specs.declared.trier.Stage.TheVariants as stages
use Rattle.gix_odb_search.specs.declared.trier.Tried.TheVariants as ends
use Rattle.gix_odb_search.specs.declared.trier.Trier.{Trier}
use Rattle.gix_odb.specs.LookExchanges.{IsAnswerTo}

-- ---- one turn

-- where loading goes on, it takes at most so many turns
abbrev LoadsFor : (turns : ℕ) → LoadStep → Type 0
LoadsFor turns (steps.More loader) = loader_turns loader ≤ turns
LoadsFor turns step = Unit {0}

bytes_load : (turns : ℕ) (place : IndexPlace) (file : FileBytes) (parsed : Bool) → 1 ≤ turns
    → LoadsFor turns (steps.More (cond parsed (Storing place file) (Passing place whys.Bad)))
bytes_load turns place file true room = room
bytes_load turns place file false room = room

read_loads : (turns : ℕ) (hash : Kind) (place : IndexPlace) (answer : DiskAnswer) → 1 ≤ turns → LoadsFor turns (steps.More (load.index_read hash place answer))
read_loads turns hash place (disk_answers.File bytes time) room =
    bytes_load turns place (record { kind = hash; bytes = bytes }) (is_index hash bytes) room
read_loads turns hash place answer room = room

-- a turn of loading takes one of its turns
fed_loads : (turns : ℕ) (hash : Kind) (loader : IndexLoader) (answer : Answer) → IsAnswerTo (load.ask_of loader) answer → loader_turns loader ≤ turns + 1
    → LoadsFor turns (load.fed hash loader answer)
fed_loads turns hash (Reading place) (told.Disk answer) suits room = read_loads turns hash place answer (omega arith)
fed_loads turns hash (Reading place) (told.Core answer) suits room = absurd suits
fed_loads turns hash (Storing place file) (told.Core (Ok effect)) suits room = tt
fed_loads turns hash (Passing place why) (told.Core (Ok effect)) suits room = tt
fed_loads turns hash (Storing place file) (told.Core (Err refusal)) suits room = tt
fed_loads turns hash (Passing place why) (told.Core (Err refusal)) suits room = tt
fed_loads turns hash (Storing place file) (told.Disk answer) suits room = absurd suits
fed_loads turns hash (Passing place why) (told.Disk answer) suits room = absurd suits

load_tries : (turns left : ℕ) (goal : Goal) (ahead : Ahead) (step : LoadStep) → LoadsFor left step → 2 + left + ahead_turns ahead ≤ turns
    → TriesFor turns (after_load goal ahead step)
load_tries turns left goal ahead (steps.More loader) fewer room = omega arith
load_tries turns left goal ahead (steps.Loaded index) fewer room = loaded_tries turns goal ahead index (omega arith)
load_tries turns left goal ahead (steps.Missed why) fewer room = seek_tries turns goal (record ahead { notes = noting ahead.notes why }) (omega arith)
load_tries turns left goal ahead (steps.Broken refusal) fewer room = tt

given_tries : (turns : ℕ) (given : Result Found Error) → TriesFor turns (by_given given)
given_tries turns (Ok found) = tt
given_tries turns (Err error) = tt

pack_bytes_try : (turns : ℕ) (goal : Goal) (ahead : Ahead) (pack : WantedPack) (file : FileBytes) (parsed : Bool) → 1 + ahead_turns ahead ≤ turns
    → TriesFor turns (cond parsed (at goal ahead (stages.StoringPack pack file)) (ends.Bad errors.LoadPack))
pack_bytes_try turns goal ahead pack file true room = room
pack_bytes_try turns goal ahead pack file false room = tt

pack_tries : (turns : ℕ) (goal : Goal) (ahead : Ahead) (pack : WantedPack) (answer : DiskAnswer) → 1 + ahead_turns ahead ≤ turns
    → TriesFor turns (pack_read goal ahead pack answer)
pack_tries turns goal ahead pack (disk_answers.File bytes time) room =
    pack_bytes_try turns goal ahead pack (record { kind = kind_of goal.id; bytes = bytes }) (is_pack (kind_of goal.id) bytes) room
pack_tries turns goal ahead pack (disk_answers.Refused disk_errors.Absent) room = room
pack_tries turns goal ahead pack answer room = tt

-- the loading goes on with a turn less, or has come to its end
loading_tries : (turns : ℕ) (goal : Goal) (ahead : Ahead) (loader : IndexLoader) (answer : Answer) → IsAnswerTo (load.ask_of loader) answer
    → 0 < loader_turns loader → 2 + loader_turns loader + ahead_turns ahead ≤ turns + 1
    → TriesFor turns (by_answer goal ahead (stages.Loading loader) answer)
loading_tries turns goal ahead loader answer suits some room =
    load_tries turns (loader_turns loader - 1) goal ahead (load.fed (kind_of goal.id) loader answer)
    (fed_loads (loader_turns loader - 1) (kind_of goal.id) loader answer suits (omega arith)) (omega arith)

fed_at_tries : (turns : ℕ) (goal : Goal) (ahead : Ahead) (stage : Stage) (answer : Answer) → IsAnswerTo (ask_at stage) answer
    → stage_turns stage + ahead_turns ahead ≤ turns + 1
    → TriesFor turns (by_answer goal ahead stage answer)
fed_at_tries turns goal ahead (stages.Loading loader) answer suits room =
    loading_tries turns goal ahead loader answer suits (loader_turns-pos loader) room
fed_at_tries turns goal ahead (stages.ReadingPack pack) (told.Disk answer) suits room = pack_tries turns goal ahead pack answer (omega arith)
fed_at_tries turns goal ahead (stages.ReadingPack pack) (told.Core answer) suits room = absurd suits
fed_at_tries turns goal ahead (stages.StoringPack pack file) (told.Disk answer) suits room = absurd suits
fed_at_tries turns goal ahead (stages.StoringPack pack file) (told.Core (Ok effect)) suits room =
    given_tries turns (given_by goal.want goal.limit (unwrap_or (pack_behind pack effect) file) pack.offset)
fed_at_tries turns goal ahead (stages.StoringPack pack file) (told.Core (Err refusal)) suits room = tt
fed_at_tries turns goal ahead (stages.PassingPack pack) (told.Disk answer) suits room = absurd suits
fed_at_tries turns goal ahead (stages.PassingPack pack) (told.Core (Ok effect)) suits room =
    seek_tries turns goal (record ahead { notes = with_absent ahead.notes pack.slot pack.path }) (omega arith)
fed_at_tries turns goal ahead (stages.PassingPack pack) (told.Core (Err refusal)) suits room = tt

-- a turn of trying takes one of its turns
pub fed_tries : (turns : ℕ) (trier : Trier) (answer : Answer) → IsAnswerTo (ask_at trier.stage) answer → trier_turns trier ≤ turns + 1
    → TriesFor turns (fed trier answer)
fed_tries turns trier answer suits room = fed_at_tries turns trier.goal trier.ahead trier.stage answer suits room

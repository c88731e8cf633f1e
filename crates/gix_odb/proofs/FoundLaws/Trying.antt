-- While the indices of a list are tried, what is known of them is kept by each answer.
use Rattle.std.proofs.Common.{◌≡◌, ℕ, Bool, true, false, cond, List, [], ◌∷◌, All, unwrap_or, Some, Result, Ok, Err}
use Rattle.std.proofs.Common.{refl, sym, subst, inl, inr}
use Rattle.std.proofs.lemmas.List.Elements.{All-head, All-tail}
use Rattle.odb_base.specs.Path.{Path}
use Rattle.odb_disk.specs.declared.disk_error.DiskError.TheVariants as disk_errors
use Rattle.odb_disk.specs.declared.ask.DiskAnswer.{DiskAnswer}
use Rattle.odb_disk.specs.declared.ask.DiskAnswer.TheVariants as answers
use Rattle.gix_hash.specs.ObjectId.{kind_of}
use Rattle.gix_hash.specs.declared.kind.Kind.{Kind}
use Rattle.gix_hash.specs.declared.object_id.ObjectId.{ObjectId}
use Rattle.gix_pack_read.specs.FileBytes.{FileBytes}
use Rattle.gix_pack_read.specs.Pack.{is_pack}
use Rattle.gix_odb_events.specs.declared.loaded.Todo.{Todo}
use Rattle.gix_odb_events.specs.Answers.{view_in}
use Rattle.gix_odb_events.specs.declared.event.Effect.{Effect}
use Rattle.gix_odb_events.specs.declared.view.View.{View}
use Rattle.gix_odb_search.specs.Goal.{given_by}
use Rattle.gix_odb_search.specs.Search.{rest_behind, search, tried, with_absent}
use Rattle.gix_odb_search.specs.LoadOrder as load
use Rattle.gix_odb_search.specs.LoadOrder.{place_of, read_of}
use Rattle.gix_odb_search.specs.TryOrder.{after_load, ask_at, at, at_todo, by_answer, by_given, noting, pack_behind, pack_read, seek}
use Rattle.gix_odb_events.specs.declared.answer.Answer.{Answer}
use Rattle.gix_odb_events.specs.declared.answer.Answer.TheVariants as told
use Rattle.gix_odb_search.specs.declared.goal.Error as goals
use Rattle.gix_odb_search.specs.declared.goal.Error.TheVariants as pack_errors
use Rattle.gix_odb_search.specs.declared.goal.Found.{Found}
use Rattle.gix_odb_search.specs.declared.goal.Goal.{Goal}
use Rattle.gix_odb_search.specs.declared.index_loader.IndexLoader.TheVariants as loaders
use Rattle.gix_odb_search.specs.declared.index_loader.LoadStep.{LoadStep}
use Rattle.gix_odb_search.specs.declared.index_loader.LoadStep.TheVariants as load_steps
use Rattle.gix_odb_search.specs.declared.search.WantedPack.{WantedPack}
use Rattle.gix_odb_search.specs.declared.trier.Ahead.{Ahead}
use Rattle.gix_odb_search.specs.declared.trier.Stage.{Stage}
use Rattle.gix_odb_search.specs.declared.trier.Stage.TheVariants as stages
use Rattle.gix_odb_search.specs.declared.trier.Tried.{Tried}
use Rattle.gix_odb_search.specs.declared.trier.Tried.TheVariants as ends
use Rattle.gix_odb_search.proofs.SeekLaws.{all_rest_behind, search_comes, search_ends}
use Rattle.gix_object.specs.declared.want.Want.{Want}
use Rattle.gix_odb.specs.Caused.{IsNoPack, IsUnloaded}
use Rattle.gix_odb.specs.LookExchanges.{Exchange, WasTold}
use Rattle.gix_odb.specs.LookUpOrder.{Setting}
use Rattle.gix_odb.specs.Shown.{IsPackShownAt, IsIndexShown, IsShownView, ShowedBytes}
use Rattle.gix_odb.specs.True.{IsTrue}
use Rattle.gix_odb.proofs.FoundLaws.Known.{IsCausedHere, IsFoundHere, IsIndexTodo, IsWanted, KnowsAhead, KnowsGiven, KnowsLoadStep, KnowsStage, KnowsTried, goal_for}
use Rattle.gix_odb.proofs.FoundLaws.Indices.{given_known, tried_known}
use Rattle.gix_odb.proofs.FoundLaws.Loading.{load_known}
use Rattle.gix_odb.proofs.FoundLaws.Views.{pack_loaded, views_shown}

module _ (Shown : Path → ℕ → List ℕ → Type 0) (setting : Setting) (hash : Kind) (id : ObjectId) (exchanges : List Exchange)
    (want : Want) where
  abbrev goal : Goal
  goal = goal_for setting want id

  abbrev Knows : Tried → Type 0
  Knows tried = KnowsTried Shown setting hash id exchanges want tried

  abbrev IsLeft : Ahead → Type 0
  IsLeft ahead = KnowsAhead Shown setting hash id ahead

  abbrev Stands : Stage → Type 0
  Stands stage = KnowsStage Shown setting hash id stage

  -- ---- the search goes on

  at_known : (ahead : Ahead) (stage : Stage) → IsLeft ahead → Stands stage → Knows (at goal ahead stage)
  at_known ahead stage known here = record { goal = refl; ahead = known; stage = here }

  todo_known : (ahead : Ahead) (todo : List Todo) → All (IsIndexShown Shown setting hash) ahead.indices → All (IsIndexTodo setting) todo
      → Knows (at_todo goal ahead todo)
  todo_known ahead [] indices paths = tt
  todo_known ahead (todo ∷ rest) indices paths =
      at_known (record ahead { todo = rest }) (stages.Loading (loaders.Reading (place_of todo)))
      (record { indices = indices; todo = All-tail (IsIndexTodo setting) todo rest paths }) (All-head (IsIndexTodo setting) todo rest paths)

  abbrev Hits : Found → Type 0
  Hits found = IsFoundHere Shown setting hash id exchanges want found

  abbrev Bads : goals.Error → Type 0
  Bads error = IsCausedHere Shown setting hash id exchanges want error

  abbrev Wanted : WantedPack → Type 0
  Wanted pack = IsWanted Shown setting hash id pack

  pub seek_known : (ahead : Ahead) → IsLeft ahead → Knows (seek goal ahead)
  seek_known ahead known =
      let absent = ahead.notes.absent in
      let indices = rest_behind goal absent ahead.indices in
      let left : IsLeft (record ahead { indices = indices }) =
      record { indices = all_rest_behind goal absent (IsIndexShown Shown setting hash) ahead.indices known.indices; todo = known.todo } in
      let on : Ahead = record ahead { indices = indices } in
      search_ends Hits Bads Wanted Knows goal on (search goal absent ahead.indices)
      (search_comes Hits Bads Wanted goal absent (IsIndexShown Shown setting hash) (tried_known Shown setting hash id exchanges want absent)
      ahead.indices known.indices)
      (todo_known on ahead.todo left.indices known.todo) (λ found hit. hit) (λ error bad. bad)
      (λ pack wanted. at_known on (stages.ReadingPack pack) left wanted)

  -- ---- an index

  module _ (same : kind_of id ≡ hash) (ahead : Ahead) (known : IsLeft ahead) where
    load_ends : (step : LoadStep) → KnowsLoadStep Shown setting hash step → Knows (after_load goal ahead step)
    load_ends (load_steps.More loader) here = at_known ahead (stages.Loading loader) known here
    load_ends (load_steps.Loaded index) here =
        search_ends Hits Bads Wanted Knows goal ahead (tried goal ahead.notes.absent index)
        (tried_known Shown setting hash id exchanges want ahead.notes.absent index here)
        (todo_known ahead ahead.todo known.indices known.todo) (λ found hit. hit) (λ error bad. bad)
        (λ pack wanted. at_known ahead (stages.ReadingPack pack) known wanted)
    load_ends (load_steps.Missed why) here =
        seek_known (record ahead { notes = noting ahead.notes why }) (record { indices = known.indices; todo = known.todo })
    load_ends (load_steps.Broken refusal) here = tt

    -- ---- a pack

    unloaded : (pack : WantedPack) (answer : DiskAnswer) → IsWanted Shown setting hash id pack → WasTold exchanges (read_of pack.path) (told.Disk answer)
        → IsNoPack hash answer
        → IsUnloaded Shown setting hash id exchanges
    unloaded pack answer wanted asked none =
        record { path = pack.path; offset = pack.offset; index = wanted; answer = answer; told = asked; none = none }

    pack_tested : (pack : WantedPack) (bytes : List ℕ) (time : ℕ) → IsWanted Shown setting hash id pack → ShowedBytes Shown pack.path bytes
        → WasTold exchanges (read_of pack.path) (told.Disk (answers.File bytes time))
        → (parsed : Bool)
        → is_pack (kind_of id) bytes ≡ parsed
        → Knows (cond parsed (at goal ahead (stages.StoringPack pack (record { kind = kind_of id; bytes = bytes }))) (ends.Bad pack_errors.LoadPack))
    pack_tested pack bytes time wanted shown asked true is =
        at_known ahead (stages.StoringPack pack (record { kind = kind_of id; bytes = bytes })) known
        (wanted, record { kind = same; parsed = subst (λ (kind : Kind). is_pack kind bytes ≡ true) same is; shown = shown })
    pack_tested pack bytes time wanted shown asked false is =
        unloaded pack (answers.File bytes time) wanted asked (subst (λ (kind : Kind). is_pack kind bytes ≡ false) same is)

    pack_read_known : (pack : WantedPack) (answer : DiskAnswer) → IsWanted Shown setting hash id pack
        → IsTrue Shown setting hash (read_of pack.path) (told.Disk answer)
        → WasTold exchanges (read_of pack.path) (told.Disk answer)
        → Knows (pack_read goal ahead pack answer)
    pack_read_known pack (answers.File bytes time) wanted truth asked =
        pack_tested pack bytes time wanted (time, truth.1) asked (is_pack (kind_of id) bytes) refl
    pack_read_known pack (answers.Refused disk_errors.Absent) wanted truth asked = at_known ahead (stages.PassingPack pack) known tt
    pack_read_known pack (answers.Refused disk_errors.WrongKind) wanted truth asked =
        unloaded pack (answers.Refused disk_errors.WrongKind) wanted asked (inr (inl refl))
    pack_read_known pack (answers.Refused disk_errors.LinkLoop) wanted truth asked =
        unloaded pack (answers.Refused disk_errors.LinkLoop) wanted asked (inr (inr refl))
    pack_read_known pack (answers.Refused disk_errors.Failed) wanted truth asked = unloaded pack (answers.Refused disk_errors.Failed) wanted asked (inl refl)
    pack_read_known pack answer wanted truth asked = absurd truth.0

    given_ends : (given : Result Found goals.Error) → KnowsGiven Shown setting hash id exchanges want given → Knows (by_given given)
    given_ends (Ok found) here = here
    given_ends (Err error) here = here

    pack_stored_known : (pack : WantedPack) (file : FileBytes) (effect : Effect) → IsWanted Shown setting hash id pack
        → IsPackShownAt Shown setting hash pack.path file
        → ((view : View) → view_in (Ok effect) ≡ Some view → IsShownView Shown setting hash view)
        → Knows (by_given (given_by want setting.parts.alloc_limit_bytes (unwrap_or (pack_behind pack effect) file) pack.offset))
    pack_stored_known pack file effect wanted read views =
        let own : FileBytes = unwrap_or (pack_behind pack effect) file in
        let own_read : IsPackShownAt Shown setting hash pack.path own = pack_loaded Shown setting hash pack file read (view_in (Ok effect)) views in
        given_ends (given_by want setting.parts.alloc_limit_bytes own pack.offset)
        (given_known Shown setting hash id exchanges pack.path pack.offset wanted own own_read want)

    -- ---- an answer

    pub answer_known : (stage : Stage) (answer : Answer) → Stands stage → IsTrue Shown setting hash (ask_at stage) answer
        → WasTold exchanges (ask_at stage) answer
        → Knows (by_answer goal ahead stage answer)
    answer_known (stages.Loading loader) answer here truth asked =
        load_ends (load.fed (kind_of id) loader answer)
        (subst (λ (kind : Kind). KnowsLoadStep Shown setting hash (load.fed kind loader answer)) (sym same)
        (load_known Shown setting hash loader answer here truth))
    answer_known (stages.ReadingPack pack) (told.Disk answer) here truth asked = pack_read_known pack answer here truth asked
    answer_known (stages.ReadingPack pack) (told.Core answer) here truth asked = at_known ahead (stages.ReadingPack pack) known here
    answer_known (stages.StoringPack pack file) (told.Core (Ok effect)) here truth asked =
        pack_stored_known pack file effect here.0 here.1 (views_shown Shown setting hash (ask_at (stages.StoringPack pack file)) (Ok effect) truth)
    answer_known (stages.PassingPack pack) (told.Core (Ok effect)) here truth asked =
        seek_known (record ahead { notes = with_absent ahead.notes pack.slot pack.path }) (record { indices = known.indices; todo = known.todo })
    answer_known (stages.StoringPack pack file) (told.Core (Err refusal)) here truth asked = tt
    answer_known (stages.PassingPack pack) (told.Core (Err refusal)) here truth asked = tt
    answer_known (stages.StoringPack pack file) (told.Disk answer) here truth asked = at_known ahead (stages.StoringPack pack file) known here
    answer_known (stages.PassingPack pack) (told.Disk answer) here truth asked = at_known ahead (stages.PassingPack pack) known here

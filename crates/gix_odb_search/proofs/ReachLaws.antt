-- An index that gives an id an offset in a pack, among indices that are tried: no try ends with a miss while that index is pending or loading.
use Rattle.std.proofs.Common.{◌≡◌, ◌⊎◌, inl, inr, List, [], ◌∷◌, Contains, Option, Some, None, Ok, refl, sym, subst}
use Rattle.std.specs.List.{All, find}
use Rattle.std.proofs.lemmas.Bool.{and_parts}
use Rattle.odb_base.specs.Path.{Path}
use Rattle.gix_hash.specs.declared.kind.Kind.{Kind}
use Rattle.gix_hash.specs.declared.object_id.ObjectId.{ObjectId}
use Rattle.gix_pack_read.specs.FileBytes.{FileBytes}
use Rattle.gix_odb_events.specs.PackFiles.{same_path}
use Rattle.gix_odb_events.proofs.SamePathLaws.{same_path-true}
use Rattle.gix_odb_events.specs.declared.loaded.SnapshotIndex.{SnapshotIndex}
use Rattle.gix_odb_events.specs.declared.loaded.Todo.{Todo}
use Rattle.gix_odb_events.specs.Answers.{view_in}
use Rattle.gix_odb_events.specs.declared.event.Effect.{Effect}
use Rattle.gix_odb_events.specs.declared.view.View.{View}
use Rattle.gix_odb_search.specs.Search.{first_of, left_by, rest_behind, search, tried, with_absent}
use Rattle.gix_odb_search.specs.LoadOrder.{index_stored, is_at, or_else, own_index, shown_in, shown_or_own}
use Rattle.gix_odb_search.specs.TryOrder.{after_load, at_search, at_todo, noting, seek}
use Rattle.gix_odb_search.specs.declared.goal.Goal.{Goal}
use Rattle.gix_odb_search.specs.declared.index_loader.IndexLoader.{IndexLoader}
use Rattle.gix_odb_search.specs.declared.index_loader.IndexLoader.TheVariants.{Reading, Storing, Passing}
use Rattle.gix_odb_search.specs.declared.index_loader.IndexPlace.{IndexPlace}
use Rattle.gix_odb_search.specs.declared.index_loader.LoadStep.{LoadStep}
use Rattle.gix_odb_search.specs.declared.index_loader.LoadStep.TheVariants as steps
use Rattle.gix_odb_search.specs.declared.search.Sought.{Sought}
use Rattle.gix_odb_search.specs.declared.search.Sought.TheVariants.{Nowhere, Finds, Fails, Wants}
use Rattle.gix_odb_search.specs.declared.search.WantedPack.{WantedPack}
use Rattle.gix_odb_search.specs.declared.trier.Ahead.{Ahead}
use Rattle.gix_odb_search.specs.declared.trier.Stage.{Stage}
use Rattle.gix_odb_search.specs.declared.trier.Stage.TheVariants as stages
use Rattle.gix_odb_search.specs.declared.trier.Tried.{Tried}
use Rattle.gix_odb_search.specs.declared.trier.Tried.TheVariants as ends
use Rattle.gix_odb_search.specs.declared.trier.Trier.{Trier}
use Rattle.gix_odb_search.proofs.ReachLemmas.{IsPresent, Leads, Reaches, first_or_later, found_is, none_in, present-noted, reaches-index}

-- Here `IsTarget path` says that an index at this path, where it is loaded, gives the id an offset in the pack.
module _ (hash : Kind) (id : ObjectId) (pack : Path) (IsTarget : Path → Type 0) where
  -- an index gives the id an offset in the pack, if its path is a target
  abbrev pub LeadsIfThere : SnapshotIndex → Type 0
  LeadsIfThere index = IsTarget index.path → Leads pack hash id index

  -- ---- what is pending

  abbrev pub HasIndex : List SnapshotIndex → Type 0
  HasIndex indices = (index : SnapshotIndex) × Contains indices index × Leads pack hash id index

  abbrev pub HasTodo : List Todo → Type 0
  HasTodo todo = (item : Todo) × Contains todo item × IsTarget item.path

  -- an index that leads to the pack is among those that are loaded, or one at a target is still to be loaded
  abbrev pub IsAhead : List SnapshotIndex → List Todo → Type 0
  IsAhead indices todo = HasIndex indices ⊎ HasTodo todo

  -- its pack was never noted as absent
  abbrev pub IsSearchable : Ahead → Type 0
  IsSearchable ahead = IsPresent pack ahead.notes.absent

  -- the index is being loaded
  abbrev pub IsAtHand : IndexLoader → Type 0
  IsAtHand (Reading at) = IsTarget at.path
  IsAtHand (Storing at file) = IsTarget at.path × Leads pack hash id (own_index at file)
  IsAtHand (Passing at why) = ⊥

  -- a step of loading after which the index is loaded, or still being so
  abbrev pub IsKept : LoadStep → Type 0
  IsKept (steps.More loader) = IsAtHand loader
  IsKept (steps.Loaded index) = Leads pack hash id index
  IsKept (steps.Missed why) = ⊥
  IsKept (steps.Broken refusal) = Unit {0}

  -- the index is loading or pending, or its pack is being read
  abbrev pub IsOnWay : Ahead → Stage → Type 0
  IsOnWay ahead (stages.Loading loader) = IsAtHand loader ⊎ HasTodo ahead.todo
  IsOnWay ahead (stages.ReadingPack wanted) = (wanted.path ≡ pack) ⊎ IsAhead ahead.indices ahead.todo
  IsOnWay ahead (stages.StoringPack wanted file) = Unit {0}
  IsOnWay ahead (stages.PassingPack wanted) = (¬ (wanted.path ≡ pack)) × IsAhead ahead.indices ahead.todo

  pub record IsTracked (trier : Trier) : Type 0 where
    pub of_id : trier.goal.id ≡ id
    pub searchable : IsSearchable trier.ahead
    pub way : IsOnWay trier.ahead trier.stage

  -- the result of a try that is no miss
  abbrev pub IsNoMiss : Tried → Type 0
  IsNoMiss (ends.More trier) = IsTracked trier
  IsNoMiss (ends.Hit what) = Unit {0}
  IsNoMiss (ends.Missed notes) = ⊥
  IsNoMiss (ends.Bad error) = Unit {0}
  IsNoMiss (ends.Broken refusal) = Unit {0}

  -- ---- an index that was stored

  module _ (at : IndexPlace) where
    abbrev AllLead : Option SnapshotIndex → Type 0
    AllLead shown = (index : SnapshotIndex) → shown ≡ Some index → Leads pack hash id index

    shown_leads : IsTarget at.path → (indices : List SnapshotIndex) → All LeadsIfThere indices → AllLead (find (is_at at) indices)
    shown_leads is indices lead index found =
        let has = found_is LeadsIfThere (is_at at) indices lead index found in
        has.0 (subst IsTarget (sym (same_path-true index.path at.path (and_parts _ (same_path index.path at.path) has.1).1)) is)

    either_leads : (file : FileBytes) → Leads pack hash id (own_index at file) → (one other : Option SnapshotIndex) → AllLead one
        → AllLead other → Leads pack hash id (shown_or_own at file (or_else one other))
    either_leads file leads (Some index) other lead more = lead index refl
    either_leads file leads None (Some index) lead more = more index refl
    either_leads file leads None None lead more = leads

    -- what is shown of the index is as sound as what was read
    view_leads : (file : FileBytes) → IsTarget at.path → Leads pack hash id (own_index at file) → (view : Option View)
        → ((shown : View) → view ≡ Some shown → All LeadsIfThere shown.snapshot.indices × All LeadsIfThere shown.snapshot.kept)
        → Leads pack hash id (shown_or_own at file (shown_in at view))
    view_leads file is leads None sound = leads
    view_leads file is leads (Some view) sound =
        let shown = sound view refl in
        either_leads file leads (find (is_at at) view.snapshot.indices) (find (is_at at) view.snapshot.kept)
        (shown_leads is view.snapshot.indices shown.0) (shown_leads is view.snapshot.kept shown.1)

    pub stored_leads : (file : FileBytes) (effect : Effect) → IsAtHand (Storing at file)
        → ((shown : View) → view_in (Ok effect) ≡ Some shown → All LeadsIfThere shown.snapshot.indices × All LeadsIfThere shown.snapshot.kept)
        → Leads pack hash id (index_stored at file effect)
    stored_leads file effect here sound = view_leads file here.0 here.1 (view_in (Ok effect)) sound

  -- ---- the search goes on

  first_or_ahead : (index : SnapshotIndex) (rest : List SnapshotIndex) (todo : List Todo) → IsAhead (index ∷ rest) todo
      → (Leads pack hash id index) ⊎ IsAhead rest todo
  first_or_ahead index rest todo (inr has) = inr (inr has)
  first_or_ahead index rest todo (inl (other, among, leads)) =
      elim (first_or_later index rest other among) [
        | inl is ↦ inl (subst (Leads pack hash id) (sym is) leads)
        | inr more ↦ inr (inl (other, more, leads))
      ]

  first_or_todo : (todo : Todo) (rest : List Todo) → HasTodo (todo ∷ rest) → IsTarget todo.path ⊎ HasTodo rest
  first_or_todo todo rest (other, among, at) =
      elim (first_or_later todo rest other among) [
        | inl is ↦ inl (subst (λ (i : Todo). IsTarget i.path) (sym is) at)
        | inr more ↦ inr (other, more, at)
      ]

  module _ (goal : Goal) (own : goal.id ≡ id) where
    todo_goes : (ahead : Ahead) → IsSearchable ahead → (todo : List Todo) → HasTodo todo → IsNoMiss (at_todo goal ahead todo)
    todo_goes ahead able [] has = absurd (none_in has.0 has.1)
    todo_goes ahead able (todo ∷ rest) has =
        record { of_id = own; searchable = able; way = first_or_todo todo rest has }

    -- after a search that reached the pack, or found nothing while the index is still to be loaded
    search_goes : (ahead : Ahead) → IsSearchable ahead → (search : Sought) → Reaches pack search ⊎ HasTodo ahead.todo
        → IsNoMiss (at_search goal ahead search)
    search_goes ahead able Nowhere (inl reaches) = absurd reaches
    search_goes ahead able Nowhere (inr has) = todo_goes ahead able ahead.todo has
    search_goes ahead able (Finds what) way = tt
    search_goes ahead able (Fails error) way = tt
    search_goes ahead able (Wants wanted) (inl is) = record { of_id = own; searchable = able; way = inl is }
    search_goes ahead able (Wants wanted) (inr has) = record { of_id = own; searchable = able; way = inr (inr has) }

    -- an index that leads to the pack ends the search
    reached : (ahead : Ahead) (index : SnapshotIndex) → IsSearchable ahead → Leads pack hash id index
        → Reaches pack (tried goal ahead.notes.absent index)
    reached ahead index able leads =
        reaches-index pack goal ahead.notes.absent able index hash
        (subst (λ (i : ObjectId). Leads pack hash i index) (sym own) leads)

    abbrev seeks : Ahead → List SnapshotIndex → Tried
    seeks ahead indices =
        at_search goal (record ahead { indices = rest_behind goal ahead.notes.absent indices }) (search goal ahead.notes.absent indices)

    abbrev seeks_by : Ahead → Sought → List SnapshotIndex → Tried
    seeks_by ahead found rest =
        at_search goal (record ahead { indices = left_by found rest (rest_behind goal ahead.notes.absent rest) })
        (first_of found (search goal ahead.notes.absent rest))

    -- what the search in the first index leads to
    first_goes : (ahead : Ahead) (index : SnapshotIndex) (rest : List SnapshotIndex) → IsSearchable ahead → IsAhead (index ∷ rest) ahead.todo
        → (IsAhead rest ahead.todo → IsNoMiss (seeks ahead rest))
        → (found : Sought) → tried goal ahead.notes.absent index ≡ found → IsNoMiss (seeks_by ahead found rest)
    first_goes ahead index rest able has more Nowhere is =
        elim (first_or_ahead index rest ahead.todo has) [
          | inl leads ↦ absurd (subst (Reaches pack) is (reached ahead index able leads))
          | inr later ↦ more later
        ]
    first_goes ahead index rest able has more (Finds what) is = tt
    first_goes ahead index rest able has more (Fails error) is = tt
    first_goes ahead index rest able has more (Wants wanted) is =
        record {
          of_id = own;
          searchable = able;
          way =
              elim (first_or_ahead index rest ahead.todo has) [
                | inl leads ↦ inl (subst (Reaches pack) is (reached ahead index able leads))
                | inr later ↦ inr later
              ];
        }

    indices_go : (ahead : Ahead) → IsSearchable ahead → (indices : List SnapshotIndex) → IsAhead indices ahead.todo → IsNoMiss (seeks ahead indices)
    indices_go ahead able [] (inl has) = absurd (none_in has.0 has.1)
    indices_go ahead able [] (inr has) = todo_goes (record ahead { indices = [] }) able ahead.todo has
    indices_go ahead able (index ∷ rest) has =
        first_goes ahead index rest able has (indices_go ahead able rest) (tried goal ahead.notes.absent index) refl

    pub seek_goes : (ahead : Ahead) → IsSearchable ahead → IsAhead ahead.indices ahead.todo → IsNoMiss (seek goal ahead)
    seek_goes ahead able has = indices_go ahead able ahead.indices has

    -- ---- an index that is loaded

    loaded_goes : (ahead : Ahead) → IsSearchable ahead → (index : SnapshotIndex) → Leads pack hash id index
        → IsNoMiss (at_search goal ahead (tried goal ahead.notes.absent index))
    loaded_goes ahead able index leads = search_goes ahead able (tried goal ahead.notes.absent index) (inl (reached ahead index able leads))

    pub load_goes : (ahead : Ahead) → IsSearchable ahead → (step : LoadStep) → IsKept step ⊎ HasTodo ahead.todo → IsNoMiss (after_load goal ahead step)
    load_goes ahead able (steps.More loader) way = record { of_id = own; searchable = able; way = way }
    load_goes ahead able (steps.Loaded index) (inl leads) = loaded_goes ahead able index leads
    load_goes ahead able (steps.Loaded index) (inr has) = search_goes ahead able (tried goal ahead.notes.absent index) (inr has)
    load_goes ahead able (steps.Missed why) (inl kept) = absurd kept
    load_goes ahead able (steps.Missed why) (inr has) =
        seek_goes (record ahead { notes = noting ahead.notes why }) able (inr has)
    load_goes ahead able (steps.Broken refusal) way = tt

    -- ---- a pack that was absent

    pub passed_goes : (ahead : Ahead) → IsSearchable ahead → (wanted : WantedPack) → IsOnWay ahead (stages.PassingPack wanted)
        → IsNoMiss (seek goal (record ahead { notes = with_absent ahead.notes wanted.slot wanted.path }))
    passed_goes ahead able wanted way =
        seek_goes (record ahead { notes = with_absent ahead.notes wanted.slot wanted.path })
        (present-noted pack ahead.notes wanted.slot wanted.path way.0 able) way.1

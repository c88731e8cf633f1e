-- What a handle of the code has and is at, how it represents a store, and how its opening begins.
use Rattle.std.specs.Prelude.{◌≡◌, ℕ, Bool, true, false, List, Option, Some, None, unwrap_or}
use Rattle.odb_base.specs.Path.{Path}
use Rattle.gix_hash.specs.declared.kind.Kind.{Kind as HashKind}
use Rattle.gix_hash.specs.declared.object_id.ObjectId.{ObjectId}
use Rattle.gix_odb.specs.Contents.{sought}
use Rattle.gix_odb.specs.HandleState.{unseen}
use Rattle.gix_odb.specs.OpenOrder.{started}
use Rattle.gix_odb.specs.declared.handle_state.HandleState.{HandleState}
use Rattle.gix_odb.specs.declared.open_state.OpenState.{OpenState}
use Rattle.gix_odb.specs.declared.refresh_mode.RefreshMode.{RefreshMode}
use Rattle.gix_odb.specs.declared.refresh_mode.RefreshMode.TheVariants.{AfterAllIndicesLoaded}
use Rattle.gix_odb_calls.specs.StoreParts.{parts_of_store}
use Rattle.gix_odb_calls.specs.declared.init.Options.{Options}
use Rattle.gix_odb_calls.specs.declared.query.Query.{Query}
use Rattle.gix_odb_calls.specs.declared.store_parts.StoreParts.{StoreParts}
use Rattle.gix_odb_events.specs.declared.view.View.{View}
use Rattle.gix_odb.specs.LookUpOrder.{Setting}
use Rattle.gix_odb_world.specs.Status.{Store, Modes}
use Rattle.gix_odb_world.specs.Valid.{is_openable}
use Rattle.gix_odb_world.specs.Work.{Work, Opening, Calling}
use Rattle.gix_odb_world.specs.declared.handle.Handle.{Handle}
use Rattle.gix_odb_world.specs.declared.handle.HandleAt.{HandleAt}
use Rattle.gix_odb_world.specs.declared.handle.HandleAt.TheVariants as stands

-- ---- what a handle of the code has, and what it is at

-- What a handle has, whatever it is at: the parts of its store, its modes, the number of the core of its store, and its snapshot. While its
-- store is opening the number is 0, and there is no snapshot.
pub record HandleParts : Type 0 where
  pub info : StoreParts
  pub refresh : RefreshMode
  pub ignoring : Bool
  pub max_changes : ℕ
  pub core : ℕ
  pub view : Option View

-- a handle as proofs see it: what it has, and the work that it is at, if it is at any
pub record Seen : Type 0 where
  pub state : HandleParts
  pub work : Option Work

abbrev pub opening_parts : (core : ℕ) → OpenState → HandleParts
opening_parts core opening =
    record { info = opening.info.value; refresh = AfterAllIndicesLoaded; ignoring = false; max_changes = opening.max_changes; core = core; view = None }

abbrev pub parts_of : (core : ℕ) → HandleState → HandleParts
parts_of core state = record {
  info = state.info.value;
  refresh = state.refresh;
  ignoring = state.ignore_replacements;
  max_changes = state.max_changes;
  core = core;
  view = Some state.view;
}

abbrev pub seen_at : (core : ℕ) → HandleAt → Seen
seen_at core (stands.Opening opening) = record { state = opening_parts core opening; work = Some (Opening opening.stage) }
seen_at core (stands.Resting state) = record { state = parts_of core state; work = None }
seen_at core (stands.Calling call) = record { state = parts_of core call.handle; work = Some (Calling call.stage) }

abbrev pub seen : Handle → Seen
seen handle = seen_at handle.core handle.at

-- ---- what a look-up and a query take from it

-- the store as a handle sees it
abbrev pub setting_at : HandleParts → Setting
setting_at handle = record { parts = handle.info; most = handle.max_changes }

-- what a handle sees: its snapshot, if it has one
abbrev pub view_at : HandleParts → View
view_at handle = unwrap_or handle.view unseen

-- the id that a query seeks
abbrev pub sought_by : HandleParts → Query → ObjectId
sought_by handle query = sought handle.info handle.ignoring query

-- ---- a store

-- an opening begins: the conditions hold, it has what its open step was passed, and nothing was asked
pub record Begins (objects : Path) (folders : List Path) (hash : HashKind) (replacements : List (ObjectId × ObjectId)) (options : Options) (opening : OpenState) : Type 0 where
  pub good : is_openable objects folders hash replacements options.max_changes ≡ true
  pub parts : opening.info.value ≡ parts_of_store objects folders hash replacements options
  pub changes : opening.max_changes ≡ options.max_changes
  pub begun : opening.stage ≡ started

-- the handle is one of the store, in these modes
pub record IsHandleOf (store : Store) (modes : Modes) (handle : HandleParts) : Type 0 where
  pub parts : handle.info ≡ store.parts
  pub refresh : handle.refresh ≡ modes.refresh
  pub ignoring : handle.ignoring ≡ modes.ignoring
  pub changes : handle.max_changes ≡ store.max_changes
  pub core : handle.core ≡ modes.core
  pub view : handle.view ≡ modes.view

-- What a handle of the code knows of its store, and what it seeks for a query.
use Rattle.std.specs.Prelude.{◌≡◌, false, [], Option, Some, None}
use Rattle.gix_hash.specs.declared.kind.Kind.{Kind as HashKind}
use Rattle.gix_hash.specs.declared.object_id.ObjectId.{ObjectId}
use Rattle.gix_odb_events.specs.declared.answer.Answer.{Answer}
use Rattle.gix_odb_events.specs.declared.view.Snapshot.{Snapshot}
use Rattle.gix_odb_events.specs.declared.view.View.{View}
use Rattle.gix_odb_calls.specs.declared.query.Query.{Query}
use Rattle.gix_odb.specs.LookUpOrder.{Setting, view_of}
use Rattle.gix_odb.specs.Contents.{replaced, replacement_in, sought}
use Rattle.gix_odb.specs.declared.handle_state.HandleState.{HandleState}

-- the hash of a handle's store
abbrev pub hash_of : HandleState → HashKind
hash_of handle = handle.info.value.object_hash

-- the store as a handle on it sees it
abbrev pub setting_at : HandleState → Setting
setting_at handle = record { parts = handle.info.value; most = handle.max_changes }

-- what a handle would see that has no snapshot yet: nothing, of a list that was not read
abbrev pub nothing_loaded : Snapshot
nothing_loaded = record { indices = []; kept = []; marker = record { generation = 0; state_id = 0 }; entry = 0 }

abbrev pub unseen : View
unseen = record { snapshot = nothing_loaded; list_no = 0; read = false; todo = [] }

-- a handle that sees this
abbrev pub with_view : HandleState → View → HandleState
with_view handle view = record handle { view = view }

-- a handle after a view was passed to it, if one was
abbrev pub seeing : HandleState → Option View → HandleState
seeing handle None = handle
seeing handle (Some view) = with_view handle view

-- a handle after an answer: it has the view that this passes
abbrev pub told_by : HandleState → Answer → HandleState
told_by handle answer = seeing handle (view_of answer)

-- handles that are alike: of one store, in one mode, with one snapshot
pub record IsAlike (one other : HandleState) : Type 0 where
  pub info : one.info.value ≡ other.info.value
  pub refresh : one.refresh ≡ other.refresh
  pub ignoring : one.ignore_replacements ≡ other.ignore_replacements
  pub changes : one.max_changes ≡ other.max_changes
  pub view : one.view ≡ other.view

-- the id that is sought in the place of another
abbrev pub replaced_by : HandleState → ObjectId → ObjectId
replaced_by handle id = replaced (replacement_in handle.info.value) handle.ignore_replacements id

-- the id that a call seeks
abbrev pub sought_by : HandleState → Query → ObjectId
sought_by handle query = sought handle.info.value handle.ignore_replacements query

-- From the place that a call finds to its change, and from its change to its answer and its tree.
use Rattle.std.proofs.Common.{◌≡◌, ℕ, true, false, List, [], Some, Result, Ok, Err, refl, sym, ap, ◌∙◌, cond, subst}
use Rattle.std.specs.Result.{result_ok}
use Rattle.odb_base.specs.Path.{Path}
use Rattle.odb_disk.specs.Tree.{Tree, IsTree, node_at, with_node, is_directory}
use Rattle.odb_disk.specs.Tree.Follow as following
use Rattle.odb_disk.specs.Tree.Follow.{Place, followed}
use Rattle.odb_disk.specs.Tree.Change.{lies_in_directory, parent_node, device_of, is_file_content, is_file_place, with_longer, longer, changed}
use Rattle.odb_disk.specs.Tree.Write.{Refusal, Absent, WrongKind, LinkLoop, Exists, NotEmpty, from_followed, and_then, vacant, movable, replaceable, removable, file_path}
use Rattle.odb_disk.specs.Tree.Write.{file_spot, change_of_make_dir, change_of_new_file, change_of_append, change_of_rename, change_of_remove, done, changed_by}
use Rattle.odb_disk.specs.TreeCalls.{impossible_by}
use Rattle.odb_disk.specs.Answers.{Tells}
use Rattle.odb_disk.specs.declared.node.Node.{Node}
use Rattle.odb_disk.specs.declared.change.Change.{Change}
use Rattle.odb_disk.specs.declared.change.Change.TheVariants.{PutFile, MakeDir, Rename, Append, Remove}
use Rattle.odb_disk.specs.declared.change.Impossible.TheVariants as impossible
use Rattle.odb_disk.specs.declared.disk_error.DiskError.{DiskError}
use Rattle.odb_disk.specs.declared.disk_error.DiskError.TheVariants as errors
use Rattle.odb_disk.proofs.TreeLemmas.Changed.{made-append}
use Rattle.odb_disk.proofs.TreeLemmas.Write.{spot_lies, vacant_at, file_at}
use Rattle.odb_disk.proofs.WriteCallsLemmas.Spots.{refused_then}

-- an error of the step before the change leaves no change
module _ (t : Tree) (path : Path) (e : DiskError) where
  pub make_dir_unmade : Tells {A = Path} (Err e) (vacant t path) → Tells {A = Change} (Err e) (change_of_make_dir t path)
  unfolding change_of_make_dir
  make_dir_unmade is = refused_then (λ place. Ok (MakeDir place (device_of (parent_node t place)))) (vacant t path) e is

  pub new_file_unmade : Tells {A = Path} (Err e) (vacant t path) → Tells {A = Change} (Err e) (change_of_new_file t path)
  unfolding change_of_new_file
  new_file_unmade is = refused_then (λ place. Ok (PutFile place 0 [])) (vacant t path) e is

  pub append_unmade : (bytes : List ℕ) → Tells {A = Path} (Err e) (file_spot t path) → Tells {A = Change} (Err e) (change_of_append t path bytes)
  unfolding change_of_append
  append_unmade bytes is = refused_then (λ place. Ok (Append place bytes)) (file_spot t path) e is

  pub remove_unmade : Tells {A = Path} (Err e) (removable t path) → Tells {A = Change} (Err e) (change_of_remove t path)
  unfolding change_of_remove
  remove_unmade is = refused_then (λ place. Ok (Remove place)) (removable t path) e is

  pub rename_source_unmade : (to : Path) → Tells {A = Path} (Err e) (movable t path) → Tells {A = Change} (Err e) (change_of_rename t path to)
  unfolding change_of_rename
  rename_source_unmade to is = refused_then (λ source. and_then (λ target. Ok (Rename source target)) (replaceable t to)) (movable t path) e is

  pub rename_target_unmade : (from source : Path) → movable t from ≡ Ok source → Tells {A = Path} (Err e) (replaceable t path) → Tells {A = Change} (Err e) (change_of_rename t from path)
  unfolding change_of_rename
  rename_target_unmade from source found is =
      subst (λ r. Tells {A = Change} (Err e) (and_then (λ source. and_then (λ target. Ok (Rename source target)) (replaceable t path)) r)) (sym found)
      (refused_then (λ target. Ok (Rename source target)) (replaceable t path) e is)

-- ---- the change of each call

module _ (t : Tree) (path s : Path) where
  module _ (is : vacant t path ≡ Ok s) where
    pub change_of_make_dir-is : change_of_make_dir t path ≡ Ok (MakeDir s (device_of (parent_node t s)))
    unfolding change_of_make_dir
    change_of_make_dir-is = ap (and_then (λ place. Ok (MakeDir place (device_of (parent_node t place))))) is

    -- with the device of its directory
    pub make_dir_told : (dev : ℕ) → dev ≡ device_of (parent_node t s) → change_of_make_dir t path ≡ Ok (MakeDir s dev)
    make_dir_told dev same = change_of_make_dir-is ∙ ap (λ d. Ok (MakeDir s d)) (sym same)

    pub change_of_new_file-is : change_of_new_file t path ≡ Ok (PutFile s 0 [])
    unfolding change_of_new_file
    change_of_new_file-is = ap (and_then (λ place. Ok (PutFile place 0 []))) is

    -- with no bytes
    pub new_file_told : (bytes : List ℕ) → bytes ≡ [] → change_of_new_file t path ≡ Ok (PutFile s 0 bytes)
    new_file_told bytes none = change_of_new_file-is ∙ ap (λ b. Ok (PutFile s 0 b)) (sym none)

    -- where nothing is, a path is in a directory
    pub vacant_lies : IsTree t → lies_in_directory t s ≡ true
    vacant_lies is_tree = let v = vacant_at t path s is in spot_lies t is_tree path s v.is (ap is_directory v.absent)

  pub change_of_remove-is : removable t path ≡ Ok s → change_of_remove t path ≡ Ok (Remove s)
  unfolding change_of_remove
  change_of_remove-is is = ap (and_then (λ place. Ok (Remove place))) is

  pub change_of_append-is : (bytes : List ℕ) → file_spot t path ≡ Ok s → change_of_append t path bytes ≡ Ok (Append s bytes)
  unfolding change_of_append
  change_of_append-is bytes is = ap (and_then (λ place. Ok (Append place bytes))) is

module _ (t : Tree) (from to source target : Path) (is : movable t from ≡ Ok source) (there : replaceable t to ≡ Ok target) where
  pub change_of_rename-is : change_of_rename t from to ≡ Ok (Rename source target)
  unfolding change_of_rename
  change_of_rename-is = ap (and_then (λ source. and_then (λ target. Ok (Rename source target)) (replaceable t to))) is ∙ ap (and_then (λ target. Ok (Rename source target))) there

-- ---- a call by its change

-- a call is refused as its change is
pub refused_as_told : (word : Result Change Refusal) (e : DiskError) → Tells {A = Change} (Err e) word → Tells {A = Unit {0}} (Err e) (done word)
refused_as_told word errors.Absent is = ap done is
refused_as_told word errors.WrongKind is = ap done is
refused_as_told word errors.LinkLoop is = ap done is
refused_as_told word errors.Exists is = ap done is
refused_as_told word errors.NotEmpty is = ap done is
refused_as_told word errors.Failed is = absurd is
refused_as_told word errors.NoMemory is = tt

-- what a change does is what its call does
pub made_as_told : (t u : Tree) (word : Result Change Refusal) (change : Change) → word ≡ Ok change → u ≡ changed t change → u ≡ changed_by t (result_ok word)
made_as_told t u word change is made = made ∙ sym (ap (λ r. changed_by t (result_ok r)) is)

-- ---- an append

module _ (t : Tree) (path s : Path) (is : file_spot t path ≡ Ok s) where
  pub appended_at : (u : Tree) (bytes : List ℕ) → ((node : Node) → node_at t s ≡ Some node → u ≡ with_node t s (record node { content = longer node.content bytes }))
      → u ≡ changed t (Append path bytes)
  appended_at u bytes put = let f = file_at t path s is in put f.node f.at ∙ sym (made-append t path bytes ∙ ap (with_longer t bytes) f.leads)

  pub leads_to_file : is_file_place (followed t true path) ≡ true
  leads_to_file = let f = file_at t path s is in ap is_file_place f.leads ∙ f.file

no_file_place : (told : Result Place following.Refusal) (refusal : Refusal) → and_then file_path (from_followed told) ≡ Err refusal → is_file_place told ≡ false
no_file_place (Err other) refusal is = refl
no_file_place (Ok place) refusal is =
    elim (is_file_content place.node.content) as (λ b. cond b (Ok place.path) (Err WrongKind) ≡ Err refusal → b ≡ false) [ true ↦ λ e. absurd (cc) | false ↦ λ _. refl ] is

pub leads_to_no_file : (t : Tree) (path : Path) (refusal : Refusal) → file_spot t path ≡ Err refusal → is_file_place (followed t true path) ≡ false
unfolding file_spot
leads_to_no_file t path refusal is = no_file_place (followed t true path) refusal is

pub no_file_there : (t : Tree) (path : Path) (e : DiskError) → Tells {A = Path} (Err e) (file_spot t path) → impossible_by e ≡ impossible.Impossible → is_file_place (followed t true path) ≡ false
no_file_there t path errors.Absent is _ = leads_to_no_file t path Absent is
no_file_there t path errors.WrongKind is _ = leads_to_no_file t path WrongKind is
no_file_there t path errors.LinkLoop is _ = leads_to_no_file t path LinkLoop is
no_file_there t path errors.Exists is _ = leads_to_no_file t path Exists is
no_file_there t path errors.NotEmpty is _ = leads_to_no_file t path NotEmpty is
no_file_there t path errors.Failed is _ = absurd is
no_file_there t path errors.NoMemory is other = absurd (cc)

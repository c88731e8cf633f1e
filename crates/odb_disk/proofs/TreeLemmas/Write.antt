-- Laws of the calls that write: where a path's spot is, and that the change of a call is possible.
use Rattle.std.proofs.Common.{◌≡◌, ◌≢◌, ℕ, Bool, true, false, not, ◌&&◌, List, [], ◌∷◌, ◌++◌, length, drop, Option, Some, None, is_some, is_none, Result, Ok, Err, refl, sym, ap, ◌∙◌, cond}
use Rattle.std.specs.List.{starts_with}
use Rattle.std.proofs.lemmas.Bool.{false≢true, and_from}
use Rattle.odb_base.specs.Path.{Path, parent_of, same_name}
use Rattle.odb_base.specs.PathLaws.{parent_of-some}
use Rattle.odb_disk.specs.Tree.{Tree, IsTree, node_at, names_in, is_directory, is_directory_content}
use Rattle.odb_disk.specs.Tree.Follow as following
use Rattle.odb_disk.specs.Tree.Follow.{Place, followed, most_links}
use Rattle.odb_disk.specs.Tree.Change.{is_nil, parent_node, device_of, lies_in_directory, is_file_content, is_file_place, can_move, is_possible_in}
use Rattle.odb_disk.specs.Tree.Write.{Refusal, WrongKind, NotEmpty, from_followed, and_then, in_directory, spot_below, spot, vacant_spot, vacant, movable_spot, movable, replaceable}
use Rattle.odb_disk.specs.Tree.Write.{removable_spot, removable, file_path, file_spot, change_of_make_dir, change_of_new_file, change_of_append, change_of_rename, change_of_remove}
use Rattle.odb_disk.specs.declared.node.Node.{Node}
use Rattle.odb_disk.specs.declared.change.Change.{Change}
use Rattle.odb_disk.specs.declared.change.Change.TheVariants.{PutFile, MakeDir, Rename, Append, Remove}
use Rattle.odb_disk.proofs.TreeLemmas.Follow.{place_stands, pass_to_other, followed_reached}
use Rattle.odb_disk.proofs.TreeLemmas.Change.{lies_in-push, lies_in-node}
use Rattle.odb_disk.proofs.TreeLemmas.Moved.{behind-append}

-- ---- steps of a word

-- what was found by two steps was found by the first
pub record Found {A B : Type 0} (next : A → Result B Refusal) (told : Result A Refusal) (found : B) : Type 0 where
  pub first : A
  pub is : told ≡ Ok first
  pub then : next first ≡ Ok found

pub found_by : {A B : Type 0} (next : A → Result B Refusal) (told : Result A Refusal) (found : B) → and_then next told ≡ Ok found → Found next told found
found_by next (Ok first) found is = record { first = first; is = refl; then = is }
found_by next (Err refusal) found is = absurd (cc)

pub if_ok : {A : Type 0} (b : Bool) (x y : A) (refusal : Refusal) → cond b (Ok x) (Err refusal) ≡ Ok y → (b ≡ true) × (x ≡ y)
if_ok true x y refusal is = (refl, cc)
if_ok false x y refusal is = absurd (cc)

if_err : {A : Type 0} (b : Bool) (x y : A) (refusal : Refusal) → cond b (Err refusal) (Ok x) ≡ Ok y → (b ≡ false) × (x ≡ y)
if_err true x y refusal is = absurd (cc)
if_err false x y refusal is = (refl, cc)

-- ---- spots

-- a spot that isn't the root: a name in a directory
pub record SpotIn (t : Tree) (path s : Path) : Type 0 where
  pub front : Path
  pub parent : parent_of path ≡ Some front
  pub place : Place
  pub leads : followed t true front ≡ Ok place
  pub directory : is_directory_content place.node.content ≡ true
  pub is : place.path ++ drop (length front) path ≡ s

pub followed_found : {A : Type 0} (told : Result A following.Refusal) (found : A) → from_followed told ≡ Ok found → told ≡ Ok found
followed_found (Ok x) found is = cc
followed_found (Err refusal) found is = absurd (cc)

spot_in : (t : Tree) (path s : Path) (parent : Option Path) → parent_of path ≡ parent → spot_below t path parent ≡ Ok s → s ≢ [] → SpotIn t path s
spot_in t path s None is found below = absurd (below (let same : [] ≡ s = cc in sym same))
spot_in t path s (Some front) is found below =
    let f = found_by (in_directory (drop (length front) path)) (from_followed (followed t true front)) s found in
    let d = if_ok (is_directory_content f.first.node.content) (f.first.path ++ drop (length front) path) s WrongKind f.then in
    record { front = front; parent = is; place = f.first; leads = followed_found (followed t true front) f.first f.is; directory = d.0; is = d.1 }

pub spot_is_in : (t : Tree) (path s : Path) → spot t path ≡ Ok s → s ≢ [] → SpotIn t path s
unfolding spot
spot_is_in t path s is below = spot_in t path s (parent_of path) refl is below

-- a spot that is no directory is in a directory
pub spot_lies : (t : Tree) → IsTree t → (path s : Path) → spot t path ≡ Ok s → is_directory (node_at t s) ≡ false → lies_in_directory t s ≡ true
spot_lies t is_tree path s is other =
    let i = spot_is_in t path s is (λ root. false≢true (sym other ∙ ap (λ q. is_directory (node_at t q)) root ∙ is_tree.root)) in
    let last = parent_of-some path i.front i.parent in
    let behind : drop (length i.front) path ≡ last.0 ∷ [] = ap (drop (length i.front)) last.1 ∙ behind-append i.front (last.0 ∷ []) in
    let whole : i.place.path ++ last.0 ∷ [] ≡ s = ap (λ r. i.place.path ++ r) (sym behind) ∙ i.is in
    ap (lies_in_directory t) (sym whole) ∙ lies_in-push t i.place.path last.0 ∙ ap is_directory (place_stands t most_links true i.front i.place i.leads) ∙ i.directory

-- ---- what is at a spot

pub record VacantAt (t : Tree) (path s : Path) : Type 0 where
  pub is : spot t path ≡ Ok s
  pub absent : node_at t s ≡ None

vacant_found : (place : Path) (o : Option Node) (s : Path) → vacant_spot place o ≡ Ok s → (place ≡ s) × (o ≡ None)
vacant_found place None s is = (cc, refl)
vacant_found place (Some node) s is = absurd (cc)

pub vacant_at : (t : Tree) (path s : Path) → vacant t path ≡ Ok s → VacantAt t path s
unfolding vacant
vacant_at t path s is =
    let f = found_by (λ place. vacant_spot place (node_at t place)) (spot t path) s is in
    let v = vacant_found f.first (node_at t f.first) s f.then in
    record { is = f.is ∙ ap Ok v.0; absent = ap (node_at t) (sym v.0) ∙ v.1 }

pub record MovableAt (t : Tree) (path s : Path) : Type 0 where
  pub is : spot t path ≡ Ok s
  pub node : Node
  pub at : node_at t s ≡ Some node
  pub leaf : is_directory_content node.content ≡ false

movable_found : (t : Tree) (path place : Path) (o : Option Node) (s : Path) → spot t path ≡ Ok place → node_at t place ≡ o → movable_spot place o ≡ Ok s → MovableAt t path s
movable_found t path place None s is at found = absurd (cc)
movable_found t path place (Some node) s is at found =
    let e = if_err (is_directory_content node.content) place s WrongKind found in
    record { is = is ∙ ap Ok e.1; node = node; at = ap (node_at t) (sym e.1) ∙ at; leaf = e.0 }

pub movable_at : (t : Tree) (path s : Path) → movable t path ≡ Ok s → MovableAt t path s
unfolding movable
movable_at t path s is =
    let f = found_by (λ place. movable_spot place (node_at t place)) (spot t path) s is in movable_found t path f.first (node_at t f.first) s f.is refl f.then

pub record ReplaceableAt (t : Tree) (path s : Path) : Type 0 where
  pub is : spot t path ≡ Ok s
  pub free : is_directory (node_at t s) ≡ false

pub replaceable_at : (t : Tree) (path s : Path) → replaceable t path ≡ Ok s → ReplaceableAt t path s
unfolding replaceable
replaceable_at t path s is =
    let f = found_by (λ place. cond (is_directory (node_at t place)) (Err WrongKind) (Ok place)) (spot t path) s is in
    let e = if_err (is_directory (node_at t f.first)) f.first s WrongKind f.then in
    record { is = f.is ∙ ap Ok e.1; free = ap (λ q. is_directory (node_at t q)) (sym e.1) ∙ e.0 }

pub record RemovableAt (t : Tree) (path s : Path) : Type 0 where
  pub is : spot t path ≡ Ok s
  pub node : Node
  pub at : node_at t s ≡ Some node
  pub empty : is_nil (names_in t s) ≡ true
  pub below_root : [] ≢ s

nil_root : (s : Path) → is_nil s ≡ false → [] ≢ s
nil_root [] is same = false≢true (sym is)
nil_root (name ∷ names) is same = cc

removable_found : (t : Tree) (path place : Path) (o : Option Node) (s : Path) → spot t path ≡ Ok place → node_at t place ≡ o → removable_spot t place o ≡ Ok s → RemovableAt t path s
removable_found t path place None s is at found = absurd (cc)
removable_found t path place (Some node) s is at found =
    elim (is_nil (names_in t place)) as (λ b. is_nil (names_in t place) ≡ b → cond b (cond (is_nil place) (Err WrongKind) (Ok place)) (Err NotEmpty) ≡ Ok s → RemovableAt t path s) [
      | true ↦ λ nil e.
          let r = if_err (is_nil place) place s WrongKind e in
          record { is = is ∙ ap Ok r.1; node = node; at = ap (node_at t) (sym r.1) ∙ at; empty = ap (λ q. is_nil (names_in t q)) (sym r.1) ∙ nil; below_root = nil_root s (ap is_nil (sym r.1) ∙ r.0) }
      | false ↦ λ _ e. absurd (cc)
    ] refl found

pub removable_at : (t : Tree) (path s : Path) → removable t path ≡ Ok s → RemovableAt t path s
unfolding removable
removable_at t path s is =
    let f = found_by (λ place. removable_spot t place (node_at t place)) (spot t path) s is in removable_found t path f.first (node_at t f.first) s f.is refl f.then

pub record FileAt (t : Tree) (path s : Path) : Type 0 where
  pub node : Node
  pub leads : followed t true path ≡ Ok (record { path = s; node = node })
  pub at : node_at t s ≡ Some node
  pub file : is_file_content node.content ≡ true

pub file_at : (t : Tree) (path s : Path) → file_spot t path ≡ Ok s → FileAt t path s
unfolding file_spot
file_at t path s is =
    let f = found_by file_path (from_followed (followed t true path)) s is in
    let e = if_ok (is_file_content f.first.node.content) f.first.path s WrongKind f.then in
    let leads = followed_found (followed t true path) f.first f.is in
    record {
      node = f.first.node;
      leads = leads ∙ ap (λ q. Ok (record { path = q; node = f.first.node })) e.1;
      at = ap (node_at t) (sym e.1) ∙ place_stands t most_links true path f.first leads;
      file = e.0;
    }

-- a file's own path leads to it
pub leads_to_itself : (t : Tree) → IsTree t → (s : Path) (n : Node) → node_at t s ≡ Some n → is_file_content n.content ≡ true → followed t true s ≡ Ok (record { path = s; node = n })
leads_to_itself t is_tree s n at file =
    followed_reached t true s most_links s n (pass_to_other t is_tree s n at true (λ target link. false≢true (sym (ap is_file_content link) ∙ file)))

-- ---- the change of a call is possible

module _ (t : Tree) (is_tree : IsTree t) (path : Path) (change : Change) where
  pub make_dir_possible : change_of_make_dir t path ≡ Ok change → is_possible_in t change ≡ true
  unfolding change_of_make_dir is_possible_in
  make_dir_possible is =
      let f = found_by (λ place. Ok (MakeDir place (device_of (parent_node t place)))) (vacant t path) change is in
      let v = vacant_at t path f.first f.is in
      let same : MakeDir f.first (device_of (parent_node t f.first)) ≡ change = cc in
      ap (is_possible_in t) (sym same) ∙ and_from _ _ (spot_lies t is_tree path f.first v.is (ap is_directory v.absent)) (ap is_none v.absent)

  pub new_file_possible : change_of_new_file t path ≡ Ok change → is_possible_in t change ≡ true
  unfolding change_of_new_file is_possible_in
  new_file_possible is =
      let f = found_by (λ place. Ok (PutFile place 0 [])) (vacant t path) change is in
      let v = vacant_at t path f.first f.is in
      let same : PutFile f.first 0 [] ≡ change = cc in
      ap (is_possible_in t) (sym same) ∙ and_from _ _ (spot_lies t is_tree path f.first v.is (ap is_directory v.absent)) (ap (λ o. not (is_directory o)) v.absent)

  pub append_possible : (bytes : List ℕ) → change_of_append t path bytes ≡ Ok change → is_possible_in t change ≡ true
  unfolding change_of_append is_possible_in
  append_possible bytes is =
      let f = found_by (λ place. Ok (Append place bytes)) (file_spot t path) change is in
      let v = file_at t path f.first f.is in
      let same : Append f.first bytes ≡ change = cc in
      ap (is_possible_in t) (sym same) ∙ ap is_file_place (leads_to_itself t is_tree f.first v.node v.at v.file) ∙ v.file

  pub rename_possible : (to : Path) → change_of_rename t path to ≡ Ok change → is_possible_in t change ≡ true
  unfolding change_of_rename is_possible_in
  rename_possible to is =
      let f = found_by (λ source. and_then (λ target. Ok (Rename source target)) (replaceable t to)) (movable t path) change is in
      let g = found_by (λ target. Ok (Rename f.first target)) (replaceable t to) change f.then in
      let m = movable_at t path f.first f.is in
      let r = replaceable_at t to g.first g.is in
      let same : Rename f.first g.first ≡ change = cc in
      ap (is_possible_in t) (sym same)
      ∙ and_from _ _ (spot_lies t is_tree to g.first r.is r.free)
      (ap (can_move t f.first g.first) m.at
      ∙ ap (λ b. cond b (is_none (node_at t g.first) && not (starts_with same_name g.first f.first)) (not (is_directory (node_at t g.first)))) m.leaf ∙ ap not r.free)

  pub remove_possible : change_of_remove t path ≡ Ok change → is_possible_in t change ≡ true
  unfolding change_of_remove is_possible_in
  remove_possible is =
      let f = found_by (λ place. Ok (Remove place)) (removable t path) change is in
      let r = removable_at t path f.first f.is in
      let same : Remove f.first ≡ change = cc in
      ap (is_possible_in t) (sym same) ∙ and_from _ _ (and_from _ _ (lies_in-node t is_tree f.first r.node r.below_root r.at) (ap is_some r.at)) r.empty

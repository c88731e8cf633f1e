-- The entries of a directory: one for each of its names, of the node that lies under it.
use Rattle.std.proofs.Common.{◌≡◌, Bool, true, false, cond, List, [], ◌∷◌, ◌++◌, map, All, Contains, Option, Some, None, Ok}
use Rattle.std.proofs.Common.{Result, Err, T, refl, sym, ap, ◌∙◌, subst, arith}
use Rattle.std.specs.FinMap.{find, is_sorted}
use Rattle.std.specs.List.{AllByRecursion, cons_option, filter_map}
use Rattle.std.specs.Option.{option_map}
use Rattle.std.specs.Ordering.{eq_by_cmp}
use Rattle.std.proofs.lemmas.List.Elements.{All-contains, All-from_recursion, Contains-append_left, Contains-append_right}
use Rattle.odb_base.specs.Path.{Name, Path, path_cmp}
use Rattle.odb_disk.specs.Entries.{entries_at, entries_at_place, entries_in, entry_in, entry_of, opened}
use Rattle.odb_disk.specs.Tree.{Tree, name_in, names_in, node_at}
use Rattle.odb_disk.specs.Tree.Follow.{Place, Refusal, followed, listed, names_of, names_of_place}
use Rattle.odb_disk.specs.Tree.Nodes.{entries_of, entries_of-sorted, names_in-entries_of, node_at-entries_of}
use Rattle.odb_disk.specs.declared.entry.Entry.{Entry}
use Rattle.odb_disk.specs.declared.node.Content.{Content}
use Rattle.odb_disk.specs.declared.node.Content.TheVariants.{File, Dir, Link}
use Rattle.odb_disk.specs.declared.node.Node.{Node}
use Rattle.odb_disk.proofs.TreeLemmas.{find_later, find_own, same_path, second}
use Rattle.odb_disk.proofs.TreeLemmas.Change.{name_in-path, name_in-push}

abbrev Nodes : Type 0
Nodes = List (Path × Node)

-- ---- the entries among nodes in the order of their paths

module _ (directory : Path) where
  -- an entry is that of the node under its name
  record IsEntryAmong (es : Nodes) (entry : Entry) : Type 0 where
    node : Node
    found : find path_cmp (directory ++ entry.name ∷ []) es ≡ Some node
    is : entry ≡ entry_of node entry.name

  abbrev entries_among : Nodes → List Entry
  entries_among es = filter_map (entry_in directory) es

  abbrev at_name : Name → Path
  at_name name = directory ++ name ∷ []

  later : (e : Path × Node) (es : Nodes) → T (is_sorted path_cmp (e ∷ es)) → (entry : Entry) → IsEntryAmong es entry → IsEntryAmong (e ∷ es) entry
  later e es sorted entry among =
      record { node = among.node; found = find_later e es (directory ++ entry.name ∷ []) among.node sorted among.found; is = among.is }

  all_later : (e : Path × Node) (es : Nodes) → T (is_sorted path_cmp (e ∷ es)) → (entries : List Entry)
      → AllByRecursion (IsEntryAmong es) entries → AllByRecursion (IsEntryAmong (e ∷ es)) entries
  all_later e es sorted [] all = tt
  all_later e es sorted (entry ∷ entries) all = (later e es sorted entry all.0, all_later e es sorted entries all.1)

  own : (e : Path × Node) (es : Nodes) (name : Name) → name_in directory e.0 ≡ Some name → IsEntryAmong (e ∷ es) (entry_of e.1 name)
  own e es name is =
      record { node = e.1; found = ap (λ path. find path_cmp path (e ∷ es)) (sym (name_in-path directory e.0 name is)) ∙ find_own e es; is = refl }

  each_among : (es : Nodes) → T (is_sorted path_cmp es) → AllByRecursion (IsEntryAmong es) (entries_among es)
  each_among [] sorted = tt
  each_among (e ∷ es) sorted =
      let rest = all_later e es sorted (entries_among es) (each_among es (second _ _ sorted)) in
      by (name_in directory e.0) refl rest
    where
      by : (o : Option Name) → name_in directory e.0 ≡ o → AllByRecursion (IsEntryAmong (e ∷ es)) (entries_among es)
          → AllByRecursion (IsEntryAmong (e ∷ es)) (cons_option (option_map (entry_of e.1) o) (entries_among es))
      by None is rest = rest
      by (Some name) is rest = (own e es name is, rest)

  added : (o : Option Entry) (entries : List Entry) (entry : Entry) → Contains entries entry → Contains (cons_option o entries) entry
  added None entries entry among = among
  added (Some first) entries entry among = Contains-append_right (first ∷ []) entries entry among

  among_found : (es : Nodes) (name : Name) (node : Node) → find path_cmp (at_name name) es ≡ Some node
      → Contains (entries_among es) (entry_of node name)
  among_found [] name node found = absurd (cc)
  among_found (e ∷ es) name node found =
      by (eq_by_cmp path_cmp (at_name name) e.0) refl found (among_found es name node)
    where
      by : (tied : Bool) → eq_by_cmp path_cmp (at_name name) e.0 ≡ tied → cond tied (Some e.1) (find path_cmp (at_name name) es) ≡ Some node
          → (find path_cmp (at_name name) es ≡ Some node → Contains (entries_among es) (entry_of node name))
          → Contains (entries_among (e ∷ es)) (entry_of node name)
      by true tied is more =
          let named : name_in directory e.0 ≡ Some name = ap (name_in directory) (sym (same_path (at_name name) e.0 tied)) ∙ name_in-push directory name in
          let same : e.1 ≡ node = cc is in
          let first : entry_in directory e ≡ Some (entry_of node name) = ap (option_map (entry_of e.1)) named ∙ ap (λ n. Some (entry_of n name)) same in
          subst (λ o. Contains (cons_option o (entries_among es)) (entry_of node name)) (sym first)
          (Contains-append_left (entry_of node name ∷ []) (entries_among es) (entry_of node name) (0, omega arith, refl))
      by false tied is more = added (entry_in directory e) (entries_among es) (entry_of node name) (more is)

  names_among : (es : Nodes) → map (λ (entry : Entry). entry.name) (entries_among es) ≡ filter_map (name_in directory) (map (λ e. e.0) es)
  names_among [] = refl
  names_among (e ∷ es) =
      elim (name_in directory e.0) as (λ o. map (λ (entry : Entry). entry.name) (cons_option (option_map (entry_of e.1) o) (entries_among es))
      ≡ cons_option o (filter_map (name_in directory) (map (λ f. f.0) es))) [
        | None ↦ names_among es
        | Some name ↦ ap (λ names. name ∷ names) (names_among es)
      ]

-- ---- the entries of a directory of a tree

-- an entry of a directory is that of the node under its name
pub record IsEntryOf (tree : Tree) (directory : Path) (entry : Entry) : Type 0 where
  pub node : Node
  pub at : node_at tree (directory ++ entry.name ∷ []) ≡ Some node
  pub is : entry ≡ entry_of node entry.name

module _ (tree : Tree) (directory : Path) where
  entry_is_of_a_node : (entry : Entry) → Contains (entries_in tree directory) entry → IsEntryOf tree directory entry
  unfolding entries_in
  entry_is_of_a_node entry among =
      let all : All (IsEntryAmong directory (entries_of tree)) (filter_map (entry_in directory) (entries_of tree)) =
      All-from_recursion _ _ (each_among directory (entries_of tree) (entries_of-sorted tree)) in
      let has = All-contains (IsEntryAmong directory (entries_of tree)) _ entry all among in
      record { node = has.node; at = node_at-entries_of tree (directory ++ entry.name ∷ []) ∙ has.found; is = has.is }

  node_has_an_entry : (name : Name) (node : Node) → node_at tree (directory ++ name ∷ []) ≡ Some node
      → Contains (entries_in tree directory) (entry_of node name)
  unfolding entries_in
  node_has_an_entry name node at = among_found directory (entries_of tree) name node (sym (node_at-entries_of tree (directory ++ name ∷ [])) ∙ at)

  entries_have_the_names : map (λ (entry : Entry). entry.name) (entries_in tree directory) ≡ names_in tree directory
  unfolding entries_in
  entries_have_the_names = names_among directory (entries_of tree) ∙ sym (names_in-entries_of tree directory)

-- ---- a folder that opens

-- a folder leads to a directory, which has these entries
pub record OpensAt (tree : Tree) (folder : Path) (entries : List Entry) : Type 0 where
  pub place : Place
  pub leads : followed tree true folder ≡ Ok place
  pub directory : place.node.content ≡ Dir
  pub lists : entries_in tree place.path ≡ entries

opens_at_content : (tree : Tree) (place : Place) (content : Content) (entries : List Entry) → entries_at tree place.path content ≡ Ok entries
    → (content ≡ Dir) × (entries_in tree place.path ≡ entries)
opens_at_content tree place (File bytes time) entries is = absurd (cc)
opens_at_content tree place Dir entries is = (refl, cc)
opens_at_content tree place (Link target) entries is = absurd (cc)

opens_at_place : (tree : Tree) (folder : Path) (told : Result Place Refusal) (entries : List Entry) → followed tree true folder ≡ told
    → entries_at_place tree told ≡ Ok entries → OpensAt tree folder entries
opens_at_place tree folder (Ok place) entries leads is =
    let opens = opens_at_content tree place place.node.content entries is in
    record { place = place; leads = leads; directory = opens.0; lists = opens.1 }
opens_at_place tree folder (Err refusal) entries leads is = absurd (cc)

module _ (tree : Tree) (folder : Path) (entries : List Entry) (opens : opened tree folder ≡ Ok entries) where
  pub opens_at : OpensAt tree folder entries
  unfolding opened
  opens_at = opens_at_place tree folder (followed tree true folder) entries refl opens

  pub opened_entry_is_of_a_node : (entry : Entry) → Contains entries entry → IsEntryOf tree opens_at.place.path entry
  opened_entry_is_of_a_node entry among = entry_is_of_a_node tree opens_at.place.path entry (subst (λ es. Contains es entry) (sym opens_at.lists) among)

  pub node_is_opened : (name : Name) (node : Node) → node_at tree (opens_at.place.path ++ name ∷ []) ≡ Some node → Contains entries (entry_of node name)
  node_is_opened name node at = subst (λ es. Contains es (entry_of node name)) opens_at.lists (node_has_an_entry tree opens_at.place.path name node at)

  -- a listing of its names has the same names, in the same order
  pub opened_names_are_listed : listed tree folder ≡ Ok (map (λ (entry : Entry). entry.name) entries)
  unfolding listed
  opened_names_are_listed =
      ap (names_of_place tree) opens_at.leads
      ∙ ap (names_of tree opens_at.place.path) opens_at.directory
      ∙ ap Ok (sym (entries_have_the_names tree opens_at.place.path) ∙ ap (map (λ (entry : Entry). entry.name)) opens_at.lists)

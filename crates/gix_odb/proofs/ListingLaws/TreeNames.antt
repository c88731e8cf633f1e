-- No two entries of a directory have one name, so a stream of it gives no name twice.
use Rattle.std.proofs.Common.{◌≡◌, inl, inr, ◌&&◌, Bool, true, false, cond, List, [], ◌∷◌, ◌++◌, map, Contains, Option, Some, None, Ok, Err}
use Rattle.std.proofs.Common.{Result, T, refl, sym, ap, ◌∙◌, subst}
use Rattle.std.specs.Cmp.Lexicographic.{bytes_decides}
use Rattle.std.specs.FinMap.{is_sorted}
use Rattle.std.specs.FinMap.Entries.{below_all}
use Rattle.std.specs.List.{cons_option, filter_map, list_any}
use Rattle.std.specs.Ordering.{is_eq, is_lt}
use Rattle.std.specs.declared.cmp.Ordering.{Ordering}
use Rattle.std.specs.declared.cmp.Ordering.TheVariants.{Less, Equal, Greater}
use Rattle.std.proofs.lemmas.Bool.{false_from_ne_true, or_from}
use Rattle.odb_base.specs.Path.{Name, Path, path_cmp, same_name}
use Rattle.odb_disk.specs.Entries.{opened}
use Rattle.odb_disk.specs.Tree.{Tree, name_in, names_in}
use Rattle.odb_disk.specs.Tree.Follow.{Place, Refusal, followed, listed, names_of, names_of_place}
use Rattle.odb_disk.specs.Tree.Nodes.{entries_of, entries_of-sorted, names_in-entries_of}
use Rattle.odb_disk.specs.declared.entry.Entry.{Entry}
use Rattle.odb_disk.specs.declared.node.Content.{Content}
use Rattle.odb_disk.specs.declared.node.Content.TheVariants.{File, Dir, Link}
use Rattle.odb_disk.specs.declared.node.Node.{Node}
use Rattle.odb_disk.proofs.TreeLemmas.{own_path, second}
use Rattle.odb_disk.proofs.TreeLemmas.Change.{name_in-path}
use Rattle.gix_odb_search.specs.PackFolder.{firsts, firsts_without}
use Rattle.gix_odb_search.proofs.ReachLemmas.{first_or_later, none_in}
use Rattle.gix_odb.proofs.ListerLaws.Lists.{has_first, has_later}
use Rattle.gix_odb.proofs.ListerLaws.Differ.{Differ}
use Rattle.gix_odb.proofs.StreamLaws.Directories.{entries_are_of_the_names}

abbrev Nodes : Type 0
Nodes = List (Path × Node)

abbrev paths_of : Nodes → List Path
paths_of nodes = map (λ (at : Path × Node). at.0) nodes

-- ---- paths that rise

not_both : (order : Ordering) → T (is_lt order) → ¬ (is_eq order ≡ true)
not_both Less less equal = cc equal
not_both Equal less equal = absurd less
not_both Greater less equal = absurd less

front : (a b : Bool) → T (a && b) → T a
front true b p = tt
front false b p = p

-- a path below others isn't among them
below_is_apart : (path : Path) (nodes : Nodes) → T (below_all path_cmp path nodes) → (other : Path) → Contains (paths_of nodes) other → ¬ (path ≡ other)
below_is_apart path [] below other among same = none_in other among
below_is_apart path (at ∷ nodes) below other among same =
    elim (first_or_later at.0 (paths_of nodes) other among) [
      | inl is ↦
          let less : T (is_lt (path_cmp path at.0)) = front (is_lt (path_cmp path at.0)) (below_all path_cmp path nodes) below in
          not_both (path_cmp path path) (subst (λ (p : Path). T (is_lt (path_cmp path p))) (is ∙ sym same) less) (own_path path)
      | inr later ↦ below_is_apart path nodes (second (is_lt (path_cmp path at.0)) (below_all path_cmp path nodes) below) other later same
    ]

-- ---- names in a directory

module _ (directory : Path) where
  abbrev names_among : List Path → List Name
  names_among paths = filter_map (name_in directory) paths

  -- a name of the first path, or of those after it
  first_name_or_later : (path : Path) (paths : List Path) (name : Name) → (Contains (names_among paths) name → Contains paths (directory ++ name ∷ []))
      → (own : Option Name) → name_in directory path ≡ own → Contains (cons_option own (names_among paths)) name
      → Contains (path ∷ paths) (directory ++ name ∷ [])
  first_name_or_later path paths name later None is has = has_later path paths (directory ++ name ∷ []) (later has)
  first_name_or_later path paths name later (Some first) is has =
      elim (first_or_later first (names_among paths) name has) [
        | inl same ↦
            let at : path ≡ directory ++ name ∷ [] = name_in-path directory path first is ∙ ap (λ (n : Name). directory ++ n ∷ []) same in
            subst (λ (p : Path). Contains (path ∷ paths) p) at (has_first path paths)
        | inr more ↦ has_later path paths (directory ++ name ∷ []) (later more)
      ]

  -- each of them is the last of a path
  name_has_path : (paths : List Path) (name : Name) → Contains (names_among paths) name → Contains paths (directory ++ name ∷ [])
  name_has_path [] name among = absurd (none_in name among)
  name_has_path (path ∷ paths) name among =
      first_name_or_later path paths name (λ more. name_has_path paths name more) (name_in directory path) refl among

  -- no name of a path is one of the paths after it
  name_is_apart : (at : Path × Node) (nodes : Nodes) → T (below_all path_cmp at.0 nodes) → (name : Name) → name_in directory at.0 ≡ Some name
      → (other : Name) → Contains (names_among (paths_of nodes)) other → ¬ (name ≡ other)
  name_is_apart at nodes below name is other among same =
      below_is_apart at.0 nodes below (directory ++ other ∷ []) (name_has_path (paths_of nodes) other among)
      (name_in-path directory at.0 name is ∙ ap (λ (n : Name). directory ++ n ∷ []) same)

  more_differ : (at : Path × Node) (nodes : Nodes) → T (below_all path_cmp at.0 nodes) → Differ (names_among (paths_of nodes)) → (own : Option Name)
      → name_in directory at.0 ≡ own → Differ (cons_option own (names_among (paths_of nodes)))
  more_differ at nodes below rest None is = rest
  more_differ at nodes below rest (Some name) is = (name_is_apart at nodes below name is, rest)

  names_differ : (nodes : Nodes) → T (is_sorted path_cmp nodes) → Differ (names_among (paths_of nodes))
  names_differ [] sorted = tt
  names_differ (at ∷ nodes) sorted =
      more_differ at nodes (front (below_all path_cmp at.0 nodes) (is_sorted path_cmp nodes) sorted)
      (names_differ nodes (second (below_all path_cmp at.0 nodes) (is_sorted path_cmp nodes) sorted)) (name_in directory at.0) refl

-- ---- a directory of a tree

listed_differ : (tree : Tree) (folder : Path) (names : List Name) → listed tree folder ≡ Ok names → Differ names
unfolding listed
listed_differ tree folder names is = by (followed tree true folder) is
  where
    of_directory : (path : Path) → Differ (names_in tree path)
    of_directory path =
        subst (λ (ns : List Name). Differ ns) (sym (names_in-entries_of tree path)) (names_differ path (entries_of tree) (entries_of-sorted tree))

    by_content : (path : Path) (content : Content) → names_of tree path content ≡ Ok names → Differ names
    by_content path Dir has = let same : names_in tree path ≡ names = cc has in subst (λ (ns : List Name). Differ ns) same (of_directory path)
    by_content path (File bytes time) has = absurd (cc has)
    by_content path (Link target) has = absurd (cc has)

    by : (place : Result Place Refusal) → names_of_place tree place ≡ Ok names → Differ names
    by (Ok place) has = by_content place.path place.node.content has
    by (Err refusal) has = absurd (cc has)

-- ---- a stream of it

abbrev names_of_entries : List Entry → List Name
names_of_entries entries = map (λ (entry : Entry). entry.name) entries

abbrev AreNew : List Name → List Entry → Type 0
AreNew names entries = (entry : Entry) → Contains entries entry → list_any (same_name entry.name) names ≡ false

other_name : (one other : Name) → ¬ (one ≡ other) → same_name one other ≡ false
other_name one other apart = false_from_ne_true (same_name one other) (λ same. apart ((bytes_decides one other).0 same))

name_among : (entries : List Entry) (entry : Entry) → Contains entries entry → Contains (names_of_entries entries) entry.name
name_among [] entry among = absurd (none_in entry among)
name_among (first ∷ entries) entry among =
    elim (first_or_later first entries entry among) [
      | inl is ↦
          subst (λ (name : Name). Contains (names_of_entries (first ∷ entries)) name) (ap (λ (e : Entry). e.name) is)
          (has_first first.name (names_of_entries entries))
      | inr later ↦ has_later first.name (names_of_entries entries) entry.name (name_among entries entry later)
    ]

-- where no two entries have one name, each is the first of its name
firsts_same : (names : List Name) (entries : List Entry) → AreNew names entries → Differ (names_of_entries entries) → firsts_without names entries ≡ entries
firsts_same names [] new differ = refl
firsts_same names (entry ∷ entries) new differ =
    let first : list_any (same_name entry.name) names ≡ false = new entry (has_first entry entries) in
    let rest : firsts_without (entry.name ∷ names) entries ≡ entries =
    firsts_same (entry.name ∷ names) entries
    (λ other among.
    or_from (same_name other.name entry.name) (list_any (same_name other.name) names)
    (other_name other.name entry.name (λ same. differ.0 other.name (name_among entries other among) (sym same)))
    (new other (has_later entry entries other among)))
    differ.1 in
    ap (λ (b : Bool). cond b (firsts_without names entries) (entry ∷ firsts_without (entry.name ∷ names) entries)) first
    ∙ ap (λ (es : List Entry). entry ∷ es) rest

pub opened_names_are_new : (tree : Tree) (folder : Path) (entries : List Entry) → opened tree folder ≡ Ok entries → firsts entries ≡ entries
opened_names_are_new tree folder entries opens =
    firsts_same [] entries (λ entry among. refl)
    (listed_differ tree folder (names_of_entries entries) (entries_are_of_the_names tree folder entries opens))

-- The rows of a listing have different paths: no index of a folder is named twice, and putting rows in order keeps each once.
use Rattle.std.proofs.Common.{◌≡◌, inl, inr, Bool, true, false, cond, not, ◌&&◌, ◌||◌, is_some, nat_lt, List, [], ◌∷◌, ◌++◌, map, Contains, refl, sym, ap, ◌∙◌, subst, append-nil}
use Rattle.std.specs.List.{filter, list_any}
use Rattle.std.specs.List.Sorted.{IsPermutation}
use Rattle.std.proofs.lemmas.Bool.{and_parts, or_parts}
use Rattle.std.proofs.lemmas.Cmp.{lists_equiv, nat_list_eq_equiv}
use Rattle.std.proofs.lemmas.List.Sorted.{IsPermutation-append_left, IsPermutation-cons, IsPermutation-map, IsPermutation-middle, IsPermutation-refl}
use Rattle.std.proofs.lemmas.List.Sorted.{IsPermutation-sym, IsPermutation-trans}
use Rattle.std.proofs.lemmas.Map.Keys.{IsDistinct-IsPermutation}
use Rattle.std.specs.Cmp.Lexicographic.{bytes_decides}
use Rattle.odb_base.specs.Path.{Name, Path, same_name}
use Rattle.odb_disk.specs.declared.entry.Entry.{Entry}
use Rattle.gix_odb_events.specs.PackFiles.{same_path, HasDifferentPaths}
use Rattle.gix_odb_events.specs.declared.listing.ListingRow.{ListingRow}
use Rattle.gix_odb_search.specs.LongestFirst.{longest_first, put_row, put_rows}
use Rattle.gix_odb_search.specs.PackFolder.{firsts, firsts_without, index_path_in, index_paths, is_file, is_index_entry, is_index_name, is_multi_index_name, multi_index_name, multi_index_path, path_by}
use Rattle.gix_odb_search.proofs.ReachLemmas.{first_or_later, none_in}
use Rattle.gix_odb.proofs.ListerLaws.Lists.{has_first, has_later}
use Rattle.gix_odb.proofs.ListerLaws.Differ.{Differ, Differ-filter, IsDistinct-paths, push_same}
use Rattle.gix_odb_search.specs.declared.folders.IndexPath.{IndexPath}
use Rattle.gix_odb_search.specs.declared.folders.IndexPath.TheVariants as files
use Rattle.gix_odb_search.specs.MultiPack.{is_among, named_in, unnamed}

-- ---- the entries of a folder, each by its first name

abbrev names_of : List Entry → List Name
names_of entries = map (λ (entry : Entry). entry.name) entries

abbrev first_of : Bool → List Name → Entry → List Entry → List Entry
first_of known names entry entries = cond known (firsts_without names entries) (entry ∷ firsts_without (entry.name ∷ names) entries)

abbrev AreNew : List Name → List Entry → Type 0
AreNew names firsts = (name : Name) → Contains (names_of firsts) name → list_any (same_name name) names ≡ false

first_new : (names : List Name) (entry : Entry) (entries : List Entry) → AreNew names (firsts_without names entries)
    → AreNew (entry.name ∷ names) (firsts_without (entry.name ∷ names) entries) → (b : Bool) → list_any (same_name entry.name) names ≡ b
    → AreNew names (first_of b names entry entries)
first_new names entry entries more less true known name here = more name here
first_new names entry entries more less false new name here =
    elim (first_or_later entry.name (names_of (firsts_without (entry.name ∷ names) entries)) name here) [
      | inl is ↦ subst (λ (other : Name). list_any (same_name other) names ≡ false) is new
      | inr later ↦ (or_parts (same_name name entry.name) (list_any (same_name name) names) (less name later)).1
    ]

-- none of them has a name that is passed over
firsts_new : (names : List Name) (entries : List Entry) → AreNew names (firsts_without names entries)
firsts_new names [] = λ name among. absurd (none_in name among)
firsts_new names (entry ∷ entries) =
    first_new names entry entries (firsts_new names entries) (firsts_new (entry.name ∷ names) entries) (list_any (same_name entry.name) names) refl

first_differs : (names : List Name) (entry : Entry) (entries : List Entry) → Differ (names_of (firsts_without names entries))
    → Differ (names_of (firsts_without (entry.name ∷ names) entries)) → (b : Bool) → Differ (names_of (first_of b names entry entries))
first_differs names entry entries more less true = more
first_differs names entry entries more less false = (others, less)
  where
    others : (name : Name) → Contains (names_of (firsts_without (entry.name ∷ names) entries)) name → ¬ (entry.name ≡ name)
    others name among same =
        let apart : same_name name entry.name ≡ false =
        (or_parts (same_name name entry.name) (list_any (same_name name) names) (firsts_new (entry.name ∷ names) entries name among)).0 in
        let own : same_name name entry.name ≡ true = ap (same_name name) same ∙ nat_list_eq_equiv.refl name in
        let wrong : true ≡ false = sym own ∙ apart in
        cc wrong

-- and no two have one name
firsts_differ : (names : List Name) (entries : List Entry) → Differ (names_of (firsts_without names entries))
firsts_differ names [] = tt
firsts_differ names (entry ∷ entries) =
    first_differs names entry entries (firsts_differ names entries) (firsts_differ (entry.name ∷ names) entries) (list_any (same_name entry.name) names)

-- ---- the indices among them

-- a path of the folder by one of these names
pub record IsOfName (folder : Path) (names : List Name) (path : Path) : Type 0 where
  pub name : Name
  pub among : Contains names name
  pub is : path ≡ folder ++ name ∷ []

-- the path of an index of a folder, or of its multi-pack index
abbrev pub path_in : (folder : Path) → IndexPath → Path
path_in folder (files.Single path) = path
path_in folder files.Multi = multi_index_path folder

module _ (multi : Bool) (folder : Path) where
  abbrev paths_of : List Entry → List Path
  paths_of entries = map (λ (entry : Entry). folder ++ entry.name ∷ []) (filter (is_index_entry multi) entries)

  -- an entry is listed by its own name
  own_name : (entry : Entry) → is_index_entry multi entry ≡ true → path_in folder (index_path_in folder entry) ≡ folder ++ entry.name ∷ []
  own_name entry passes = by (is_index_name entry.name) refl
    where
      named : (is_index_name entry.name || (multi && is_multi_index_name entry.name)) ≡ true
      named = (and_parts (is_file entry.kind) (is_index_name entry.name || (multi && is_multi_index_name entry.name)) passes).1

      by : (index : Bool) → is_index_name entry.name ≡ index → path_in folder (path_by index folder entry.name) ≡ folder ++ entry.name ∷ []
      by true is = refl
      by false is =
          let multi_named : (multi && is_multi_index_name entry.name) ≡ true = sym (ap (λ (b : Bool). b || (multi && is_multi_index_name entry.name)) is) ∙ named in
          let same : same_name entry.name multi_index_name ≡ true = (and_parts multi (is_multi_index_name entry.name) multi_named).1 in
          ap (λ (name : Name). folder ++ name ∷ []) (sym ((bytes_decides entry.name multi_index_name).0 same))

  own_names : (entries : List Entry) → map (path_in folder) (map (index_path_in folder) (filter (is_index_entry multi) entries)) ≡ paths_of entries
  own_names [] = refl
  own_names (entry ∷ entries) = by (is_index_entry multi entry) refl (own_names entries)
    where
      kept : List Entry
      kept = filter (is_index_entry multi) entries

      by : (b : Bool) → is_index_entry multi entry ≡ b → map (path_in folder) (map (index_path_in folder) kept) ≡ map (λ (e : Entry). folder ++ e.name ∷ []) kept
          → map (path_in folder) (map (index_path_in folder) (cond b (entry ∷ kept) kept)) ≡ map (λ (e : Entry). folder ++ e.name ∷ []) (cond b (entry ∷ kept) kept)
      by true passes more = cc (own_name entry passes, more)
      by false passes more = more

  abbrev first_path : Bool → Entry → List Entry → List Path
  first_path kept entry entries =
      map (λ (e : Entry). folder ++ e.name ∷ []) (cond kept (entry ∷ filter (is_index_entry multi) entries) (filter (is_index_entry multi) entries))

  abbrev AreNamed : List Name → List Path → Type 0
  AreNamed names paths = (path : Path) → Contains paths path → IsOfName folder names path

  one_more : (entry : Entry) (entries : List Entry) (path : Path) → IsOfName folder (names_of entries) path
      → IsOfName folder (names_of (entry ∷ entries)) path
  one_more entry entries path of = record { name = of.name; among = has_later entry.name (names_of entries) of.name of.among; is = of.is }

  path_named : (entry : Entry) (entries : List Entry) → AreNamed (names_of entries) (paths_of entries) → (b : Bool)
      → AreNamed (names_of (entry ∷ entries)) (first_path b entry entries)
  path_named entry entries named false path here = one_more entry entries path (named path here)
  path_named entry entries named true path here =
      elim (first_or_later (folder ++ entry.name ∷ []) (paths_of entries) path here) [
        | inl is ↦ record { name = entry.name; among = has_first entry.name (names_of entries); is = sym is }
        | inr later ↦ one_more entry entries path (named path later)
      ]

  paths_named : (entries : List Entry) → AreNamed (names_of entries) (paths_of entries)
  paths_named [] = λ path among. absurd (none_in path among)
  paths_named (entry ∷ entries) = path_named entry entries (paths_named entries) (is_index_entry multi entry)

  path_differs : (entry : Entry) (entries : List Entry) → Differ (names_of (entry ∷ entries)) → Differ (paths_of entries) → (b : Bool)
      → Differ (first_path b entry entries)
  path_differs entry entries differ more true = (others, more)
    where
      others : (path : Path) → Contains (paths_of entries) path → ¬ (folder ++ entry.name ∷ [] ≡ path)
      others path among same =
          let of = paths_named entries path among in
          differ.0 of.name of.among (push_same folder folder entry.name of.name (same ∙ of.is)).1
  path_differs entry entries differ more false = more

  paths_differ : (entries : List Entry) → Differ (names_of entries) → Differ (paths_of entries)
  paths_differ [] differ = tt
  paths_differ (entry ∷ entries) differ = path_differs entry entries differ (paths_differ entries differ.1) (is_index_entry multi entry)

  -- the paths of the indices of a folder differ
  pub index_paths_differ : (entries : List Entry) → Differ (map (path_in folder) (index_paths multi folder entries))
  index_paths_differ entries = subst Differ (sym (own_names (firsts entries))) (paths_differ (firsts entries) (firsts_differ [] entries))

  -- and each is of the folder
  pub index_paths_of_folder : (entries : List Entry) (path : Path) → Contains (map (path_in folder) (index_paths multi folder entries)) path
      → IsOfName folder (names_of (firsts entries)) path
  index_paths_of_folder entries path among =
      paths_named (firsts entries) path (subst (λ (paths : List Path). Contains paths path) (own_names (firsts entries)) among)

-- ---- rows in order

row_put_by : (row other : ListingRow) (rows : List ListingRow) → IsPermutation (row ∷ rows) (put_row row rows) → (b : Bool)
    → IsPermutation (row ∷ other ∷ rows) (cond b (row ∷ other ∷ rows) (other ∷ put_row row rows))
row_put_by row other rows more true = IsPermutation-refl (row ∷ other ∷ rows)
row_put_by row other rows more false =
    IsPermutation-trans (row ∷ other ∷ rows) (other ∷ row ∷ rows) (other ∷ put_row row rows)
    (IsPermutation-sym (other ∷ row ∷ rows) (row ∷ other ∷ rows) (IsPermutation-middle (other ∷ []) row rows))
    (IsPermutation-cons other (row ∷ rows) (put_row row rows) more)

row_put : (row : ListingRow) (rows : List ListingRow) → IsPermutation (row ∷ rows) (put_row row rows)
row_put row [] = IsPermutation-refl (row ∷ [])
row_put row (other ∷ rows) = row_put_by row other rows (row_put row rows) (nat_lt other.len row.len)

rows_put : (ordered rows : List ListingRow) → IsPermutation (ordered ++ rows) (put_rows ordered rows)
rows_put ordered [] = subst (λ (all : List ListingRow). IsPermutation all ordered) (sym (append-nil ordered)) (IsPermutation-refl ordered)
rows_put ordered (row ∷ rows) =
    IsPermutation-trans (ordered ++ row ∷ rows) (row ∷ (ordered ++ rows)) (put_rows (put_row row ordered) rows) (IsPermutation-middle ordered row rows)
    (IsPermutation-trans (row ∷ (ordered ++ rows)) (put_row row ordered ++ rows) (put_rows (put_row row ordered) rows)
    (IsPermutation-append_left rows (row ∷ ordered) (put_row row ordered) (row_put row ordered)) (rows_put (put_row row ordered) rows))

abbrev pub row_paths : List ListingRow → List Path
row_paths rows = map (λ (row : ListingRow). row.path) rows

-- rows whose paths differ have different paths in their order too
pub HasDifferentPaths-longest_first : (rows : List ListingRow) → Differ (row_paths rows) → HasDifferentPaths (longest_first rows)
HasDifferentPaths-longest_first rows differ =
    IsDistinct-IsPermutation same_path (lists_equiv nat_list_eq_equiv).symm (row_paths rows) (row_paths (longest_first rows))
    (IsPermutation-map (λ (row : ListingRow). row.path) rows (longest_first rows) (rows_put [] rows)) (IsDistinct-paths (row_paths rows) differ)

-- so do those of the rows that are left
pub HasDifferentPaths-listed : (rows : List ListingRow) → Differ (row_paths rows) → HasDifferentPaths (longest_first (unnamed rows))
HasDifferentPaths-listed rows differ =
    HasDifferentPaths-longest_first (unnamed rows)
    (Differ-filter (λ (row : ListingRow). row.path) (λ row. is_some row.multi || not (is_among (named_in rows) row.path)) rows differ)

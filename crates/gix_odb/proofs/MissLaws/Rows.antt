-- How a listing uses entries and rows keeps each of them: an index among entries has its path, and a row its place among the ordered ones.
use Rattle.std.proofs.Common.{◌≡◌, ◌⊎◌, inl, inr, ◌&&◌, ◌||◌, Bool, true, false, cond, nat_lt, List, [], ◌∷◌, map, Contains}
use Rattle.std.proofs.Common.{refl, sym, ap, ◌∙◌, subst}
use Rattle.std.specs.Cmp.Lexicographic.{bytes_decides}
use Rattle.std.specs.List.{All, filter, list_any}
use Rattle.std.proofs.lemmas.Bool.{and_from, cases_Bool, cond-true, cond-false, false_from_ne_true}
use Rattle.std.proofs.lemmas.List.Elements.{All-head, All-tail}
use Rattle.odb_base.specs.Path.{Name, Path, same_name}
use Rattle.odb_disk.specs.declared.entry.Entry.{Entry}
use Rattle.odb_disk.specs.declared.meta.Kind.TheVariants as kinds
use Rattle.gix_odb_events.specs.declared.listing.ListingRow.{ListingRow}
use Rattle.gix_odb_search.specs.LongestFirst.{longest_first, put_row, put_rows}
use Rattle.gix_odb_search.specs.PackFolder.{firsts, firsts_without, index_path_in, index_paths, is_file, is_index_entry, is_index_name, is_multi_index_name, path_by}
use Rattle.gix_odb_search.specs.declared.folders.IndexPath.{IndexPath}
use Rattle.gix_odb_search.proofs.ReachLemmas.{first_or_later, none_in}
use Rattle.gix_odb.proofs.MissLaws.Lists.{first_in, later_in}

-- ---- rows, the longest first

own_put : (row : ListingRow) (rows : List ListingRow) → Contains (put_row row rows) row
own_put row [] = first_in row []
own_put row (other ∷ rows) = by (nat_lt other.len row.len) (own_put row rows)
  where
    by : (b : Bool) → Contains (put_row row rows) row → Contains (cond b (row ∷ other ∷ rows) (other ∷ put_row row rows)) row
    by true has = first_in row (other ∷ rows)
    by false has = later_in other (put_row row rows) row has

kept_by_put : (row : ListingRow) (rows : List ListingRow) (kept : ListingRow) → Contains rows kept → Contains (put_row row rows) kept
kept_by_put row [] kept has = absurd (none_in kept has)
kept_by_put row (other ∷ rows) kept has = by (nat_lt other.len row.len) (kept_by_put row rows kept) (first_or_later other rows kept has)
  where
    by : (b : Bool) → (Contains rows kept → Contains (put_row row rows) kept) → (other ≡ kept) ⊎ Contains rows kept
        → Contains (cond b (row ∷ other ∷ rows) (other ∷ put_row row rows)) kept
    by true more at = later_in row (other ∷ rows) kept has
    by false more (inl is) = subst (Contains (other ∷ put_row row rows)) is (first_in other (put_row row rows))
    by false more (inr later) = later_in other (put_row row rows) kept (more later)

kept_by_puts : (rows ordered : List ListingRow) (kept : ListingRow) → Contains ordered kept → Contains (put_rows ordered rows) kept
kept_by_puts [] ordered kept has = has
kept_by_puts (row ∷ rows) ordered kept has = kept_by_puts rows (put_row row ordered) kept (kept_by_put row ordered kept has)

each_put : (rows ordered : List ListingRow) (row : ListingRow) → Contains rows row → Contains (put_rows ordered rows) row
each_put [] ordered row has = absurd (none_in row has)
each_put (first ∷ rows) ordered row has =
    elim (first_or_later first rows row has) [
      | inl is ↦ kept_by_puts rows (put_row first ordered) row (subst (Contains (put_row first ordered)) is (own_put first ordered))
      | inr later ↦ each_put rows (put_row first ordered) row later
    ]

pub longest_first_has : (rows : List ListingRow) (row : ListingRow) → Contains rows row → Contains (longest_first rows) row
longest_first_has rows = each_put rows []

-- ---- the paths of indices

filtered_in : {A : Type 0} (test : A → Bool) (xs : List A) (x : A) → Contains xs x → test x ≡ true → Contains (filter test xs) x
filtered_in test [] x has own = absurd (none_in x has)
filtered_in {A = A} test (y ∷ xs) x has own = by (test y) refl (filtered_in test xs x) (first_or_later y xs x has)
  where
    by : (b : Bool) → test y ≡ b → (Contains xs x → test x ≡ true → Contains (filter test xs) x) → (y ≡ x) ⊎ Contains xs x
        → Contains (cond b (y ∷ filter test xs) (filter test xs)) x
    by true is more (inl same) = subst (Contains (y ∷ filter test xs)) same (first_in y (filter test xs))
    by false is more (inl same) = let wrong : true ≡ false = sym own ∙ ap test (sym same) ∙ is in absurd (cc wrong)
    by true is more (inr later) = later_in y (filter test xs) x (more later own)
    by false is more (inr later) = more later own

mapped_in : {A B : Type 0} (f : A → B) (xs : List A) (x : A) → Contains xs x → Contains (map f xs) (f x)
mapped_in f [] x has = absurd (none_in x has)
mapped_in {B = B} f (y ∷ xs) x has =
    elim (first_or_later y xs x has) [
      | inl is ↦ subst (λ (z : B). Contains (f y ∷ map f xs) z) (ap f is) (first_in (f y) (map f xs))
      | inr later ↦ later_in (f y) (map f xs) (f x) (mapped_in f xs x later)
    ]

module _ (name : Name) where
  -- each entry of the name is a file
  abbrev pub AreFiles : List Entry → Type 0
  AreFiles entries = All (λ (entry : Entry). entry.name ≡ name → entry.kind ≡ kinds.File) entries

  abbrev pub HasName : List Entry → Type 0
  HasName entries = (entry : Entry) × Contains entries entry × (entry.name ≡ name)

  -- a file of the name
  abbrev HasFile : List Entry → Type 0
  HasFile entries = (entry : Entry) × Contains entries entry × (entry.name ≡ name) × (entry.kind ≡ kinds.File)

  abbrev IsNew : List Name → Type 0
  IsNew names = list_any (same_name name) names ≡ false

  has_first : (entry : Entry) (names : List Name) (rest : List Entry) → list_any (same_name entry.name) names ≡ false
      → HasFile (entry ∷ firsts_without (entry.name ∷ names) rest) → HasFile (firsts_without names (entry ∷ rest))
  has_first entry names rest new =
      subst HasFile
      (sym (cond-false (list_any (same_name entry.name) names) (firsts_without names rest) (entry ∷ firsts_without (entry.name ∷ names) rest) new))

  later_file : (entry : Entry) (entries : List Entry) → HasFile entries → HasFile (entry ∷ entries)
  later_file entry entries has = (has.0, later_in entry entries has.0 has.1, has.2, has.3)

  -- after an entry of another name
  module _ (entry : Entry) (rest : List Entry) (names : List Name) (other : same_name entry.name name ≡ false) where
    later_of_name : HasName (entry ∷ rest) → HasName rest
    later_of_name has =
        elim (first_or_later entry rest has.0 has.1) [
          | inl is ↦
              let wrong : true ≡ false = sym ((bytes_decides entry.name name).1 (ap (λ (e : Entry). e.name) is ∙ has.2)) ∙ other in
              absurd (cc wrong)
          | inr more ↦ (has.0, more, has.2)
        ]

    still_new : IsNew names → IsNew (entry.name ∷ names)
    still_new new =
        ap (λ (b : Bool). b || list_any (same_name name) names)
        (false_from_ne_true (same_name name entry.name)
        (λ same.
        let wrong : true ≡ false = sym ((bytes_decides entry.name name).1 (sym ((bytes_decides name entry.name).0 same))) ∙ other in absurd (cc wrong)))
        ∙ new

    kept_behind : IsNew names → HasName (entry ∷ rest) → ((others : List Name) → IsNew others → HasName rest → HasFile (firsts_without others rest))
        → HasFile (firsts_without names (entry ∷ rest))
    kept_behind new has more =
        elim (cases_Bool (list_any (same_name entry.name) names)) [
          | inl known ↦
              subst HasFile
              (sym (cond-true (list_any (same_name entry.name) names) (firsts_without names rest) (entry ∷ firsts_without (entry.name ∷ names) rest) known))
              (more names new (later_of_name has))
          | inr first ↦
              has_first entry names rest first
              (later_file entry (firsts_without (entry.name ∷ names) rest) (more (entry.name ∷ names) (still_new new) (later_of_name has)))
        ]

  -- the first entry of a name is kept
  file_kept : (entries : List Entry) (names : List Name) → IsNew names → HasName entries → AreFiles entries → HasFile (firsts_without names entries)
  file_kept [] names new has files = absurd (none_in has.0 has.1)
  file_kept (entry ∷ rest) names new has files =
      let more_files = All-tail (λ (e : Entry). e.name ≡ name → e.kind ≡ kinds.File) entry rest files in
      elim (cases_Bool (same_name entry.name name)) [
        | inl same ↦
            let is : entry.name ≡ name = (bytes_decides entry.name name).0 same in
            has_first entry names rest (ap (λ (n : Name). list_any (same_name n) names) is ∙ new) (
              entry,
              first_in entry (firsts_without (entry.name ∷ names) rest),
              is,
              All-head (λ (e : Entry). e.name ≡ name → e.kind ≡ kinds.File) entry rest files is,
            )
        | inr other ↦ kept_behind entry rest names other new has (λ others fresh later. file_kept rest others fresh later more_files)
      ]

  -- an entry of the name that is kept has its path, if it is an index or the multi-pack index
  pub path_kept : (multi : Bool) (folder : Path) (entries : List Entry) (path : IndexPath) → (is_index_name name || (multi && is_multi_index_name name)) ≡ true
      → path_by (is_index_name name) folder name ≡ path → HasName entries → AreFiles entries → Contains (index_paths multi folder entries) path
  path_kept multi folder entries path named is has files =
      let kept = file_kept entries [] refl has files in
      let passes : is_index_entry multi kept.0 ≡ true =
      and_from (is_file kept.0.kind) _ (ap is_file kept.3)
      (ap (λ (n : Name). is_index_name n || (multi && is_multi_index_name n)) kept.2 ∙ named) in
      let at : index_path_in folder kept.0 ≡ path = ap (λ (n : Name). path_by (is_index_name n) folder n) kept.2 ∙ is in
      subst (λ (p : IndexPath). Contains (index_paths multi folder entries) p) at
      (mapped_in (index_path_in folder) (filter (is_index_entry multi) (firsts entries)) kept.0
      (filtered_in (is_index_entry multi) (firsts entries) kept.0 kept.1 passes))

-- The indices that multi-pack indices name, one name and one row after another.
use Rattle.std.proofs.Common.{◌≡◌, ℕ, ◌+◌, ◌<◌, Bool, not, ◌||◌, List, [], ◌∷◌, ◌++◌, length, map, drop, get_or, is_some, sym, ap, ◌∙◌}
use Rattle.std.proofs.Math.Bool.{or_assoc}
use Rattle.std.proofs.lemmas.List.{drop_more}
use Rattle.std.proofs.lemmas.List.Folds.{list_any-append}
use Rattle.std.specs.BTreeSet.{BTreeSet, contains}
use Rattle.odb_base.specs.Path.{Name, Path, path_cmp}
use Rattle.gix_odb_events.specs.PackFiles.{same_path}
use Rattle.gix_odb_events.specs.declared.listing.ListingRow.{ListingRow}
use Rattle.gix_odb_search.specs.MultiPack.{index_in, is_among, named_in, paths_named}

-- some paths are put among others, and the rest is still to be put
put_first : (first rest : List Path) (path : Path) (had has : Bool) → has ≡ (had || is_among first path)
    → (has || is_among rest path) ≡ (had || is_among (first ++ rest) path)
put_first first rest path had has put =
    ap (λ (b : Bool). b || is_among rest path) put ∙ or_assoc had (is_among first path) (is_among rest path)
    ∙ ap (λ (b : Bool). had || b) (sym (list_any-append (λ (own : Path). same_path own path) first rest))

cut : {X : Type 0} (xs : List X) (i : ℕ) (x : X) → i < length xs → x ≡ get_or xs i x → drop i xs ≡ x ∷ drop (i + 1) xs
cut {X} xs i x within is = drop_more xs i x within ∙ ap (λ (first : X). first ∷ drop (i + 1) xs) (sym is)

-- a name of a multi-pack index is put
pub name_put : (folder : Path) (names : List Name) (i : ℕ) (name : Name) → i < length names → name ≡ get_or names i name → (path : Path) (had has whole : Bool)
    → (had || is_among (map (index_in folder) (drop i names)) path) ≡ whole → has ≡ (had || is_among (index_in folder name ∷ []) path)
    → (has || is_among (map (index_in folder) (drop (i + 1) names)) path) ≡ whole
name_put folder names i name within is path had has whole so_far put =
    put_first (index_in folder name ∷ []) (map (index_in folder) (drop (i + 1) names)) path had has put
    ∙ ap (λ (left : List Name). had || is_among (map (index_in folder) left) path) (sym (cut names i name within is)) ∙ so_far

-- the names of a row are put
pub row_put : (rows : List ListingRow) (i : ℕ) (row : ListingRow) → i < length rows → row ≡ get_or rows i row → (path : Path) (had has whole : Bool)
    → (had || is_among (named_in (drop i rows)) path) ≡ whole → has ≡ (had || is_among (paths_named row.path row.multi) path)
    → (has || is_among (named_in (drop (i + 1) rows)) path) ≡ whole
row_put rows i row within is path had has whole so_far put =
    put_first (paths_named row.path row.multi) (named_in (drop (i + 1) rows)) path had has put
    ∙ ap (λ (left : List ListingRow). had || is_among (named_in left) path) (sym (cut rows i row within is)) ∙ so_far

-- a row stays by a set of the paths that are named
pub row_stays : (named : BTreeSet Path) (rows : List ListingRow) → ((path : Path) → contains path_cmp named path ≡ is_among (named_in rows) path)
    → (row : ListingRow) (stays : Bool) → stays ≡ (is_some row.multi || not (contains path_cmp named row.path))
    → stays ≡ (is_some row.multi || not (is_among (named_in rows) row.path))
row_stays named rows are row stays is = is ∙ ap (λ (b : Bool). is_some row.multi || not b) (are row.path)

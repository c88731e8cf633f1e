-- Laws of rows from which the indices are left out that a multi-pack index among them names.
use Rattle.std.proofs.Common.{◌≡◌, ◌⊎◌, inl, inr, ℕ, zero, suc, Bool, true, false, cond, not, ◌||◌, List, [], ◌∷◌, All, Contains, Option, Some, None, is_some}
use Rattle.std.proofs.Common.{refl, sym, ap, ◌∙◌, subst, arith}
use Rattle.std.specs.List.{filter}
use Rattle.std.proofs.lemmas.List.Elements.{All-filter}
use Rattle.std.proofs.lemmas.List.Folds.{list_any-append}
use Rattle.odb_base.specs.Path.{Path}
use Rattle.gix_odb_events.specs.PackFiles.{same_path}
use Rattle.gix_odb_events.specs.declared.listing.ListingRow.{ListingRow}
use Rattle.gix_odb_search.specs.MultiPack.{is_among, named_in, paths_named, unnamed}
use Rattle.gix_odb_search.proofs.ReachLemmas.{first_or_later, none_in}

-- a row stays among others where these indices are named
abbrev stays : List Path → ListingRow → Bool
stays named row = is_some row.multi || not (is_among named row.path)

-- what holds of rows holds of those that are left
pub unnamed_are : (P : ListingRow → Type 0) (rows : List ListingRow) → All P rows → All P (unnamed rows)
unnamed_are P rows all = All-filter (stays (named_in rows)) P rows all

-- ---- elements

first_in : {A : Type 0} (x : A) (xs : List A) → Contains (x ∷ xs) x
first_in x xs = (zero, omega arith, refl)

later_in : {A : Type 0} (x : A) (xs : List A) (y : A) → Contains xs y → Contains (x ∷ xs) y
later_in x xs y (k, within, is) = (suc k, omega (arith, within), is)

-- an element that passes a test is kept by it
pub kept_by_test : {A : Type 0} (test : A → Bool) (xs : List A) (x : A) → Contains xs x → test x ≡ true → Contains (filter test xs) x
kept_by_test test [] x has own = absurd (none_in x has)
kept_by_test {A = A} test (y ∷ xs) x has own = by (test y) refl (kept_by_test test xs x) (first_or_later y xs x has)
  where
    by : (b : Bool) → test y ≡ b → (Contains xs x → test x ≡ true → Contains (filter test xs) x) → (y ≡ x) ⊎ Contains xs x
        → Contains (cond b (y ∷ filter test xs) (filter test xs)) x
    by true is more (inl same) = subst (Contains (y ∷ filter test xs)) same (first_in y (filter test xs))
    by false is more (inl same) = let wrong : true ≡ false = sym own ∙ ap test (sym same) ∙ is in absurd (cc wrong)
    by true is more (inr later) = later_in y (filter test xs) x (more later own)
    by false is more (inr later) = more later own

-- ---- an index is left, or a multi-pack index that is left names it

or_cases : (a b : Bool) → (a || b) ≡ true → (a ≡ true) ⊎ (b ≡ true)
or_cases true b is = inl refl
or_cases false b is = inr is

or_true : (b : Bool) → (b || true) ≡ true
or_true true = refl
or_true false = refl

-- a multi-pack index among rows names this path
pub record IsNamedIn (rows : List ListingRow) (path : Path) : Type 0 where
  pub row : ListingRow
  pub among : Contains rows row
  pub names : is_among (paths_named row.path row.multi) path ≡ true

named_by : (rows : List ListingRow) (path : Path) → is_among (named_in rows) path ≡ true → IsNamedIn rows path
named_by [] path is = absurd (cc is)
named_by (row ∷ rows) path is =
    elim (or_cases (is_among (paths_named row.path row.multi) path) (is_among (named_in rows) path)
    (sym (list_any-append (λ (own : Path). same_path own path) (paths_named row.path row.multi) (named_in rows)) ∙ is)) [
      | inl here ↦ record { row = row; among = first_in row rows; names = here }
      | inr later ↦ let found = named_by rows path later in record { row = found.row; among = later_in row rows found.row found.among; names = found.names }
    ]

-- only a multi-pack index names paths
has_multi : (path : Path) (multi : Option (List ℕ)) (other : Path) → is_among (paths_named path multi) other ≡ true → is_some multi ≡ true
has_multi path None other is = absurd (cc is)
has_multi path (Some bytes) other is = refl

-- a multi-pack index stays
pub multi_stays : (rows : List ListingRow) (row : ListingRow) → Contains rows row → is_some row.multi ≡ true → Contains (unnamed rows) row
multi_stays rows row has multi =
    kept_by_test (stays (named_in rows)) rows row has (ap (λ (b : Bool). b || not (is_among (named_in rows) row.path)) multi)

pub stays_or_named : (rows : List ListingRow) (row : ListingRow) → Contains rows row → Contains (unnamed rows) row ⊎ IsNamedIn (unnamed rows) row.path
stays_or_named rows row has = by (is_among (named_in rows) row.path) refl
  where
    by : (named : Bool) → is_among (named_in rows) row.path ≡ named → Contains (unnamed rows) row ⊎ IsNamedIn (unnamed rows) row.path
    by false is = inl (kept_by_test (stays (named_in rows)) rows row has (ap (λ (b : Bool). is_some row.multi || not b) is ∙ or_true (is_some row.multi)))
    by true is =
        let found = named_by rows row.path is in
        let multi = has_multi found.row.path found.row.multi row.path found.names in
        inr (record { row = found.row; among = multi_stays rows found.row found.among multi; names = found.names })

-- A search among indices, by the first of them and what is left after it.
use Rattle.std.proofs.Common.{◌≡◌, ◌<◌, List, [], ◌∷◌, drop, length, Some, None, refl, sym, ap, ◌∙◌, arith}
use Rattle.std.proofs.lemmas.Option.{same_Some}
use Rattle.gix_odb_events.specs.Shown.{first_of}
use Rattle.gix_odb_events.specs.declared.loaded.SnapshotIndex.{SnapshotIndex}
use Rattle.gix_odb_search.specs.Search.{left_by, rest_behind, search, tried}
use Rattle.gix_odb_search.specs.Search as order
use Rattle.gix_odb_search.specs.declared.goal.Goal.{Goal}
use Rattle.gix_odb_search.specs.declared.search.AbsentFile.{AbsentFile}
use Rattle.gix_odb_search.specs.declared.search.Sought.{Sought}
use Rattle.gix_odb_search.specs.declared.search.Sought.TheVariants.{Nowhere, Finds, Fails, Wants}

first_kept : (found further : Sought) → (found ≡ Nowhere → ⊥) → found ≡ order.first_of found further
first_kept Nowhere further other = absurd (other refl)
first_kept (Finds found) further other = refl
first_kept (Fails error) further other = refl
first_kept (Wants pack) further other = refl

left_kept : (found : Sought) (rest further : List SnapshotIndex) → (found ≡ Nowhere → ⊥) → rest ≡ left_by found rest further
left_kept Nowhere rest further other = absurd (other refl)
left_kept (Finds found) rest further other = refl
left_kept (Fails error) rest further other = refl
left_kept (Wants pack) rest further other = refl

pub shorter : (index : SnapshotIndex) (items : List SnapshotIndex) → Some index ≡ first_of items → length (drop 1 items) < length items
shorter index [] is = cc is
shorter index (first ∷ items) is = omega arith

module _ (goal : Goal) (absent : List AbsentFile) (index : SnapshotIndex) where
  -- an index with nothing is skipped
  pub search_on : (items : List SnapshotIndex) → Some index ≡ first_of items → tried goal absent index ≡ Nowhere
      → search goal absent (drop 1 items) ≡ search goal absent items
  search_on [] is nowhere = refl
  search_on (first ∷ items) is nowhere =
      sym (ap (λ (found : Sought). order.first_of found (search goal absent items)) (sym (ap (tried goal absent) (same_Some index first is)) ∙ nowhere))

  pub rest_on : (items : List SnapshotIndex) → Some index ≡ first_of items → tried goal absent index ≡ Nowhere
      → rest_behind goal absent (drop 1 items) ≡ rest_behind goal absent items
  rest_on [] is nowhere = refl
  rest_on (first ∷ items) is nowhere =
      sym (ap (λ (found : Sought). left_by found items (rest_behind goal absent items)) (sym (ap (tried goal absent) (same_Some index first is)) ∙ nowhere))

  -- the search ends at an index with something
  pub search_at : (items : List SnapshotIndex) → Some index ≡ first_of items → (tried goal absent index ≡ Nowhere → ⊥)
      → tried goal absent index ≡ search goal absent items
  search_at [] is other = cc is
  search_at (first ∷ items) is other =
      first_kept (tried goal absent index) (search goal absent items) other
      ∙ ap (λ (own : SnapshotIndex). order.first_of (tried goal absent own) (search goal absent items)) (same_Some index first is)

  pub rest_at : (items : List SnapshotIndex) → Some index ≡ first_of items → (tried goal absent index ≡ Nowhere → ⊥)
      → drop 1 items ≡ rest_behind goal absent items
  rest_at [] is other = refl
  rest_at (first ∷ items) is other =
      left_kept (tried goal absent index) items (rest_behind goal absent items) other
      ∙ ap (λ (own : SnapshotIndex). left_by (tried goal absent own) items (rest_behind goal absent items)) (same_Some index first is)

module _ (goal : Goal) (absent : List AbsentFile) where
  -- where no index is left, nothing is found
  pub search_end : (items : List SnapshotIndex) → None ≡ first_of items → Nowhere ≡ search goal absent items
  search_end [] is = refl
  search_end (first ∷ items) is = cc is

  pub rest_end : (items : List SnapshotIndex) → None ≡ first_of items → drop 1 items ≡ rest_behind goal absent items
  rest_end [] is = refl
  rest_end (first ∷ items) is = cc is

-- A table of rows mapped to other rows with the same ids.
use Rattle.std.proofs.Common.{◌≡◌, List, [], ◌∷◌, map, Ordering, Less, Equal, Greater, refl, ap, ◌∙◌}
use Rattle.std.specs.Ordering.{match_ordering}
use Rattle.gix_hash.specs.ObjectId.{id_cmp}
use Rattle.gix_hash.specs.declared.object_id.ObjectId.{ObjectId}
use Rattle.gix_pack_write.specs.WrittenTables.{put_row, table_of}

-- ---- rows mapped to others with the same ids

module _ {A B : Type 0} (see : A → B) (id_a : A → ObjectId) (id_b : B → ObjectId) (same : (a : A) → id_b (see a) ≡ id_a a) where
  seen_by : (o : Ordering) (row other : A) (rows rest : List A) (rest_seen : List B) → map see rest ≡ rest_seen
      → map see (match_ordering o (row ∷ other ∷ rows) (row ∷ rows) (other ∷ rest)) ≡ match_ordering o (see row ∷ see other ∷ map see rows) (see row ∷ map see rows) (see other ∷ rest_seen)
  seen_by Less row other rows rest rest_seen is = refl
  seen_by Equal row other rows rest rest_seen is = refl
  seen_by Greater row other rows rest rest_seen is = ap (λ (bs : List B). see other ∷ bs) is

  map-put_row : (row : A) (rows : List A) → map see (put_row id_a row rows) ≡ put_row id_b (see row) (map see rows)
  map-put_row row [] = refl
  map-put_row row (other ∷ rows) =
      let one = same row in
      let two = same other in
      rw (one, two) (seen_by (id_cmp (id_a row) (id_a other)) row other rows (put_row id_a row rows) (put_row id_b (see row) (map see rows)) (map-put_row row rows))

  pub map-table_of : (given : List A) → map see (table_of id_a given) ≡ table_of id_b (map see given)
  map-table_of [] = refl
  map-table_of (row ∷ given) = map-put_row row (table_of id_a given) ∙ ap (put_row id_b (see row)) (map-table_of given)

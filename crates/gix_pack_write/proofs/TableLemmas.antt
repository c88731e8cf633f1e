-- Tables of rows: their ids rise, each given id is there, and of rows with the same id the first is taken.
pub mod Inserted
pub mod Seen
use Rattle.std.proofs.Common.{◌≡◌, ℕ, zero, suc, ◌<◌, ◌≤◌, ◌⊎◌, inl, inr, true, false, List, [], ◌∷◌, ◌++◌, length, map, Some, Ordering, Less, Equal, Greater, refl, sym, ap, subst, ◌∙◌, arith}
use Rattle.std.specs.Prelude.{slice_index_or}
use Rattle.std.specs.List.{All, AllByRecursion, Contains, find}
use Rattle.std.specs.Ordering.{is_eq, match_ordering}
use Rattle.std.proofs.lemmas.Cmp.{tied_itself}
use Rattle.std.proofs.lemmas.List.Elements.{All-cons, All-nil, All-weaker, All-from_recursion}
use Rattle.gix_hash.specs.ObjectId.{id_cmp}
use Rattle.gix_hash.specs.declared.object_id.ObjectId.{ObjectId}
use Rattle.gix_hash.proofs.IdOrderLaws.{id_order, same_id}
use Rattle.gix_pack_read.specs.Rows.{is_rising}
use Rattle.gix_pack_write.specs.WrittenTables.{put_all, put_row, table_of, IsTableOf}
use Rattle.gix_pack_read.proofs.RisingLemmas.{back, none_rise, rising_apart, rising_one, rising_pair}

-- ---- laws of tables

module _ {X : Type 0} where
  contains_first : (x : X) (xs : List X) → Contains (x ∷ xs) x
  contains_first x xs = (0, omega arith, refl)

  contains_behind : (x : X) (xs : List X) (y : X) → Contains xs y → Contains (x ∷ xs) y
  contains_behind x xs y h = let below = h.1 in (suc h.0, omega arith, h.2)

  contains_at : (x : X) (xs : List X) (y : X) (k : ℕ) → k < suc (length xs) → slice_index_or (x ∷ xs) k y ≡ y → (x ≡ y) ⊎ Contains xs y
  contains_at x xs y zero below is = inl is
  contains_at x xs y (suc k) below is = inr (k, omega arith, is)

module _ {R : Type 0} (id_in : R → ObjectId) where
  abbrev ids : List R → List ObjectId
  ids = map id_in

  pub put_all_push : (given : List R) (row : R) (rows : List R) → put_all id_in (given ++ row ∷ []) rows ≡ put_all id_in given (put_row id_in row rows)
  put_all_push [] row rows = refl
  put_all_push (first ∷ given) row rows = ap (put_row id_in first) (put_all_push given row rows)

  -- ---- how many rows

  length_by : (o : Ordering) (row other : R) (rows rest : List R) → length rest ≤ suc (length rows)
      → length (match_ordering o (row ∷ other ∷ rows) (row ∷ rows) (other ∷ rest)) ≤ suc (suc (length rows))
  length_by Less row other rows rest h = omega arith
  length_by Equal row other rows rest h = omega arith
  length_by Greater row other rows rest h = omega arith

  length-put_row : (row : R) (rows : List R) → length (put_row id_in row rows) ≤ suc (length rows)
  length-put_row row [] = omega arith
  length-put_row row (other ∷ rows) = length_by (id_cmp (id_in row) (id_in other)) row other rows (put_row id_in row rows) (length-put_row row rows)

  pub length-table_of : (given : List R) → length (table_of id_in given) ≤ length given
  length-table_of [] = omega arith
  length-table_of (row ∷ given) =
      let rest = length-table_of given in
      let one = length-put_row row (table_of id_in given) in
      omega arith

  -- ---- properties of each row

  each_by : (P : R → Type 0) (o : Ordering) (row other : R) (rows rest : List R) → P row → P other → AllByRecursion P rows → AllByRecursion P rest
      → AllByRecursion P (match_ordering o (row ∷ other ∷ rows) (row ∷ rows) (other ∷ rest))
  each_by P Less row other rows rest own its all more = (own, (its, all))
  each_by P Equal row other rows rest own its all more = (own, all)
  each_by P Greater row other rows rest own its all more = (its, more)

  each_put : (P : R → Type 0) (row : R) (rows : List R) → P row → AllByRecursion P rows → AllByRecursion P (put_row id_in row rows)
  each_put P row [] own all = (own, tt)
  each_put P row (other ∷ rows) own all =
      each_by P (id_cmp (id_in row) (id_in other)) row other rows (put_row id_in row rows) own all.0 all.1 (each_put P row rows own all.1)

  pub each_of_table : (P : R → Type 0) (given : List R) → AllByRecursion P given → AllByRecursion P (table_of id_in given)
  each_of_table P [] all = tt
  each_of_table P (row ∷ given) all = each_put P row (table_of id_in given) all.0 (each_of_table P given all.1)

  -- ---- the ids rise

  rising_by : (o : Ordering) (id : ObjectId) (row other : R) (rows rest : List R) → id_cmp (id_in row) (id_in other) ≡ o
      → id_cmp id (id_in row) ≡ Less → is_rising (id ∷ ids (other ∷ rows)) ≡ true
      → (id_cmp (id_in other) (id_in row) ≡ Less → is_rising (id_in other ∷ ids rest) ≡ true)
      → is_rising (id ∷ ids (match_ordering o (row ∷ other ∷ rows) (row ∷ rows) (other ∷ rest))) ≡ true
  rising_by Less id row other rows rest is below rising more =
      rising_pair id (id_in row) (ids (other ∷ rows)) below (rising_pair (id_in row) (id_in other) (ids rows) is (rising_apart id (id_in other) (ids rows) rising).1)
  rising_by Equal id row other rows rest is below rising more =
      rising_pair id (id_in row) (ids rows) below
      (subst (λ (first : ObjectId). is_rising (first ∷ ids rows) ≡ true) (sym (same_id (id_in row) (id_in other) is)) (rising_apart id (id_in other) (ids rows) rising).1)
  rising_by Greater id row other rows rest is below rising more =
      rising_pair id (id_in other) (ids rest) (rising_apart id (id_in other) (ids rows) rising).0 (more (back (id_in row) (id_in other) is))

  -- below a lower id
  rising_put : (id : ObjectId) (row : R) (rows : List R) → id_cmp id (id_in row) ≡ Less → is_rising (id ∷ ids rows) ≡ true → is_rising (id ∷ ids (put_row id_in row rows)) ≡ true
  rising_put id row [] below rising = rising_pair id (id_in row) [] below (rising_one (id_in row))
  rising_put id row (other ∷ rows) below rising =
      rising_by (id_cmp (id_in row) (id_in other)) id row other rows (put_row id_in row rows) refl below rising
      (λ up. rising_put (id_in other) row rows up (rising_apart id (id_in other) (ids rows) rising).1)

  first_by : (o : Ordering) (row other : R) (rows rest : List R) → id_cmp (id_in row) (id_in other) ≡ o → is_rising (ids (other ∷ rows)) ≡ true
      → (id_cmp (id_in other) (id_in row) ≡ Less → is_rising (id_in other ∷ ids rest) ≡ true)
      → is_rising (ids (match_ordering o (row ∷ other ∷ rows) (row ∷ rows) (other ∷ rest))) ≡ true
  first_by Less row other rows rest is rising more = rising_pair (id_in row) (id_in other) (ids rows) is rising
  first_by Equal row other rows rest is rising more = subst (λ (first : ObjectId). is_rising (first ∷ ids rows) ≡ true) (sym (same_id (id_in row) (id_in other) is)) rising
  first_by Greater row other rows rest is rising more = more (back (id_in row) (id_in other) is)

  rising_first : (row : R) (rows : List R) → is_rising (ids rows) ≡ true → is_rising (ids (put_row id_in row rows)) ≡ true
  rising_first row [] rising = rising_one (id_in row)
  rising_first row (other ∷ rows) rising =
      first_by (id_cmp (id_in row) (id_in other)) row other rows (put_row id_in row rows) refl rising (λ up. rising_put (id_in other) row rows up rising)

  pub rising-table_of : (given : List R) → is_rising (ids (table_of id_in given)) ≡ true
  rising-table_of [] = none_rise
  rising-table_of (row ∷ given) = rising_first row (table_of id_in given) (rising-table_of given)

  -- ---- each id is there

  there_by : (o : Ordering) (row other : R) (rows rest : List R) → Contains (ids rest) (id_in row)
      → Contains (ids (match_ordering o (row ∷ other ∷ rows) (row ∷ rows) (other ∷ rest))) (id_in row)
  there_by Less row other rows rest h = contains_first (id_in row) (ids (other ∷ rows))
  there_by Equal row other rows rest h = contains_first (id_in row) (ids rows)
  there_by Greater row other rows rest h = contains_behind (id_in other) (ids rest) (id_in row) h

  there : (row : R) (rows : List R) → Contains (ids (put_row id_in row rows)) (id_in row)
  there row [] = contains_first (id_in row) []
  there row (other ∷ rows) = there_by (id_cmp (id_in row) (id_in other)) row other rows (put_row id_in row rows) (there row rows)

  kept_by : (o : Ordering) (row other : R) (rows rest : List R) (id : ObjectId) → id_cmp (id_in row) (id_in other) ≡ o → (id_in other ≡ id) ⊎ Contains (ids rows) id
      → (Contains (ids rows) id → Contains (ids rest) id)
      → Contains (ids (match_ordering o (row ∷ other ∷ rows) (row ∷ rows) (other ∷ rest))) id
  kept_by Less row other rows rest id is (inl own) more = contains_behind (id_in row) (ids (other ∷ rows)) id
      (subst (λ (i : ObjectId). Contains (ids (other ∷ rows)) i) own (contains_first (id_in other) (ids rows)))
  kept_by Less row other rows rest id is (inr h) more = contains_behind (id_in row) (ids (other ∷ rows)) id (contains_behind (id_in other) (ids rows) id h)
  kept_by Equal row other rows rest id is (inl own) more = subst (λ (i : ObjectId). Contains (ids (row ∷ rows)) i) (same_id (id_in row) (id_in other) is ∙ own) (contains_first (id_in row) (ids rows))
  kept_by Equal row other rows rest id is (inr h) more = contains_behind (id_in row) (ids rows) id h
  kept_by Greater row other rows rest id is (inl own) more = subst (λ (i : ObjectId). Contains (ids (other ∷ rest)) i) own (contains_first (id_in other) (ids rest))
  kept_by Greater row other rows rest id is (inr h) more = contains_behind (id_in other) (ids rest) id (more h)

  kept : (row : R) (rows : List R) (id : ObjectId) → Contains (ids rows) id → Contains (ids (put_row id_in row rows)) id
  kept row [] id h = contains_behind (id_in row) [] id h
  kept row (other ∷ rows) id h =
      kept_by (id_cmp (id_in row) (id_in other)) row other rows (put_row id_in row rows) id refl
      (contains_at (id_in other) (ids rows) id h.0 h.1 h.2) (λ behind. kept row rows id behind)

  has_each : (given : List R) → All (λ (row : R). Contains (ids (table_of id_in given)) (id_in row)) given
  has_each [] = All-nil (λ (row : R). Contains (ids []) (id_in row))
  has_each (row ∷ given) =
      All-cons (λ (r : R). Contains (ids (table_of id_in (row ∷ given))) (id_in r)) row given (there row (table_of id_in given))
      (All-weaker (λ (r : R). Contains (ids (table_of id_in given)) (id_in r)) (λ (r : R). Contains (ids (table_of id_in (row ∷ given))) (id_in r))
      (λ (r : R) h. kept row (table_of id_in given) (id_in r) h) given (has_each given))

  -- ---- of rows with the same id the first is taken

  -- the ids after one that is above an id are above it too
  above : (id : ObjectId) (other : R) (rows : List R) → id_cmp id (id_in other) ≡ Less → is_rising (ids (other ∷ rows)) ≡ true → AllByRecursion (λ (r : R). id_cmp id (id_in r) ≡ Less) (other ∷ rows)
  above id other [] up rising = (up, tt)
  above id other (next ∷ rows) up rising =
      let apart = rising_apart (id_in other) (id_in next) (ids rows) rising in
      (up, above id next rows (id_order.trans id (id_in other) (id_in next) up apart.0) apart.1)

  module _ (row : R) (given : List R) where
    abbrev IsFirst : List R → R → Type 0
    IsFirst all r = find (λ (other : R). is_eq (id_cmp (id_in other) (id_in r))) all ≡ Some r

    own : IsFirst (row ∷ given) row
    own = rw (tied_itself id_order (id_in row)) refl

    other_id : (r : R) → is_eq (id_cmp (id_in row) (id_in r)) ≡ false → IsFirst given r → IsFirst (row ∷ given) r
    other_id r apart h = rw apart h

    others : (rows : List R) → AllByRecursion (λ (r : R). id_cmp (id_in row) (id_in r) ≡ Less) rows → AllByRecursion (IsFirst given) rows → AllByRecursion (IsFirst (row ∷ given)) rows
    others [] up all = tt
    others (r ∷ rows) up all = (other_id r (ap is_eq up.0) all.0, others rows up.1 all.1)

    -- ids after one that is the row's own
    alike : (other : R) (rows : List R) → id_cmp (id_in row) (id_in other) ≡ Equal → AllByRecursion (λ (r : R). id_cmp (id_in other) (id_in r) ≡ Less) rows
        → AllByRecursion (λ (r : R). id_cmp (id_in row) (id_in r) ≡ Less) rows
    alike other [] same up = tt
    alike other (r ∷ rows) same up = (id_order.congr (id_in row) (id_in other) (id_in r) same ∙ up.0, alike other rows same up.1)

    behind : (other : R) (rows : List R) → is_rising (ids (other ∷ rows)) ≡ true → AllByRecursion (λ (r : R). id_cmp (id_in other) (id_in r) ≡ Less) rows
    behind other [] rising = tt
    behind other (next ∷ rows) rising =
        let apart = rising_apart (id_in other) (id_in next) (ids rows) rising in
        above (id_in other) next rows apart.0 apart.1

    firsts_by : (o : Ordering) (other : R) (rows rest : List R) → id_cmp (id_in row) (id_in other) ≡ o → is_rising (ids (other ∷ rows)) ≡ true
        → AllByRecursion (IsFirst given) (other ∷ rows) → AllByRecursion (IsFirst (row ∷ given)) rest
        → AllByRecursion (IsFirst (row ∷ given)) (match_ordering o (row ∷ other ∷ rows) (row ∷ rows) (other ∷ rest))
    firsts_by Less other rows rest is rising all more = (own, others (other ∷ rows) (above (id_in row) other rows is rising) all)
    firsts_by Equal other rows rest is rising all more = (own, others rows (alike other rows is (behind other rows rising)) all.1)
    firsts_by Greater other rows rest is rising all more = (other_id other (ap is_eq is) all.0, more)

    rising_rest : (other : R) (rows : List R) → is_rising (ids (other ∷ rows)) ≡ true → is_rising (ids rows) ≡ true
    rising_rest other [] rising = none_rise
    rising_rest other (next ∷ rows) rising = (rising_apart (id_in other) (id_in next) (ids rows) rising).1

    firsts_put : (rows : List R) → is_rising (ids rows) ≡ true → AllByRecursion (IsFirst given) rows → AllByRecursion (IsFirst (row ∷ given)) (put_row id_in row rows)
    firsts_put [] rising all = (own, tt)
    firsts_put (other ∷ rows) rising all =
        firsts_by (id_cmp (id_in row) (id_in other)) other rows (put_row id_in row rows) refl rising all (firsts_put rows (rising_rest other rows rising) all.1)

  firsts : (given : List R) → AllByRecursion (λ (r : R). find (λ (other : R). is_eq (id_cmp (id_in other) (id_in r))) given ≡ Some r) (table_of id_in given)
  firsts [] = tt
  firsts (row ∷ given) = firsts_put row given (table_of id_in given) (rising-table_of given) (firsts given)

  -- the table of given rows is one
  pub is_table : (given : List R) → IsTableOf id_in given (table_of id_in given)
  is_table given =
      record {
        rising = rising-table_of given;
        each = has_each given;
        first = All-from_recursion (λ (r : R). find (λ (other : R). is_eq (id_cmp (id_in other) (id_in r))) given ≡ Some r) (table_of id_in given) (firsts given);
      }

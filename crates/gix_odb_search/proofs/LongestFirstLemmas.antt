-- Rows that are put among others, one after another, end in the order of a stable sort.
use Rattle.std.proofs.Common.{◌≡◌, ℕ, suc, ◌+◌, ◌<◌, ◌≤◌, ◌==◌, ◌&&◌, Bool, true, false, not, cond, nat_lt, List, [], ◌∷◌, ◌++◌, length, get_or, refl, sym}
use Rattle.std.proofs.Common.{ap, ◌∙◌, subst, arith, inl, inr, append_assoc, append-nil, None, Less, Equal, Greater}
use Rattle.std.specs.Cmp.{IsStrictWeakOrder}
use Rattle.std.specs.List.{AllByRecursion, filter}
use Rattle.std.specs.List.Sorted.{IsSortedBy, IsStableBy, ties}
use Rattle.std.specs.Ordering.{is_lt, nat_cmp}
use Rattle.std.proofs.lemmas.Bool.{cases_eq, cases_order, cases_lt, ltb-false, cond-true, cond-false, eq-eqb, ne_eqb, lt-ltb, le-ltb}
use Rattle.std.proofs.lemmas.List.Sorted.{sorted_far, IsStrictWeakOrder-by_number, IsStrictWeakOrder-flip}
use Rattle.gix_odb_events.specs.declared.listing.ListingRow.{ListingRow}
use Rattle.gix_odb_search.specs.LongestFirst.{longest_first, put_row, put_rows}

less_by : (below same : Bool) → is_lt (cond below Less (cond same Equal Greater)) ≡ below
less_by true same = refl
less_by false true = refl
less_by false false = refl

both_not : (a b : Bool) → a ≡ false → b ≡ false → (not a && not b) ≡ true
both_not a b first second = rw (first, second) refl

first_not : (a b : Bool) → a ≡ true → (not a && not b) ≡ false
first_not a b first = rw first refl

second_not : (a b : Bool) → b ≡ true → (not a && not b) ≡ false
second_not true b second = refl
second_not false b second = rw second refl

-- whether a row has a length
abbrev has_len : ℕ → ListingRow → Bool
has_len n row = row.len == n

-- the rows of a length
abbrev of_len : ℕ → List ListingRow → List ListingRow
of_len n rows = filter (has_len n) rows

abbrev AreUpTo : ℕ → List ListingRow → Type 0
AreUpTo n rows = AllByRecursion (λ row. row.len ≤ n) rows

-- no row is longer than one before it
abbrev Fall : List ListingRow → Type 0
Fall [] = Unit {0}
Fall (row ∷ rows) = AreUpTo row.len rows × Fall rows

-- ---- rows of a length

with_own : (n : ℕ) (row : ListingRow) (rows : List ListingRow) → row.len ≡ n → of_len n (row ∷ rows) ≡ row ∷ of_len n rows
with_own n row rows own = cond-true (has_len n row) (row ∷ of_len n rows) (of_len n rows) (eq-eqb row.len n own)

with_other : (n : ℕ) (row : ListingRow) (rows : List ListingRow) → (row.len ≡ n → ⊥) → of_len n (row ∷ rows) ≡ of_len n rows
with_other n row rows other = cond-false (has_len n row) (row ∷ of_len n rows) (of_len n rows) (ne_eqb row.len n other)

up_to_more : (m n : ℕ) (rows : List ListingRow) → m ≤ n → AreUpTo m rows → AreUpTo n rows
up_to_more m n [] more all = tt
up_to_more m n (row ∷ rows) more all = let first = all.0 in (omega arith, up_to_more m n rows more all.1)

-- there are none of a length above all
none_above : (m n : ℕ) (rows : List ListingRow) → AreUpTo m rows → m < n → of_len n rows ≡ []
none_above m n [] all above = refl
none_above m n (row ∷ rows) all above = let first = all.0 in with_other n row rows (λ is. omega arith) ∙ none_above m n rows all.1 above

-- ---- one row among others

abbrev put_at : Bool → ListingRow → ListingRow → List ListingRow → List ListingRow
put_at before row other rows = cond before (row ∷ other ∷ rows) (other ∷ put_row row rows)

put_first : (row other : ListingRow) (rows : List ListingRow) → other.len < row.len → put_row row (other ∷ rows) ≡ row ∷ other ∷ rows
put_first row other rows shorter = ap (λ (before : Bool). put_at before row other rows) (lt-ltb other.len row.len shorter)

put_behind : (row other : ListingRow) (rows : List ListingRow) → row.len ≤ other.len → put_row row (other ∷ rows) ≡ other ∷ put_row row rows
put_behind row other rows longer = ap (λ (before : Bool). put_at before row other rows) (le-ltb other.len row.len longer)

put_up_to : (n : ℕ) (row : ListingRow) (rows : List ListingRow) → row.len ≤ n → AreUpTo n rows → AreUpTo n (put_row row rows)
put_up_to n row [] own all = (own, tt)
put_up_to n row (other ∷ rows) own all =
    elim (cases_lt other.len row.len) [
      | inl shorter ↦ subst (AreUpTo n) (sym (put_first row other rows shorter)) (own, (all.0, all.1))
      | inr longer ↦ subst (AreUpTo n) (sym (put_behind row other rows longer)) (all.0, put_up_to n row rows own all.1)
    ]

put_falls : (row : ListingRow) (rows : List ListingRow) → Fall rows → Fall (put_row row rows)
put_falls row [] fall = (tt, tt)
put_falls row (other ∷ rows) fall =
    elim (cases_lt other.len row.len) [
      | inl shorter ↦
          let less : other.len ≤ row.len = omega arith in
          subst Fall (sym (put_first row other rows shorter)) ((less, up_to_more other.len row.len rows less fall.0), fall)
      | inr longer ↦ subst Fall (sym (put_behind row other rows longer)) (put_up_to other.len row rows longer fall.0, put_falls row rows fall.1)
    ]

carried : {X : Type 0} (b : Bool) (x : X) (xs ys more : List X) → xs ≡ ys ++ more → cond b (x ∷ xs) xs ≡ cond b (x ∷ ys) ys ++ more
carried {X} true x xs ys more is = ap (λ (rest : List X). x ∷ rest) is
carried false x xs ys more is = is

-- among the rows of its length it is the last
put_own : (n : ℕ) (row : ListingRow) (rows : List ListingRow) → row.len ≡ n → Fall rows → of_len n (put_row row rows) ≡ of_len n rows ++ row ∷ []
put_own n row [] own fall = with_own n row [] own
put_own n row (other ∷ rows) own fall =
    elim (cases_lt other.len row.len) [
      | inl shorter ↦
          let none : of_len n (other ∷ rows) ≡ [] = with_other n other rows (λ is. omega arith) ∙ none_above other.len n rows fall.0 (omega arith) in
          ap (of_len n) (put_first row other rows shorter) ∙ with_own n row (other ∷ rows) own
          ∙ ap (λ (rest : List ListingRow). row ∷ rest) none ∙ ap (λ (rest : List ListingRow). rest ++ row ∷ []) (sym none)
      | inr longer ↦
          ap (of_len n) (put_behind row other rows longer)
          ∙ carried (has_len n other) other (of_len n (put_row row rows)) (of_len n rows) (row ∷ []) (put_own n row rows own fall.1)
    ]

-- among rows of another length it is not
put_other : (n : ℕ) (row : ListingRow) (rows : List ListingRow) → (row.len ≡ n → ⊥) → of_len n (put_row row rows) ≡ of_len n rows
put_other n row [] differs = with_other n row [] differs
put_other n row (other ∷ rows) differs =
    elim (cases_lt other.len row.len) [
      | inl shorter ↦ ap (of_len n) (put_first row other rows shorter) ∙ with_other n row (other ∷ rows) differs
      | inr longer ↦
          ap (of_len n) (put_behind row other rows longer)
          ∙ ap (λ (rest : List ListingRow). cond (has_len n other) (other ∷ rest) rest) (put_other n row rows differs)
    ]

-- ---- rows among others

rows_fall : (ordered rows : List ListingRow) → Fall ordered → Fall (put_rows ordered rows)
rows_fall ordered [] fall = fall
rows_fall ordered (row ∷ rows) fall = rows_fall (put_row row ordered) rows (put_falls row ordered fall)

rows_of_len : (n : ℕ) (ordered rows : List ListingRow) → Fall ordered → of_len n (put_rows ordered rows) ≡ of_len n ordered ++ of_len n rows
rows_of_len n ordered [] fall = sym (append-nil (of_len n ordered))
rows_of_len n ordered (row ∷ rows) fall =
    rows_of_len n (put_row row ordered) rows (put_falls row ordered fall)
    ∙ elim (cases_eq row.len n) [
      | inl own ↦
          ap (λ (front : List ListingRow). front ++ of_len n rows) (put_own n row ordered own fall) ∙ append_assoc (of_len n ordered) (row ∷ []) (of_len n rows)
          ∙ ap (λ (rest : List ListingRow). of_len n ordered ++ rest) (sym (with_own n row rows own))
      | inr differs ↦
          ap (λ (front : List ListingRow). front ++ of_len n rows) (put_other n row ordered differs)
          ∙ ap (λ (rest : List ListingRow). of_len n ordered ++ rest) (sym (with_other n row rows differs))
    ]

-- ---- one list only

dropped : {X : Type 0} (b : Bool) (x y : X) (xs ys : List X) → x ≡ y → cond b (x ∷ xs) xs ≡ cond b (y ∷ ys) ys → xs ≡ ys
dropped true x y xs ys is same = cc
dropped false x y xs ys is same = same

-- a row that is longer than all of a list is in no other list with the same rows of each length
lost : (x : ListingRow) (xs : List ListingRow) (y : ListingRow) (ys : List ListingRow) → Fall (x ∷ xs) → x.len < y.len → of_len y.len (x ∷ xs) ≡ of_len y.len (y ∷ ys) → ⊥
lost x xs y ys fall below same =
    let none : of_len y.len (x ∷ xs) ≡ [] = with_other y.len x xs (λ is. omega arith) ∙ none_above x.len y.len xs fall.0 below in
    let some : of_len y.len (y ∷ ys) ≡ y ∷ of_len y.len ys = with_own y.len y ys refl in
    let differ : [] ≡ y ∷ of_len y.len ys = sym none ∙ same ∙ some in
    cc

one_list : (xs ys : List ListingRow) → Fall xs → Fall ys → ((n : ℕ) → of_len n xs ≡ of_len n ys) → xs ≡ ys
one_list [] [] fall falls same = refl
one_list [] (y ∷ ys) fall falls same =
    let differ : [] ≡ y ∷ of_len y.len ys = same y.len ∙ with_own y.len y ys refl in
    absurd cc
one_list (x ∷ xs) [] fall falls same =
    let differ : x ∷ of_len x.len xs ≡ [] = sym (with_own x.len x xs refl) ∙ same x.len in
    absurd cc
one_list (x ∷ xs) (y ∷ ys) fall falls same =
    elim (cases_order x.len y.len) [
      | inl as_long ↦
          let heads : x ∷ of_len x.len xs ≡ y ∷ of_len x.len ys = sym (with_own x.len x xs refl) ∙ same x.len ∙ with_own x.len y ys (sym as_long) in
          let first : x ≡ y = cc in
          let rest : xs ≡ ys = one_list xs ys fall.1 falls.1 (λ n. dropped (has_len n x) x y (of_len n xs) (of_len n ys) first
          (same n ∙ ap (λ (w : ListingRow). cond (has_len n w) (y ∷ of_len n ys) (of_len n ys)) (sym first))) in
          cc
      | inr differs ↦ elim differs [
        | inl below ↦ absurd (lost x xs y ys fall below (same y.len))
        | inr above ↦ absurd (lost y ys x xs falls above (sym (same x.len)))
      ]
    ]

-- ---- what a stable sort ensures

-- a row goes before those that are shorter
abbrev pub is_longer : ListingRow → ListingRow → Bool
is_longer row other = nat_lt other.len row.len

pub longer_ranks : IsStrictWeakOrder is_longer
longer_ranks = IsStrictWeakOrder-flip (λ row other. nat_lt row.len other.len) (IsStrictWeakOrder-by_number (λ (row : ListingRow). row.len))

pub compares_as : (m n : ℕ) → is_lt (nat_cmp m n) ≡ nat_lt m n
compares_as m n = less_by (nat_lt m n) (m == n)

up_to_all : (n : ℕ) (rows : List ListingRow) → ((k : ℕ) (d : ListingRow) → k < length rows → (get_or rows k d).len ≤ n) → AreUpTo n rows
up_to_all n [] each = tt
up_to_all n (row ∷ rows) each = (each 0 row (omega arith), up_to_all n rows (λ k d within. each (suc k) d (omega arith)))

rest_sorted : (row : ListingRow) (rows : List ListingRow) → IsSortedBy is_longer (row ∷ rows) → IsSortedBy is_longer rows
rest_sorted row rows sorted k d low within =
    let next : suc k + 1 ≡ suc (k + 1) = omega arith in
    subst (λ n. is_longer (get_or (row ∷ rows) n d) (get_or rows k d) ≡ false) next (sorted (suc k) d (omega arith) (omega arith))

sorted_falls : (rows : List ListingRow) → IsSortedBy is_longer rows → Fall rows
sorted_falls [] sorted = tt
sorted_falls (row ∷ rows) sorted = (
  up_to_all row.len rows (λ k d within. ltb-false row.len (get_or rows k d).len (sorted_far is_longer longer_ranks (row ∷ rows) sorted 0 (suc k) d (omega arith) (omega arith))),
  sorted_falls rows (rest_sorted row rows sorted),
)

-- rows of one length tie
tie_is : (m n : ℕ) → (not (nat_lt m n) && not (nat_lt n m)) ≡ (m == n)
tie_is m n =
    elim (cases_order m n) [
      | inl same ↦ both_not (nat_lt m n) (nat_lt n m) (le-ltb m n (omega arith)) (le-ltb n m (omega arith)) ∙ sym (eq-eqb m n same)
      | inr differs ↦ elim differs [
        | inl below ↦ first_not (nat_lt m n) (nat_lt n m) (lt-ltb m n below) ∙ sym (ne_eqb m n (λ is. omega arith))
        | inr above ↦ second_not (nat_lt m n) (nat_lt n m) (lt-ltb n m above) ∙ sym (ne_eqb m n (λ is. omega arith))
      ]
    ]

filter_is : {X : Type 0} (p q : X → Bool) → ((x : X) → p x ≡ q x) → (xs : List X) → filter p xs ≡ filter q xs
filter_is p q is [] = refl
filter_is {X} p q is (x ∷ xs) = ap (λ (b : Bool). cond b (x ∷ filter p xs) (filter p xs)) (is x) ∙ ap (λ (rest : List X). cond (q x) (x ∷ rest) rest) (filter_is p q is xs)

abbrev one_of_len : ℕ → ListingRow
one_of_len n = record { path = []; time = 0; len = n; multi = None }

ties_are : (n : ℕ) (rows : List ListingRow) → filter (ties is_longer (one_of_len n)) rows ≡ of_len n rows
ties_are n rows = filter_is (ties is_longer (one_of_len n)) (has_len n) (λ row. tie_is row.len n) rows

pub stable_is : (rows sorted : List ListingRow) → IsSortedBy is_longer sorted → IsStableBy is_longer rows sorted → sorted ≡ longest_first rows
stable_is rows sorted falls stable =
    one_list sorted (put_rows [] rows) (sorted_falls sorted falls) (rows_fall [] rows tt)
    (λ n. sym (ties_are n sorted) ∙ stable (one_of_len n) ∙ ties_are n rows ∙ sym (rows_of_len n [] rows tt))

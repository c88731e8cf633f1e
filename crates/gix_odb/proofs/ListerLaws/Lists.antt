-- Elements of lists: what a search finds, what is at a place, and rows that are put in order.
use Rattle.std.proofs.Common.{◌≡◌, ℕ, zero, suc, ◌&&◌, Bool, true, false, cond, List, [], ◌∷◌, map, All, Contains, slice_get, nat_lt, Option, Some, None}
use Rattle.std.proofs.Common.{refl, sym, ap, ◌∙◌, subst, arith}
use Rattle.std.specs.List.{cons_option, filter, filter_map, find}
use Rattle.std.proofs.lemmas.List.Elements.{All-cons, All-head, All-map, All-nil, All-tail, All-weaker, filter_passes}
use Rattle.std.proofs.lemmas.Option.{slice_get_within, get_or_from_slice_get}
use Rattle.gix_odb_events.specs.declared.listing.ListingRow.{ListingRow}
use Rattle.gix_odb_search.specs.LongestFirst.{longest_first, put_row, put_rows}

-- ---- elements

pub has_first : {A : Type 0} (x : A) (xs : List A) → Contains (x ∷ xs) x
has_first x xs = (zero, omega arith, refl)

pub has_later : {A : Type 0} (x : A) (xs : List A) (y : A) → Contains xs y → Contains (x ∷ xs) y
has_later x xs y (k, within, is) = (suc k, omega (arith, within), is)

pub at_place : {A : Type 0} (xs : List A) (n : ℕ) (x : A) → slice_get xs n ≡ Some x → Contains xs x
at_place xs n x is = (n, slice_get_within xs n x is, get_or_from_slice_get xs n x x is)

-- what a search finds is an element that passes the test
find_step : {A : Type 0} (p : A → Bool) (y : A) (ys : List A) (x : A) → (find p ys ≡ Some x → Contains ys x × (p x ≡ true)) → (b : Bool) → p y ≡ b
    → cond b (Some y) (find p ys) ≡ Some x
    → Contains (y ∷ ys) x × (p x ≡ true)
find_step p y ys x more true passes is =
    let same : y ≡ x = cc is in
    subst (λ z. Contains (y ∷ ys) z × (p z ≡ true)) same (has_first y ys, passes)
find_step p y ys x more false passes is = let found = more is in (has_later y ys x found.0, found.1)

pub find_passes : {A : Type 0} (p : A → Bool) (xs : List A) (x : A) → find p xs ≡ Some x → Contains xs x × (p x ≡ true)
find_passes p [] x is = absurd (cc is)
find_passes p (y ∷ ys) x is = find_step p y ys x (find_passes p ys x) (p y) refl is

-- ---- rows in order

row_put : (P : ListingRow → Type 0) (row other : ListingRow) (rows : List ListingRow) → P row → All P (other ∷ rows) → All P (put_row row rows) → (b : Bool)
    → All P (cond b (row ∷ other ∷ rows) (other ∷ put_row row rows))
row_put P row other rows first all more true = All-cons P row (other ∷ rows) first all
row_put P row other rows first all more false = All-cons P other (put_row row rows) (All-head P other rows all) more

all_put_row : (P : ListingRow → Type 0) (row : ListingRow) (rows : List ListingRow) → P row → All P rows → All P (put_row row rows)
all_put_row P row [] first all = All-cons P row [] first all
all_put_row P row (other ∷ rows) first all =
    row_put P row other rows first all (all_put_row P row rows first (All-tail P other rows all)) (nat_lt other.len row.len)

all_put_rows : (P : ListingRow → Type 0) (ordered rows : List ListingRow) → All P ordered → All P rows → All P (put_rows ordered rows)
all_put_rows P ordered [] before all = before
all_put_rows P ordered (row ∷ rows) before all =
    all_put_rows P (put_row row ordered) rows (all_put_row P row ordered (All-head P row rows all) before) (All-tail P row rows all)

-- what holds of rows holds of them in their order
pub all_longest_first : (P : ListingRow → Type 0) (rows : List ListingRow) → All P rows → All P (longest_first rows)
all_longest_first P rows all = all_put_rows P [] rows (All-nil P) all

-- what holds of each element that passes a test holds of those that are kept by it
pub all_kept : {A B : Type 0} (P : B → Type 0) (f : A → B) (p : A → Bool) → ((x : A) → p x ≡ true → P (f x)) → (xs : List A) → All P (map f (filter p xs))
all_kept P f p each xs = All-map P f (filter p xs) (All-weaker (λ x. p x ≡ true) (λ x. P (f x)) each (filter p xs) (filter_passes p xs))

-- ---- elements that are mapped, if they have a value

pub filter_map-map : {A B C : Type 0} (f : B → Option C) (g : A → B) (xs : List A) → filter_map f (map g xs) ≡ filter_map (λ x. f (g x)) xs
filter_map-map f g [] = refl
filter_map-map {C = C} f g (x ∷ xs) = ap (λ (values : List C). cons_option (f (g x)) values) (filter_map-map f g xs)

-- one that has none may be kept or left out
pub kept_or_none : {A B : Type 0} (h : A → Option B) (x : A) (xs ys : List A) → filter_map h xs ≡ filter_map h ys → (one other : Bool)
    → (one ≡ false → other ≡ true → h x ≡ None) → filter_map h (cond (one && other) (x ∷ xs) xs) ≡ filter_map h (cond other (x ∷ ys) ys)
kept_or_none {B = B} h x xs ys more true true none = ap (λ (values : List B). cons_option (h x) values) more
kept_or_none h x xs ys more true false none = more
kept_or_none {B = B} h x xs ys more false true none = more ∙ ap (λ (o : Option B). cons_option o (filter_map h ys)) (sym (none refl refl))
kept_or_none h x xs ys more false false none = more

-- The row of an id: the ids of an index rise strictly, so that a row that has the id is the first that has it.
use Rattle.std.proofs.Common.{◌≡◌, ℕ, zero, suc, Bool, true, false, List, [], ◌∷◌, length, map, slice_get, Contains}
use Rattle.std.proofs.Common.{Some, None, option_map, Ordering, Less, Equal, Greater, refl, sym, ap, ◌∙◌, arith}
use Rattle.std.specs.List.{find, zip}
use Rattle.std.specs.Ordering.{is_eq, is_lt, ordering_reverse}
use Rattle.std.proofs.lemmas.Bool.{and_parts, cond-true, cond-false, false_from_ne_true}
use Rattle.std.proofs.lemmas.Option.{same_Some, slice_get-map}
use Rattle.gix_hash.specs.ObjectId.{id_cmp}
use Rattle.gix_hash.specs.declared.object_id.ObjectId.{ObjectId}
use Rattle.gix_hash.proofs.IdOrderLaws.{id_order, same_id}
use Rattle.gix_pack_read.specs.Rows.{is_rising}

-- ---- ids that rise

less : (o : Ordering) → is_lt o ≡ true → o ≡ Less
less Less h = refl
less Equal h = cc h
less Greater h = cc h

equal : (o : Ordering) → is_eq o ≡ true → o ≡ Equal
equal Less h = cc h
equal Equal h = refl
equal Greater h = cc h

rising_rest : (a : ObjectId) (ids : List ObjectId) → is_rising (a ∷ ids) ≡ true → is_rising ids ≡ true
unfolding is_rising
rising_rest a [] rising = refl
rising_rest a (b ∷ ids) rising = (and_parts (is_lt (id_cmp a b)) (is_rising (b ∷ ids)) rising).1

below_next : (a b : ObjectId) (ids : List ObjectId) → is_rising (a ∷ b ∷ ids) ≡ true → id_cmp a b ≡ Less
unfolding is_rising
below_next a b ids rising = less (id_cmp a b) (and_parts (is_lt (id_cmp a b)) (is_rising (b ∷ ids)) rising).0

-- the first id is below each other one
first_below : (a : ObjectId) (ids : List ObjectId) (n : ℕ) (other : ObjectId) → is_rising (a ∷ ids) ≡ true → slice_get ids n ≡ Some other → id_cmp a other ≡ Less
first_below a [] n other rising get = cc get
first_below a (b ∷ ids) zero other rising get = ap (id_cmp a) (sym (same_Some b other get)) ∙ below_next a b ids rising
first_below a (b ∷ ids) (suc n) other rising get =
    id_order.trans a b other (below_next a b ids rising) (first_below b ids n other (rising_rest a (b ∷ ids) rising) get)

reversed : (o : Ordering) → o ≡ ordering_reverse o → is_eq o ≡ true
reversed Less h = cc h
reversed Equal h = refl
reversed Greater h = cc h

itself : (id : ObjectId) → is_eq (id_cmp id id) ≡ true
itself id = reversed (id_cmp id id) (id_order.antisymm id id)

differs : (a id : ObjectId) → (a ≡ id → ⊥) → is_eq (id_cmp a id) ≡ false
differs a id other = false_from_ne_true (is_eq (id_cmp a id)) (λ h. other (same_id a id (equal (id_cmp a id) h)))

-- ---- the first row that has an id

module _ {X : Type 0} (id_in : X → ObjectId) (id : ObjectId) where
  abbrev has : X → Bool
  has row = is_eq (id_cmp (id_in row) id)

  pub found : (rows : List X) (n : ℕ) (row : X) → is_rising (map id_in rows) ≡ true → slice_get rows n ≡ Some row → id_in row ≡ id
      → find (λ (r : X). is_eq (id_cmp (id_in r) id)) rows ≡ Some row
  found [] n row rising get own = cc get
  found (x ∷ rows) zero row rising get own =
      let is : id_in x ≡ id = ap id_in (same_Some x row get) ∙ own in
      let same : has x ≡ true = ap (λ (y : ObjectId). is_eq (id_cmp y id)) is ∙ itself id in
      cond-true (has x) (Some x) (find has rows) same ∙ get
  found (x ∷ rows) (suc n) row rising get own =
      let there : slice_get (map id_in rows) n ≡ Some id = slice_get-map id_in rows n ∙ ap (option_map id_in) get ∙ ap (λ (y : ObjectId). Some y) own in
      let below : id_cmp (id_in x) id ≡ Less = first_below (id_in x) (map id_in rows) n id rising there in
      cond-false (has x) (Some x) (find has rows) (ap is_eq below) ∙ found rows n row (rising_rest (id_in x) (map id_in rows) rising) get own

  pub missing : (rows : List X) → ¬ (Contains (map id_in rows) id) → find (λ (r : X). is_eq (id_cmp (id_in r) id)) rows ≡ None
  missing [] without = refl
  missing (x ∷ rows) without =
      cond-false (has x) (Some x) (find has rows) (differs (id_in x) id (λ is. without (0, omega arith, is)))
      ∙ missing rows (λ more. without (suc more.0, omega arith, more.2))

-- ---- rows of two tables

-- what is known of the first of each pair
pub first_parts : {X Y Z : Type 0} (f : X × Y → Z) (g : Z → X) → ((pair : X × Y) → g (f pair) ≡ pair.0) → (xs : List X) (ys : List Y)
    → length xs ≡ length ys → map g (map f (zip xs ys)) ≡ xs
first_parts f g own [] ys same = refl
first_parts f g own (x ∷ xs) [] same = absurd (omega arith)
first_parts {X} f g own (x ∷ xs) (y ∷ ys) same =
    ap (λ (first : X). first ∷ map g (map f (zip xs ys))) (own (x, y)) ∙ ap (λ (rest : List X). x ∷ rest) (first_parts f g own xs ys (omega arith))

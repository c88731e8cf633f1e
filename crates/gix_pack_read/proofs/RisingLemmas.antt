-- Ids that rise: each is below the next, and so below each later one.
use Rattle.std.proofs.Common.{◌≡◌, ℕ, zero, suc, ◌<◌, true, List, [], ◌∷◌, slice_get, Some, Ordering, Less, Equal, Greater, refl, sym, ap, ◌∙◌, arith}
use Rattle.std.specs.Ordering.{is_lt, ordering_reverse}
use Rattle.std.proofs.lemmas.Bool.{and_parts}
use Rattle.std.proofs.lemmas.Option.{same_Some}
use Rattle.gix_hash.specs.ObjectId.{id_cmp}
use Rattle.gix_hash.specs.declared.object_id.ObjectId.{ObjectId}
use Rattle.gix_hash.proofs.IdOrderLaws.{id_order}
use Rattle.gix_pack_read.specs.Rows.{is_rising}

-- ---- two ids

less : (o : Ordering) → is_lt o ≡ true → o ≡ Less
less Less h = refl
less Equal h = cc h
less Greater h = cc h

pub back : (a b : ObjectId) → id_cmp a b ≡ Greater → id_cmp b a ≡ Less
back a b h = id_order.antisymm b a ∙ ap ordering_reverse h

-- ---- the first id, and those after it

pub none_rise : is_rising [] ≡ true
unfolding is_rising
none_rise = refl

pub rising_one : (a : ObjectId) → is_rising (a ∷ []) ≡ true
unfolding is_rising
rising_one a = refl

pub rising_pair : (a b : ObjectId) (more : List ObjectId) → id_cmp a b ≡ Less → is_rising (b ∷ more) ≡ true → is_rising (a ∷ b ∷ more) ≡ true
unfolding is_rising
rising_pair a b more below rising = rw (below, rising) refl

pub rising_apart : (a b : ObjectId) (more : List ObjectId) → is_rising (a ∷ b ∷ more) ≡ true → (id_cmp a b ≡ Less) × (is_rising (b ∷ more) ≡ true)
unfolding is_rising
rising_apart a b more h =
    let parts = and_parts (is_lt (id_cmp a b)) (is_rising (b ∷ more)) h in
    (less (id_cmp a b) parts.0, parts.1)

-- ---- rows

-- the first id is below every other
first_below : (id : ObjectId) (ids : List ObjectId) (row : ℕ) (other : ObjectId) → is_rising (id ∷ ids) ≡ true → slice_get ids row ≡ Some other → id_cmp id other ≡ Less
first_below id [] row other rising h = cc h
first_below id (next ∷ ids) zero other rising h =
    let step = rising_apart id next ids rising in
    ap (id_cmp id) (sym (same_Some next other h)) ∙ step.0
first_below id (next ∷ ids) (suc row) other rising h =
    let step = rising_apart id next ids rising in
    id_order.trans id next other step.0 (first_below next ids row other step.1 h)

pub rows_rise : (ids : List ObjectId) (row later : ℕ) (id other : ObjectId) → is_rising ids ≡ true → row < later → slice_get ids row ≡ Some id → slice_get ids later ≡ Some other
    → id_cmp id other ≡ Less
rows_rise [] row later id other rising order own its = cc own
rows_rise (x ∷ ids) row zero id other rising order own its = absurd (omega arith)
rows_rise (x ∷ ids) zero (suc later) id other rising order own its =
    ap (λ (y : ObjectId). id_cmp y other) (sym (same_Some x id own)) ∙ first_below x ids later other rising its
rows_rise (x ∷ []) (suc row) (suc later) id other rising order own its = cc own
rows_rise (x ∷ y ∷ ids) (suc row) (suc later) id other rising order own its =
    rows_rise (y ∷ ids) row later id other (rising_apart x y ids rising).1 (omega arith) own its

-- Rows as the encoders keep them, and the tables of an index made of them.
pub mod Counts
pub mod Offsets
use Rattle.std.proofs.Common.{◌≡◌, ℕ, suc, ◌+◌, ◌-◌, ◌<◌, ◌≤◌, List, [], ◌∷◌, ◌++◌, length, map, drop, get_or, refl, sym, ap, ◌∙◌}
use Rattle.std.specs.List.{AllByRecursion, zip}
use Rattle.std.proofs.lemmas.List.{drop_all, drop_more}
use Rattle.gix_hash.specs.declared.kind.Kind.{Kind}
use Rattle.gix_object.specs.Data.{Object}
use Rattle.gix_pack_write.specs.PlacedRow.{placed_from, row_of}
use Rattle.gix_pack_read.specs.Rows.{Row}
use Rattle.gix_pack_read.specs.Pack.{entries_place}
use Rattle.gix_pack_write.specs.WrittenPack.{entry_of, id_of_object, object_seen, places_from, rows_in_order, row_of as row_of_pair}
use Rattle.gix_pack_write.specs.declared.object.Object as given

-- ---- lists

pub each_append : {A : Type 0} (P : A → Type 0) (xs ys : List A) → AllByRecursion P xs → AllByRecursion P ys → AllByRecursion P (xs ++ ys)
each_append P [] ys first rest = rest
each_append P (x ∷ xs) ys first rest = (first.0, each_append P xs ys first.1 rest)

-- ---- the offsets of the objects of a pack

rows_from : (hash : Kind) (pack place : ℕ) (objects : List Object) → map row_of (placed_from hash pack place objects) ≡ map row_of_pair
    (zip (map (id_of_object hash) objects) (places_from place objects))
unfolding places_from
rows_from hash pack place [] = refl
rows_from hash pack place (object ∷ objects) =
    ap (λ (rows : List Row). record { id = id_of_object hash object; offset = place } ∷ rows) (rows_from hash pack (place + length (entry_of object)) objects)

pub rows_placed : (hash : Kind) (pack : ℕ) (objects : List Object) → map row_of (placed_from hash pack entries_place objects) ≡ rows_in_order hash objects
unfolding rows_in_order
rows_placed hash pack objects = rows_from hash pack entries_place objects

pub length-placed_from : (hash : Kind) (pack place : ℕ) (objects : List Object) → length (placed_from hash pack place objects) ≡ length objects
length-placed_from hash pack place [] = refl
length-placed_from hash pack place (object ∷ objects) = ap (λ (n : ℕ). suc n) (length-placed_from hash pack (place + length (entry_of object)) objects)

-- the first object that is left, and the others
pub placed_step : (hash : Kind) (pack place : ℕ) (objects : List given.Object) (i : ℕ) (object : given.Object) → i < length objects → object ≡ get_or objects i object
    → placed_from hash pack place (map object_seen (drop i objects))
    ≡ record { id = id_of_object hash (object_seen object); pack = pack; offset = place } ∷ placed_from hash pack (place + length (entry_of (object_seen object)))
    (map object_seen (drop (i + 1) objects))
placed_step hash pack place objects i object below is =
    ap (λ (rest : List given.Object). placed_from hash pack place (map object_seen rest)) (drop_more objects i object below ∙ ap (λ (o : given.Object). o ∷ drop (i + 1) objects) (sym is))

pub placed_end : (hash : Kind) (pack place : ℕ) (objects : List given.Object) (i : ℕ) → length objects ≤ i → placed_from hash pack place (map object_seen (drop i objects)) ≡ []
placed_end hash pack place objects i past = ap (λ (rest : List given.Object). placed_from hash pack place (map object_seen rest)) (drop_all i objects past)

-- A row put into a map by its id.
use Rattle.std.proofs.Common.{◌≡◌, ℕ, List, [], ◌∷◌, map, Ordering, Less, Equal, Greater, refl, sym, ap, ◌∙◌}
use Rattle.std.specs.BTreeMap.{insert_entry}
use Rattle.std.specs.Ordering.{match_ordering}
use Rattle.gix_hash.specs.ObjectId.{id_cmp}
use Rattle.gix_hash.specs.contracts.object_id.ObjectIdOrd.TheImpl as order
use Rattle.gix_hash.specs.declared.object_id.ObjectId.{ObjectId}
use Rattle.gix_hash.specs.declared.object_id.ObjectId.TheVariants.{Sha1, Sha256}
use Rattle.gix_hash.proofs.IdOrderLaws.{same_id}
use Rattle.gix_pack_write.specs.PlacedRow.{id_of, placed_of}
use Rattle.gix_pack_write.specs.WrittenTables.{put_row}
use Rattle.gix_pack_write.specs.declared.rows.Placed.{Placed}

-- the order of a map's keys
abbrev pub key_cmp : ObjectId → ObjectId → Ordering
key_cmp = (order.ghosts).cmp

keys_as_ids : (a b : ObjectId) → key_cmp a b ≡ id_cmp a b
keys_as_ids (Sha1 a) (Sha1 b) = refl
keys_as_ids (Sha1 a) (Sha256 b) = refl
keys_as_ids (Sha256 a) (Sha1 b) = refl
keys_as_ids (Sha256 a) (Sha256 b) = refl

-- an entry of the map
abbrev Entry : Type 0
Entry = ObjectId × (ℕ × ℕ)

inserted_by : (o : Ordering) (id : ObjectId) (place : ℕ × ℕ) (e : Entry) (es : List Entry) (rest : List Entry) → id_cmp id e.0 ≡ o
    → map placed_of rest ≡ put_row id_of (placed_of (id, place)) (map placed_of es)
    → map placed_of (match_ordering o ((id, place) ∷ e ∷ es) ((e.0, place) ∷ es) (e ∷ rest))
    ≡ match_ordering o (placed_of (id, place) ∷ map placed_of (e ∷ es)) (placed_of (id, place) ∷ map placed_of es) (placed_of e ∷ put_row id_of (placed_of (id, place)) (map placed_of es))
inserted_by Less id place e es rest is more = refl
inserted_by Equal id place e es rest is more = ap (λ (key : ObjectId). placed_of (key, place) ∷ map placed_of es) (sym (same_id id e.0 is))
inserted_by Greater id place e es rest is more = ap (λ (rows : List Placed). placed_of e ∷ rows) more

pub inserted : (id : ObjectId) (place : ℕ × ℕ) (es : List Entry) → map placed_of (insert_entry key_cmp es id place) ≡ put_row id_of (placed_of (id, place)) (map placed_of es)
inserted id place [] = refl
inserted id place (e ∷ es) =
    ap (λ (o : Ordering). map placed_of (match_ordering o ((id, place) ∷ e ∷ es) ((e.0, place) ∷ es) (e ∷ insert_entry key_cmp es id place))) (keys_as_ids id e.0)
    ∙ inserted_by (id_cmp id e.0) id place e es (insert_entry key_cmp es id place) refl (inserted id place es)

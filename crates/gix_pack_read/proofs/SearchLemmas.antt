-- The ids of a table by their rows, and an id among them: where it can't be.
use Rattle.std.proofs.Common.{◌≡◌, ℕ, ◌+◌, ◌*◌, ◌<◌, ◌≤◌, ◌⊎◌, inl, inr, true, List, length, slice_get, Contains, Some, option_map, Less, Equal, Greater, subst, sym, ap, ◌∙◌, arith}
use Rattle.std.proofs.lemmas.Cmp.{tied_itself}
use Rattle.std.proofs.lemmas.List.{length-map}
use Rattle.std.proofs.lemmas.Option.{same_Some, slice_get-get_or, slice_get-map}
use Rattle.gix_hash.specs.Kind.{len_in_bytes_of}
use Rattle.gix_hash.specs.ObjectId.{id_cmp}
use Rattle.gix_hash.specs.declared.kind.Kind.{Kind}
use Rattle.gix_hash.specs.declared.kind.Kind.TheVariants.{Sha1, Sha256}
use Rattle.gix_hash.specs.declared.object_id.ObjectId.{ObjectId}
use Rattle.gix_hash.proofs.IdOrderLaws.{id_order}
use Rattle.gix_pack_read.specs.Bytes.{part, table}
use Rattle.gix_pack_read.specs.Rows.{id_from, ids_of, is_rising}
use Rattle.gix_pack_read.proofs.RisingLemmas.{back, rows_rise}
use Rattle.gix_pack_read.proofs.RowsLemmas.{length-table, slice_get-table}

pub length-ids_of : (kind : Kind) (n : ℕ) (bytes : List ℕ) → length (ids_of kind n bytes) ≡ n
length-ids_of kind n bytes = length-map (table (len_in_bytes_of kind) n bytes) (id_from kind) ∙ length-table (len_in_bytes_of kind) n bytes

-- a row of ids
pub row_id : (kind : Kind) (n : ℕ) (bytes : List ℕ) (row : ℕ) → row < n → slice_get (ids_of kind n bytes) row ≡ Some (id_from kind (part (row * len_in_bytes_of kind) (len_in_bytes_of kind) bytes))
row_id kind n bytes row h =
    slice_get-map (id_from kind) (table (len_in_bytes_of kind) n bytes) row ∙ ap (option_map (id_from kind)) (slice_get-table (len_in_bytes_of kind) n bytes row h)

-- if there is room for n ids there is room for each
pub row_fits : (kind : Kind) (n row room : ℕ) → row < n → n * len_in_bytes_of kind ≤ room → (row + 1) * len_in_bytes_of kind ≤ room
row_fits Sha1 n row room below fits = omega arith
row_fits Sha256 n row room below fits = omega arith

pub not_contained : (ids : List ObjectId) (id : ObjectId) → ((k : ℕ) → slice_get ids k ≡ Some id → ⊥) → ¬ (Contains ids id)
not_contained ids id none = λ (has : Contains ids id). none has.0 (slice_get-get_or ids has.0 id has.1 ∙ ap (λ (x : ObjectId). Some x) has.2)

-- ---- a search among ids that rise

pub same_or_later : (row later : ℕ) → row ≤ later → (row ≡ later) ⊎ (row < later)
same_or_later row later h = grind arith

not_itself : (id : ObjectId) → id_cmp id id ≡ Less → ⊥
not_itself id h = let tie : id_cmp id id ≡ Equal = tied_itself id_order id in cc (h, tie)

-- an id that is above a row's is in none up to that row
pub not_up_to : (ids : List ObjectId) (middle row : ℕ) (other id : ObjectId) → is_rising ids ≡ true → slice_get ids middle ≡ Some other → id_cmp other id ≡ Less
    → row ≤ middle → slice_get ids row ≡ Some id → ⊥
not_up_to ids middle row other id rising at below order get =
    elim (same_or_later row middle order) [
      | inl here ↦
          let same : other ≡ id = same_Some other id (sym at ∙ ap (slice_get ids) (sym here) ∙ get) in
          not_itself id (subst (λ (x : ObjectId). id_cmp x id ≡ Less) same below)
      | inr before ↦ not_itself id (id_order.trans id other id (rows_rise ids row middle id other rising before get at) below)
    ]

-- one that is below a row's is in none from that row on
pub not_from : (ids : List ObjectId) (middle row : ℕ) (other id : ObjectId) → is_rising ids ≡ true → slice_get ids middle ≡ Some other → id_cmp other id ≡ Greater
    → middle ≤ row → slice_get ids row ≡ Some id → ⊥
not_from ids middle row other id rising at above order get =
    elim (same_or_later middle row order) [
      | inl here ↦
          let same : other ≡ id = same_Some other id (sym at ∙ ap (slice_get ids) here ∙ get) in
          not_itself id (back id id (subst (λ (x : ObjectId). id_cmp x id ≡ Greater) same above))
      | inr later ↦ not_itself id (id_order.trans id other id (back other id above) (rows_rise ids middle row other id rising later at get))
    ]

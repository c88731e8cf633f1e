-- Rows and slots that have a key: the keys of a row are those of the slots that hold it.
use Rattle.std.proofs.Common.{◌≡◌, ℕ, ◌+◌, ◌<◌, Bool, true, false, cond, ◌&&◌, ◌||◌, List, [], ◌∷◌, ◌++◌, length, get_or}
use Rattle.std.proofs.Common.{take, map, Some, None, Option, position, refl, sym, ap, ◌∙◌}
use Rattle.std.specs.Cmp.{tied_then, unsigned_ties}
use Rattle.std.specs.Cmp.Lexicographic.{lists_ties, lists_total, nat_list_cmp_total, slice_cmp, texts_ties}
use Rattle.std.specs.List.{list_any}
use Rattle.std.specs.Option.{option_cmp}
use Rattle.std.specs.Ordering.{is_eq, nat_cmp}
use Rattle.std.proofs.lemmas.Cmp.{eq_by_cmp_equiv, nat_cmp_total}
use Rattle.std.proofs.lemmas.List.{map_push, take_more}
use Rattle.std.proofs.lemmas.List.Folds.{list_any_more}
use Rattle.odb_base.specs.Path.{Path, path_cmp}
use Rattle.gix_odb_core.specs.IndexKeys.{index_time, key_cmp, parts_cmp, row_has, row_time}
use Rattle.gix_odb_core.specs.Publish.{is_kept}
use Rattle.gix_odb_events.specs.Slots.{Slot, holds, index_path, is_index_of}
use Rattle.gix_odb_events.specs.PackFiles.{same_path}
use Rattle.gix_odb_core.specs.declared.index_key.IndexKey.{IndexKey}
use Rattle.gix_odb_events.specs.declared.listing.ListingRow.{ListingRow}
use Rattle.gix_odb_events.specs.declared.slot.Filled.{Filled}
use Rattle.gix_odb_events.specs.declared.slot.IndexFile.{IndexFile}
use Rattle.gix_odb_events.specs.declared.slot.IndexFile.TheVariants.{Single, Multi}

-- ---- keys that are equal

pub and_true : (b : Bool) → (b && true) ≡ b
and_true true = refl
and_true false = refl

pub and_false : (b : Bool) → (b && false) ≡ false
and_false true = refl
and_false false = refl

pub same_parts : (path : Path) (time : Option ℕ) (other : Path) (later : Option ℕ) → is_eq (parts_cmp path time other later) ≡ (same_path path other && is_eq (option_cmp nat_cmp time later))
same_parts path time other later =
    sym (tied_then (path_cmp path other) (option_cmp nat_cmp time later))
    ∙ ap (λ (b : Bool). b && is_eq (option_cmp nat_cmp time later)) (sym (lists_ties (slice_cmp nat_cmp) texts_ties path other))

same_time_flip : (time later : Option ℕ) → is_eq (option_cmp nat_cmp time later) ≡ is_eq (option_cmp nat_cmp later time)
same_time_flip None None = refl
same_time_flip None (Some later) = refl
same_time_flip (Some time) None = refl
same_time_flip (Some time) (Some later) = (eq_by_cmp_equiv nat_cmp_total).symm time later

same_parts_flip : (path : Path) (time : Option ℕ) (other : Path) (later : Option ℕ) → is_eq (parts_cmp path time other later) ≡ is_eq (parts_cmp other later path time)
same_parts_flip path time other later =
    sym (tied_then (path_cmp path other) (option_cmp nat_cmp time later))
    ∙ ap (λ (b : Bool). b && is_eq (option_cmp nat_cmp time later)) ((eq_by_cmp_equiv (lists_total nat_list_cmp_total)).symm path other)
    ∙ ap (λ (b : Bool). is_eq (path_cmp other path) && b) (same_time_flip time later)
    ∙ tied_then (path_cmp other path) (option_cmp nat_cmp later time)

-- a slot holds a row if its index has the row's parts
held_parts : (row : ListingRow) (filled : Filled)
    → is_eq (parts_cmp (index_path filled.index) (index_time filled.index filled.time) row.path (row_time row.multi row.time)) ≡ holds row (Some filled)
held_parts row filled = same_parts (index_path filled.index) (index_time filled.index filled.time) row.path (row_time row.multi row.time) ∙ by row.multi filled.index
  where
    by : (multi : Option (List ℕ)) (index : IndexFile)
        → (same_path (index_path index) row.path && is_eq (option_cmp nat_cmp (index_time index filled.time) (row_time multi row.time))) ≡ is_index_of row multi index filled.time
    by None (Single file) = and_true (same_path file.path row.path)
    by None (Multi file) = and_false (same_path file.path row.path)
    by (Some multi) (Single file) = and_false (same_path file.path row.path)
    by (Some multi) (Multi file) = ap (λ (b : Bool). same_path file.path row.path && b) (sym (unsigned_ties filled.time row.time))

-- the rows that have the key of what a slot holds are those that keep it
row_has-filled : (key : IndexKey) (filled : Filled) (row : ListingRow) → key.path.now ≡ index_path filled.index → key.multi_time ≡ index_time filled.index filled.time
    → row_has key row ≡ holds row (Some filled)
row_has-filled key filled row path time =
    same_parts_flip row.path (row_time row.multi row.time) key.path.now key.multi_time
    ∙ ap (λ (p : Path). is_eq (parts_cmp p key.multi_time row.path (row_time row.multi row.time))) path
    ∙ ap (λ (t : Option ℕ). is_eq (parts_cmp (index_path filled.index) t row.path (row_time row.multi row.time))) time
    ∙ held_parts row filled

-- ---- the keys of rows

-- one more row
pub row_keys-step : (rows : List ListingRow) (i : ℕ) (row : ListingRow) (key other : IndexKey) (had has : Bool) → i < length rows → row ≡ get_or rows i row
    → key.path.now ≡ row.path → key.multi_time ≡ row_time row.multi row.time
    → had ≡ list_any (row_has other) (take i rows) → has ≡ cond (is_eq (key_cmp key other)) true had
    → has ≡ list_any (row_has other) (take (i + 1) rows)
row_keys-step rows i row key other had has within is path time so_far put =
    put
    ∙ ap (λ (b : Bool). cond b true had) own
    ∙ ap (λ (b : Bool). cond (row_has other row) true b) so_far
    ∙ either (row_has other row) (list_any (row_has other) (take i rows))
    ∙ ap (λ (r : ListingRow). list_any (row_has other) (take i rows) || row_has other r) is
    ∙ sym (list_any_more (row_has other) rows i row within)
  where
    own : is_eq (key_cmp key other) ≡ row_has other row
    own =
        ap (λ (p : Path). is_eq (parts_cmp p key.multi_time other.path.now other.multi_time)) path
        ∙ ap (λ (t : Option ℕ). is_eq (parts_cmp row.path t other.path.now other.multi_time)) time

    either : (b c : Bool) → cond b true c ≡ (c || b)
    either true true = refl
    either true false = refl
    either false true = refl
    either false false = refl

-- a row keeps what a slot holds where a row has its key
pub kept_by_key : (rows : List ListingRow) (key : IndexKey) (filled : Filled) → key.path.now ≡ index_path filled.index → key.multi_time ≡ index_time filled.index filled.time
    → list_any (row_has key) rows ≡ is_kept rows (Some filled)
kept_by_key [] key filled path time = refl
kept_by_key (row ∷ rows) key filled path time =
    ap (λ (b : Bool). b || list_any (row_has key) rows) (row_has-filled key filled row path time)
    ∙ ap (λ (b : Bool). holds row (Some filled) || b) (kept_by_key rows key filled path time)

-- no row keeps what an empty slot holds
pub none_kept : (rows : List ListingRow) → is_kept rows None ≡ false
none_kept [] = refl
none_kept (row ∷ rows) = none_kept rows

-- ---- the slots of rows

-- one more row, and the slot that holds it
pub places_of_rows-step : (slots : List Slot) (rows : List ListingRow) (i : ℕ) (row : ListingRow) (place : Option ℕ) (old new : List (Option ℕ)) → i < length rows
    → row ≡ get_or rows i row → place ≡ position (holds row) slots → old ≡ map (λ r. position (holds r) slots) (take i rows) → new ≡ old ++ place ∷ []
    → new ≡ map (λ r. position (holds r) slots) (take (i + 1) rows)
places_of_rows-step slots rows i row place old new within is found so_far put =
    put
    ∙ ap (λ (l : List (Option ℕ)). l ++ place ∷ []) so_far
    ∙ ap (λ (o : Option ℕ). map (λ r. position (holds r) slots) (take i rows) ++ o ∷ []) found
    ∙ sym (map_push (λ r. position (holds r) slots) (take i rows) row)
    ∙ ap (λ (r : ListingRow). map (λ r. position (holds r) slots) (take i rows ++ r ∷ [])) is
    ∙ ap (map (λ r. position (holds r) slots)) (sym (take_more rows i row within))

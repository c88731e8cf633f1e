-- A map that is made of pairs, the last one first, has what the list of the pairs has.
use Rattle.std.proofs.Common.{◌≡◌, List, [], ◌∷◌, Some, None, cond, refl, sym, ◌∙◌, ap}
use Rattle.std.specs.Prelude.{reverse}
use Rattle.std.specs.BTreeMap.{BTreeMap, IsFromIterResult, get, is_at}
use Rattle.std.specs.Cmp.{eq_by_cmp_equiv}
use Rattle.std.specs.FinMap.{find, from_entries, get-from_entries, same_map}
use Rattle.std.specs.FinMap as finite
use Rattle.std.specs.Map.{lookup, update_all}
use Rattle.std.specs.Ordering.{eq_by_cmp}
use Rattle.std.proofs.lemmas.List.{reverse-append}
use Rattle.std.proofs.lemmas.Map.{update_all_push}
use Rattle.gix_hash.specs.ObjectId.{id_cmp}
use Rattle.gix_hash.specs.declared.object_id.ObjectId.{ObjectId}
use Rattle.gix_hash.proofs.IdOrderLaws.{id_order, same_id}

abbrev Pairs : Type 0
Pairs = List (ObjectId × ObjectId)

-- a scan of a list from the front finds what the list as a map has
found : (id : ObjectId) (pairs : Pairs) → find id_cmp id pairs ≡ lookup (is_at (id_cmp id)) pairs
found id [] = refl
found id (pair ∷ pairs) = ap (cond (eq_by_cmp id_cmp id pair.0) (Some pair.1)) (found id pairs)

-- of pairs that are put into a map from the last to the first, the first one stands
first_stands : (id : ObjectId) (pairs : Pairs) → update_all (eq_by_cmp id_cmp) (λ _. None) (reverse pairs) id ≡ find id_cmp id pairs
first_stands id [] = refl
first_stands id (pair ∷ pairs) =
    ap (λ (ps : Pairs). update_all (eq_by_cmp id_cmp) (λ _. None) ps id) (reverse-append (pair ∷ []) pairs)
    ∙ sym (update_all_push (eq_by_cmp id_cmp) (λ _. None) (λ k. find id_cmp k pairs) (reverse pairs) pair id (sym (first_stands id pairs)))
    ∙ ap (λ b. cond b (Some pair.1) (find id_cmp id pairs)) ((eq_by_cmp_equiv id_order).symm pair.0 id)

pub same_replacements : (by_id : BTreeMap ObjectId ObjectId) (pairs : Pairs) → IsFromIterResult id_cmp (reverse pairs) by_id
    → from_entries {R = id_cmp} by_id.entries ≡ from_entries pairs
same_replacements by_id pairs made = same_map id_order same_id _ _ (λ id.
    get-from_entries id_order by_id.entries id ∙ found id by_id.entries ∙ made.0 id ∙ first_stands id pairs ∙ sym (get-from_entries id_order pairs id))

-- what the map has at an id is its replacement
pub replacement_is : (by_id : BTreeMap ObjectId ObjectId) (id : ObjectId) → get id_cmp by_id id ≡ finite.get (from_entries {R = id_cmp} by_id.entries) id
replacement_is by_id id = sym (get-from_entries id_order by_id.entries id ∙ found id by_id.entries)

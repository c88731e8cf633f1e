-- Ids that are added to a set, one after the other.
use Rattle.std.proofs.Common.{◌≡◌, inl, inr, ◌↔◌, ℕ, ◌+◌, ◌<◌, ◌||◌, Bool, true, false, cond, List, ◌∷◌, length, drop, get_or, Contains, refl, sym, ap, ◌∙◌}
use Rattle.std.specs.HashSet.{HashSet, contains}
use Rattle.std.proofs.lemmas.Bool.{or_cases, or_left, or_right}
use Rattle.std.proofs.lemmas.List.{drop_more}
use Rattle.std.proofs.lemmas.Map.Views.{Contains-from_any, list_any-from_Contains}
use Rattle.gix_hash.specs.declared.object_id.ObjectId.{ObjectId}
use Rattle.gix_odb_loose.specs.NameSet.{is_among}
use Rattle.gix_odb_loose.specs.PrefixNames.{Gains, same_id}
use Rattle.gix_odb_loose.proofs.NameSetLemmas.{same_id_is, same_id_laws}

-- a set with all of the names gains the ids that they are
pub gains_names : {S : Type 0} (Counts : ObjectId → Type 0) (before after : HashSet ObjectId S) (names : List ObjectId)
    → ((id : ObjectId) → contains same_id after id ≡ (contains same_id before id || is_among names id)) → ((id : ObjectId) → Contains names id ↔ Counts id) → Gains Counts before after
gains_names Counts before after names all are id = (
  λ has.
      elim (or_cases (contains same_id before id) (is_among names id) (sym (all id) ∙ has)) [
        | inl own ↦ inl own
        | inr among ↦ inr ((are id).0 (Contains-from_any same_id_is id names among))
      ],
  λ has.
      all id ∙ elim has [
        | inl own ↦ or_left (contains same_id before id) (is_among names id) own
        | inr counts ↦ or_right (contains same_id before id) (is_among names id) (list_any-from_Contains same_id_laws id names ((are id).1 counts))
      ],
)

-- ---- a loop over the names

or_moves : (own : Bool) (has rest : Bool) → (cond own true has || rest) ≡ (has || (own || rest))
or_moves true true rest = refl
or_moves true false rest = refl
or_moves false has rest = refl

-- one more name was added, and one fewer is left
pub added_one : {S : Type 0} (old new : HashSet ObjectId S) (names : List ObjectId) (i : ℕ) (name other : ObjectId) (whole : ObjectId → Bool) → i < length names → name ≡ get_or names i other
    → ((id : ObjectId) → contains same_id new id ≡ cond (same_id name id) true (contains same_id old id))
    → ((id : ObjectId) → (contains same_id old id || is_among (drop i names) id) ≡ whole id) → (id : ObjectId) → (contains same_id new id || is_among (drop (i + 1) names) id) ≡ whole id
added_one old new names i name other whole within is puts before id =
    ap (λ (b : Bool). b || is_among (drop (i + 1) names) id) (puts id ∙ ap (λ (b : Bool). cond b true (contains same_id old id)) (same_id_laws.symm name id))
    ∙ or_moves (same_id id name) (contains same_id old id) (is_among (drop (i + 1) names) id)
    ∙ ap (λ (rest : List ObjectId). contains same_id old id || is_among rest id) (sym (drop_more names i other within ∙ ap (λ (first : ObjectId). first ∷ drop (i + 1) names) (sym is)))
    ∙ before id

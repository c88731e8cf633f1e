-- The ids that look-ups of a prefix found, as a list and as a set: one more, and what is among them.
use Rattle.std.proofs.Common.{◌≡◌, ◌⊎◌, inl, ◌||◌, Bool, true, false, cond, List, [], ◌∷◌, ◌++◌, Contains, refl, sym, ap, ◌∙◌}
use Rattle.std.specs.BTreeSet.{BTreeSet, contains}
use Rattle.std.specs.Cmp.{IsEquivalence, eq_by_cmp_equiv}
use Rattle.std.specs.Cmp.Lexicographic.{bytes_decides}
use Rattle.std.specs.List.{IsDistinct}
use Rattle.std.specs.Ordering.{is_eq}
use Rattle.std.proofs.Math.Bool.{or-false}
use Rattle.std.proofs.lemmas.List.Elements.{Contains-append_left, Contains-push, Contains-push_cases}
use Rattle.std.proofs.lemmas.List.Folds.{list_any-append}
use Rattle.std.proofs.lemmas.Map.Keys.{IsDistinct-push}
use Rattle.std.proofs.lemmas.Map.Views.{Contains-from_any}
use Rattle.gix_hash.specs.IdOrder.{id_order, ids_tie}
use Rattle.gix_hash.specs.ObjectId.{id_cmp}
use Rattle.gix_hash.specs.declared.object_id.ObjectId.{ObjectId}
use Rattle.gix_hash.specs.declared.object_id.ObjectId.TheVariants.{Sha1, Sha256}
use Rattle.gix_odb_loose.specs.NameSet.{AreKnown, is_among, taken}
use Rattle.gix_odb_loose.specs.PrefixNames.{same_id}

-- ---- ids

pub same_id_is : (one other : ObjectId) → same_id one other ≡ true → one ≡ other
same_id_is (Sha1 a) (Sha1 b) same = ap Sha1 ((bytes_decides a b).0 same)
same_id_is (Sha1 a) (Sha256 b) same = absurd (cc same)
same_id_is (Sha256 a) (Sha1 b) same = absurd (cc same)
same_id_is (Sha256 a) (Sha256 b) same = ap Sha256 ((bytes_decides a b).0 same)

pub same_id_own : (id : ObjectId) → same_id id id ≡ true
same_id_own (Sha1 a) = (bytes_decides a a).1 refl
same_id_own (Sha256 a) = (bytes_decides a a).1 refl

pub same_id_laws : IsEquivalence same_id
same_id_laws =
    record {
      refl = same_id_own;
      symm = λ a b. ids_tie a b ∙ (eq_by_cmp_equiv id_order).symm a b ∙ sym (ids_tie b a);
      congr = λ a b c same. ap (λ (id : ObjectId). same_id id c) (same_id_is a b same);
    }

-- ---- one more name

pub none_distinct : IsDistinct same_id []
unfolding IsDistinct
none_distinct = tt

module _ (names : List ObjectId) (id : ObjectId) where
  -- what holds of the names with and without it, by whether it was there
  by_among : (P : List ObjectId → Type 0) → (is_among names id ≡ true → P names) → (is_among names id ≡ false → P (names ++ id ∷ [])) → P (taken names id)
  by_among P there new =
      elim (is_among names id) as (λ b. is_among names id ≡ b → P (cond b names (names ++ id ∷ []))) [
        | true ↦ there
        | false ↦ new
      ] refl

  pub taken_has : Contains (taken names id) id
  taken_has = by_among (λ ids. Contains ids id) (λ among. Contains-from_any same_id_is id names among) (λ _. Contains-push names id)

  pub taken_keeps : (x : ObjectId) → Contains names x → Contains (taken names id) x
  taken_keeps x has = by_among (λ ids. Contains ids x) (λ _. has) (λ _. Contains-append_left names (id ∷ []) x has)

  pub taken_cases : (x : ObjectId) → Contains (taken names id) x → Contains names x ⊎ (id ≡ x)
  taken_cases x = by_among (λ ids. Contains ids x → Contains names x ⊎ (id ≡ x)) (λ _ has. inl has) (λ _ has. Contains-push_cases names id x has)

  pub taken_distinct : IsDistinct same_id names → IsDistinct same_id (taken names id)
  taken_distinct distinct = by_among (IsDistinct same_id) (λ _. distinct) (λ new. IsDistinct-push same_id_laws names id distinct new)

-- ---- the set beside the list

among_push : (names : List ObjectId) (id other : ObjectId) → is_among (names ++ id ∷ []) other ≡ (is_among names other || same_id other id)
among_push names id other = list_any-append (same_id other) names (id ∷ []) ∙ ap (λ b. is_among names other || b) (or-false (same_id other id))

-- both have one id more
pub known_more : (known new : BTreeSet ObjectId) (names : List ObjectId) (id : ObjectId) → AreKnown known names
    → ((other : ObjectId) → contains id_cmp new other ≡ (contains id_cmp known other || same_id other id)) → AreKnown new (names ++ id ∷ [])
known_more known new names id was more other = more other ∙ ap (λ b. b || same_id other id) (was other) ∙ sym (among_push names id other)

-- the set has what it had
pub known_still : (known new : BTreeSet ObjectId) (names : List ObjectId) → new.keys ≡ known.keys → AreKnown known names → AreKnown new names
known_still known new names same was other =
    let set : List ObjectId → BTreeSet ObjectId = λ keys. record { keys = keys } in ap (λ (keys : List ObjectId). contains id_cmp (set keys) other) same ∙ was other

pub taken_there : (names : List ObjectId) (id : ObjectId) → is_among names id ≡ true → taken names id ≡ names
taken_there names id there = ap (λ b. cond b names (names ++ id ∷ [])) there

pub taken_new : (names : List ObjectId) (id : ObjectId) → is_among names id ≡ false → taken names id ≡ names ++ id ∷ []
taken_new names id new = ap (λ b. cond b names (names ++ id ∷ [])) new

either : (b c : Bool) → cond b true c ≡ (c || b)
either true true = refl
either true false = refl
either false true = refl
either false false = refl

-- a set with one id more
pub has_more : (id other : ObjectId) (had has : Bool) → has ≡ cond (is_eq (id_cmp id other)) true had → has ≡ (had || same_id other id)
has_more id other had has put = put ∙ ap (λ b. cond b true had) (sym (ids_tie id other) ∙ same_id_laws.symm id other) ∙ either (same_id other id) had

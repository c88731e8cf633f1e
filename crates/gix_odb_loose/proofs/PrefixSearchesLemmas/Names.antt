-- The names that a look-up of a prefix has found, and what its answer says of them.
use Rattle.std.proofs.Common.{◌≡◌, inl, inr, ◌↔◌, ◌&&◌, Bool, true, false, not, List, [], ◌∷◌, Contains, refl, sym, ap, ◌∙◌}
use Rattle.std.specs.List.{IsDistinct}
use Rattle.std.proofs.lemmas.Map.Keys.{IsDistinct-head}
use Rattle.odb_disk.specs.Tree.{Tree}
use Rattle.gix_hash.specs.declared.object_id.ObjectId.{ObjectId}
use Rattle.gix_odb_loose.specs.NameSet.{is_ambiguous, outcome_of}
use Rattle.gix_odb_loose.specs.PrefixNames.{Tells, TwoCount, same_id}
use Rattle.gix_odb_loose.specs.PrefixSearches.{AreFound, AreLeft, Began, Counts, IsMatched}
use Rattle.gix_odb_loose.specs.declared.prefix_search.Match.TheVariants.{File, Link}
use Rattle.gix_odb_loose.proofs.NameSetLemmas.{same_id_own}
use Rattle.gix_odb_loose.proofs.PrefixListLemmas.{first_or_later, has_first, has_later, none_in}

-- ---- what the answer says

pub only_one : (id x : ObjectId) → Contains (id ∷ []) x → x ≡ id
only_one id x has =
    elim (first_or_later id [] x has) [
      | inl same ↦ sym same
      | inr none ↦ absurd (none_in x none)
    ]

none_matched : (id : ObjectId) → ¬ (IsMatched [] id)
none_matched id (inl file) = none_in (File id) file
none_matched id (inr link) = none_in (Link id) link

both_true : (a b : Bool) → (a && b) ≡ true → (a ≡ true) × (b ≡ true)
both_true true true is = (refl, refl)
both_true true false is = absurd (cc is)
both_true false b is = absurd (cc is)

module _ (b : Began) (tree : Tree) where
  -- what is found where a look-up ends with these names
  pub record IsEnded (names : List ObjectId) : Type 0 where
    pub answer : Tells (Counts b tree) (outcome_of names)
    pub names_are : b.gather ≡ true → (id : ObjectId) → Contains names id ↔ Counts b tree id

  two_found : (one other : ObjectId) (names : List ObjectId) → IsDistinct same_id (one ∷ other ∷ names) → AreFound b tree (one ∷ other ∷ names) → TwoCount (Counts b tree)
  two_found one other names distinct found =
      record {
        one = one;
        other = other;
        first = found one (has_first one (other ∷ names));
        second = found other (has_later one (other ∷ names) other (has_first other names));
        differ =
            λ same.
            let apart : same_id one other ≡ false = (IsDistinct-head same_id one (other ∷ names) distinct).0 in
            let both : true ≡ false = sym (same_id_own one) ∙ ap (same_id one) same ∙ apart in
            cc both;
      }

  tells : (names : List ObjectId) → IsDistinct same_id names → AreFound b tree names → ((id : ObjectId) → Counts b tree id → Contains names id) → Tells (Counts b tree) (outcome_of names)
  tells [] distinct found each = λ id counts. none_in id (each id counts)
  tells (id ∷ []) distinct found each = (found id (has_first id []), λ other counts. only_one id other (each other counts))
  tells (one ∷ other ∷ names) distinct found each = two_found one other names distinct found

  -- nothing is left
  pub ended_whole : (names : List ObjectId) → IsDistinct same_id names → AreLeft b tree names [] → IsEnded names
  ended_whole names distinct left =
      let each : (id : ObjectId) → Counts b tree id → Contains names id =
      λ id counts.
      elim (left.each id counts) [
        | inl has ↦ has
        | inr more ↦ absurd (none_matched id more)
      ] in
      record { answer = tells names distinct left.found each; names_are = λ _ id. (left.found id, each id) }

  -- there are no candidates
  pub ended_none : (names : List ObjectId) → names ≡ [] → ((id : ObjectId) → ¬ (Counts b tree id)) → IsEnded names
  ended_none [] is none = record { answer = none; names_are = λ _ id. (λ has. absurd (none_in id has), λ counts. absurd (none id counts)) }
  ended_none (first ∷ names) is none = absurd (cc is)

  several_tell : (names : List ObjectId) → IsDistinct same_id names → AreFound b tree names → is_ambiguous names ≡ true → Tells (Counts b tree) (outcome_of names)
  several_tell [] distinct found several = absurd (cc several)
  several_tell (id ∷ []) distinct found several = absurd (cc several)
  several_tell (one ∷ other ∷ names) distinct found several = two_found one other names distinct found

  -- two are enough
  pub ended_settled : (names : List ObjectId) → IsDistinct same_id names → AreFound b tree names → (is_ambiguous names && not b.gather) ≡ true → IsEnded names
  ended_settled names distinct found settled =
      let own = both_true (is_ambiguous names) (not b.gather) settled in
      record {
        answer = several_tell names distinct found own.0;
        names_are = λ gather id. absurd (let both : not true ≡ true = ap not (sym gather) ∙ own.1 in cc both);
      }

-- The ids that look-ups of a prefix found, each once, in the order in which they were found.
use Rattle.std.specs.Prelude.{◌≡◌, Bool, true, false, List, [], ◌∷◌, ◌++◌, Option, Some, None, if◌then◌else◌}
use Rattle.std.specs.BTreeSet.{BTreeSet, contains}
use Rattle.std.specs.List.{list_any}
use Rattle.gix_hash.specs.ObjectId.{id_cmp}
use Rattle.gix_hash.specs.declared.object_id.ObjectId.{ObjectId}
use Rattle.gix_odb_loose.specs.PrefixNames.{same_id}
use Rattle.gix_odb_loose.specs.declared.lookup.Outcome.{Outcome}
use Rattle.gix_odb_loose.specs.declared.lookup.Outcome.TheVariants.{One, Ambiguous}

-- whether an id is among others
abbrev pub is_among : List ObjectId → ObjectId → Bool
is_among names id = list_any (same_id id) names

-- an id that was found comes last, unless it is there already
abbrev pub taken : List ObjectId → ObjectId → List ObjectId
taken names id = if is_among names id then names else names ++ id ∷ []

-- whether there are several
abbrev pub is_ambiguous : List ObjectId → Bool
is_ambiguous [] = false
is_ambiguous (id ∷ []) = false
is_ambiguous (one ∷ other ∷ names) = true

-- what is answered: none, one, or several
abbrev pub outcome_of : List ObjectId → Option Outcome
outcome_of [] = None
outcome_of (id ∷ []) = Some (One id)
outcome_of (one ∷ other ∷ names) = Some Ambiguous

-- a set has these ids, and no other
abbrev pub AreKnown : BTreeSet ObjectId → List ObjectId → Type 0
AreKnown known names = (id : ObjectId) → contains id_cmp known id ≡ is_among names id

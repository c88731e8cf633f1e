-- What the words of the command line ask: for ids of one hash, at least one.
use Rattle.std.specs.Prelude.{ℕ, List, [], ◌∷◌, ◌++◌, Option, Some, None, option_map}
use Rattle.gix_hash.specs.ObjectId.{id_of, kind_of}
use Rattle.gix_hash.specs.declared.kind.Kind.{Kind}
use Rattle.gix_hash.specs.declared.kind.Kind.TheVariants.{Sha1, Sha256}
use Rattle.gix_hash.specs.declared.object_id.ObjectId.{ObjectId}
use Rattle.gix_hash.specs.declared.object_id.ObjectId.TheVariants as ids
use Rattle.probe_index.specs.declared.asked.Asked.{Asked}

-- an id, if it is of the hash
abbrev pub kept : Kind → Option ObjectId → Option ObjectId
kept kind None = None
kept Sha1 (Some (ids.Sha1 bytes)) = Some (ids.Sha1 bytes)
kept Sha1 (Some (ids.Sha256 bytes)) = None
kept Sha256 (Some (ids.Sha1 bytes)) = None
kept Sha256 (Some (ids.Sha256 bytes)) = Some (ids.Sha256 bytes)

-- what further words ask after ids, with one more id
abbrev pub with_id : (List ObjectId → Option (List ObjectId)) → List ObjectId → Option ObjectId → Option (List ObjectId)
with_id further ids None = None
with_id further ids (Some id) = further (ids ++ id ∷ [])

-- the ids of the hash that words spell, after those that are read; None if one spells none
unfoldable pub ids_of : Kind → List (List ℕ) → List ObjectId → Option (List ObjectId)
ids_of kind [] ids = Some ids
ids_of kind (word ∷ words) ids = with_id (ids_of kind words) ids (kept kind (id_of word))

abbrev pub asked_with : Kind → List (List ℕ) → Option Asked
asked_with kind words = option_map (λ ids. record { kind = kind; ids = ids }) (ids_of kind words [])

-- all words are ids, of the hash of the first
abbrev pub asked_by : Option ObjectId → List (List ℕ) → Option Asked
asked_by None words = None
asked_by (Some id) words = asked_with (kind_of id) words

unfoldable pub asked_of : List (List ℕ) → Option Asked
asked_of [] = None
asked_of (word ∷ words) = asked_by (id_of word) (word ∷ words)

-- A folder's call that writes: it writes the id that it was begun with.
use Rattle.std.proofs.Common.{◌≡◌, ℕ, true, List, Option, Some, None, refl}
use Rattle.gix_hash.specs.ObjectId.{kind_of}
use Rattle.gix_hash.specs.declared.kind.Kind.{Kind as HashKind}
use Rattle.gix_hash.specs.declared.kind.Kind.TheVariants.{Sha1, Sha256}
use Rattle.gix_hash.specs.declared.object_id.ObjectId.{ObjectId}
use Rattle.gix_object.proofs.IdLaws.{kind_of-object_id}
use Rattle.gix_object.specs.declared.kind.Kind.{Kind}
use Rattle.gix_odb_loose.specs.LooseFile.{id_asked}
use Rattle.gix_odb_loose.specs.declared.call.LooseJob.TheVariants as jobs
use Rattle.gix_odb_calls.specs.Hashes.{is_same_hash}
use Rattle.gix_odb_calls.specs.declared.call.Call.TheVariants.{Write}
use Rattle.gix_odb.specs.CallOrder.{IsOfHash}

same_is : (one other : HashKind) → is_same_hash one other ≡ true → one ≡ other
same_is Sha1 Sha1 is = refl
same_is Sha1 Sha256 is = absurd (cc is)
same_is Sha256 Sha1 is = absurd (cc is)
same_is Sha256 Sha256 is = refl

-- the id that a write is about is of the hash that it is written with
pub start_fits : (kind : Kind) (size : ℕ) (bytes : List ℕ) (known : Option ObjectId) (hash : HashKind) → IsOfHash hash (Write kind size bytes known)
    → kind_of (id_asked hash (jobs.Write kind size bytes known)) ≡ hash
start_fits kind size bytes None hash is = kind_of-object_id hash kind bytes
start_fits kind size bytes (Some id) hash is = same_is (kind_of id) hash is

-- The laws of the order of ids, for callers: it is total, ids at one place in it are one id, and one kind is ordered by
-- bytes.
use Rattle.std.proofs.Common.{◌≡◌, Equal, refl, ap}
use Rattle.std.specs.Cmp.Lexicographic.{slice_cmp}
use Rattle.std.specs.FinMap.{IsAntisymmetric, nat_cmp-IsAntisymmetric, slice_cmp-IsAntisymmetric}
use Rattle.std.specs.Ordering.{nat_cmp}
use Rattle.gix_hash.specs.ObjectId.{bytes_of, id_cmp, kind_of}
use Rattle.gix_hash.specs.declared.object_id.ObjectId.{ObjectId}
use Rattle.gix_hash.specs.declared.object_id.ObjectId.TheVariants.{Sha1, Sha256}
pub use Rattle.gix_hash.specs.IdOrder.{id_order}

same_bytes : IsAntisymmetric (slice_cmp nat_cmp)
same_bytes = slice_cmp-IsAntisymmetric nat_cmp-IsAntisymmetric

-- ids at one place in the order are one id
pub same_id : (a b : ObjectId) → id_cmp a b ≡ Equal → a ≡ b
same_id (Sha1 a) (Sha1 b) h = ap Sha1 (same_bytes a b h)
same_id (Sha1 a) (Sha256 b) h = cc h
same_id (Sha256 a) (Sha1 b) h = cc h
same_id (Sha256 a) (Sha256 b) h = ap Sha256 (same_bytes a b h)

-- ids of one kind are in the order of their bytes
pub id_cmp-of_kind : (a b : ObjectId) → kind_of a ≡ kind_of b → id_cmp a b ≡ slice_cmp nat_cmp (bytes_of a) (bytes_of b)
id_cmp-of_kind (Sha1 a) (Sha1 b) h = refl
id_cmp-of_kind (Sha1 a) (Sha256 b) h = cc h
id_cmp-of_kind (Sha256 a) (Sha1 b) h = cc h
id_cmp-of_kind (Sha256 a) (Sha256 b) h = refl

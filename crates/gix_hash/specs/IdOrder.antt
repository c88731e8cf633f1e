-- Laws of the order of ids: it is total, and ties where `==` holds. No other clause cites this module.
use Rattle.std.specs.Prelude.{◌≡◌, refl}
use Rattle.std.specs.Cmp.{IsTotalOrder, nat_cmp_total, on_total, then_total}
use Rattle.std.specs.Cmp.Lexicographic.{nat_list_cmp_total, texts_ties}
use Rattle.std.specs.Ordering.{eq_by_cmp}
use Rattle.gix_hash.specs.ObjectId.{bytes_of, id_cmp, kind_of, rank_of}
use Rattle.gix_hash.specs.contracts.object_id.ObjectIdPartialEq.TheImpl as same
use Rattle.gix_hash.specs.declared.object_id.ObjectId.{ObjectId}
use Rattle.gix_hash.specs.declared.object_id.ObjectId.TheVariants.{Sha1, Sha256}

-- it is a total order
pub id_order : IsTotalOrder id_cmp
id_order = then_total (on_total (λ (id : ObjectId). rank_of (kind_of id)) nat_cmp_total) (on_total bytes_of nat_list_cmp_total)

-- `==` holds of ids that tie
pub ids_tie : (a b : ObjectId) → (same.ghosts).eq a b ≡ eq_by_cmp id_cmp a b
ids_tie (Sha1 a) (Sha1 b) = texts_ties a b
ids_tie (Sha1 a) (Sha256 b) = refl
ids_tie (Sha256 a) (Sha1 b) = refl
ids_tie (Sha256 a) (Sha256 b) = texts_ties a b

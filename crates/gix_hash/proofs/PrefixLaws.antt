-- The laws of prefixes, for callers: which ids have one, and where it is among ids that rise.
use Rattle.std.proofs.Common.{◌≡◌, ℕ, ◌≤◌, slice_index, take, Ordering, Less, Equal, Greater, refl, sym, ◌∙◌, arith}
use Rattle.std.specs.Ordering.{nat_cmp, on, ordering_then, then_cmp}
use Rattle.std.specs.Cmp.{IsTotalOrder}
use Rattle.std.specs.Cmp.Lexicographic.{slice_cmp}
use Rattle.std.specs.FinMap.{nat_cmp-IsAntisymmetric, slice_cmp-IsAntisymmetric}
use Rattle.std.proofs.lemmas.Cmp.{alike_right, nat_cmp_total, nat_list_cmp_total, on_total, then_total, tied_itself}
use Rattle.hex.specs.Hex.{IsBytes}
use Rattle.gix_hash.specs.ObjectId.{bytes_of, first_byte_of, hex_of, id_cmp, kind_of, rank_of}
use Rattle.gix_hash.specs.Prefix.{PrefixOf, digits_of, prefix_cmp, HasPrefix, IsPrefix}
use Rattle.gix_hash.specs.declared.kind.Kind.{Kind}
use Rattle.gix_hash.specs.declared.kind.Kind.TheVariants as kind
use Rattle.gix_hash.specs.declared.object_id.ObjectId.{ObjectId}
use Rattle.gix_hash.proofs.PrefixLemmas.Order.{first_byte_same, texts_rise, then_rises}

-- ---- the ids of a prefix

rank_of-same : (a b : Kind) → rank_of a ≡ rank_of b → a ≡ b
rank_of-same kind.Sha1 kind.Sha1 h = refl
rank_of-same kind.Sha1 kind.Sha256 h = cc h
rank_of-same kind.Sha256 kind.Sha1 h = cc h
rank_of-same kind.Sha256 kind.Sha256 h = refl

both_Equal : (o p : Ordering) → ordering_then o p ≡ Equal → (o ≡ Equal) × (p ≡ Equal)
both_Equal Less p h = cc h
both_Equal Equal p h = (refl, h)
both_Equal Greater p h = cc h

-- an id with which the prefix ties has it
pub HasPrefix-from_Equal : (prefix : PrefixOf) (id : ObjectId) → prefix_cmp prefix id ≡ Equal → HasPrefix prefix id
HasPrefix-from_Equal prefix id h =
    let parts = both_Equal (nat_cmp (rank_of (kind_of prefix.id)) (rank_of (kind_of id))) _ h in
    let ranks = nat_cmp-IsAntisymmetric (rank_of (kind_of prefix.id)) (rank_of (kind_of id)) parts.0 in
    record {
      kind = sym (rank_of-same (kind_of prefix.id) (kind_of id) ranks);
      digits = sym (slice_cmp-IsAntisymmetric nat_cmp-IsAntisymmetric (digits_of prefix) (take prefix.hex_len (hex_of id)) parts.1);
    }

-- a prefix ties with each id that has it
pub Equal-from_HasPrefix : (prefix : PrefixOf) (id : ObjectId) → HasPrefix prefix id → prefix_cmp prefix id ≡ Equal
Equal-from_HasPrefix prefix id has =
    rw (has.kind, has.digits, tied_itself nat_cmp_total (rank_of (kind_of prefix.id))) (tied_itself nat_list_cmp_total (digits_of prefix))

-- an id with which the prefix ties begins with the prefix's first byte
pub same_first_byte : (prefix : PrefixOf) (id : ObjectId) → IsPrefix prefix → IsBytes (bytes_of id) → prefix_cmp prefix id ≡ Equal → first_byte_of id ≡ first_byte_of prefix.id
same_first_byte prefix id is bytes h =
    let parts = both_Equal (nat_cmp (rank_of (kind_of prefix.id)) (rank_of (kind_of id))) (slice_cmp nat_cmp (digits_of prefix) (take prefix.hex_len (hex_of id))) h in
    let long : 2 ≤ prefix.hex_len = omega arith in
    first_byte_same prefix.hex_len (bytes_of prefix.id) (bytes_of id) is.id.bytes bytes long parts.1

-- ---- a prefix among ids that rise

-- the order of ids by their kinds and so many digits, in which a prefix is where its id is
abbrev front_cmp : ℕ → ObjectId → ObjectId → Ordering
front_cmp n = then_cmp (on (λ id. rank_of (kind_of id)) nat_cmp) (on (λ id. take n (hex_of id)) (slice_cmp nat_cmp))

front_order : (n : ℕ) → IsTotalOrder (front_cmp n)
front_order n = then_total (on_total (λ (id : ObjectId). rank_of (kind_of id)) nat_cmp_total) (on_total (λ (id : ObjectId). take n (hex_of id)) nat_list_cmp_total)

-- the first digits of ids that rise don't fall
fronts_rise : (n : ℕ) (a b : ObjectId) → IsBytes (bytes_of a) → IsBytes (bytes_of b) → id_cmp a b ≡ Less → front_cmp n a b ≡ Greater → ⊥
fronts_rise n a b first second up down =
    then_rises (nat_cmp (rank_of (kind_of a)) (rank_of (kind_of b))) (slice_cmp nat_cmp (bytes_of a) (bytes_of b)) (slice_cmp nat_cmp (take n (hex_of a)) (take n (hex_of b)))
    (texts_rise n (bytes_of a) (bytes_of b) first second) up down

module _ {K : Type 0} {R : K → K → Ordering} (order : IsTotalOrder R) (x a b : K) (rise : R a b ≡ Greater → ⊥) where
  stays_below : R x a ≡ Less → R x b ≡ Less
  stays_below h = by_order (R a b) refl
    where
      by_order : (o : Ordering) → o ≡ R a b → R x b ≡ Less
      by_order Less is = order.trans x a b h (sym is)
      by_order Equal is = sym (alike_right order a b x (sym is)) ∙ h
      by_order Greater is = absurd (rise (sym is))

  comes_no_later : R x a ≡ Equal → R x b ≡ Greater → ⊥
  comes_no_later tie h = rise (sym (order.congr x a b tie) ∙ h)

-- below an id, a prefix is below each later one
pub below_later : (prefix : PrefixOf) (a b : ObjectId) → IsBytes (bytes_of a) → IsBytes (bytes_of b) → id_cmp a b ≡ Less
    → prefix_cmp prefix a ≡ Less → prefix_cmp prefix b ≡ Less
below_later prefix a b first second up = stays_below (front_order prefix.hex_len) prefix.id a b (fronts_rise prefix.hex_len a b first second up)

-- if an id has the prefix, the prefix is above no later one
pub not_above_later : (prefix : PrefixOf) (a b : ObjectId) → IsBytes (bytes_of a) → IsBytes (bytes_of b) → id_cmp a b ≡ Less
    → prefix_cmp prefix a ≡ Equal → prefix_cmp prefix b ≡ Greater → ⊥
not_above_later prefix a b first second up = comes_no_later (front_order prefix.hex_len) prefix.id a b (fronts_rise prefix.hex_len a b first second up)

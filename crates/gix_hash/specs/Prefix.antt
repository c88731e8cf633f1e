-- Prefixes of ids: the first digits of an id's hex text, and which ids begin with them.
use Rattle.std.specs.Prelude.{◌≡◌, ℕ, ◌-◌, ◌≤◌, List, take, drop, replicate, nat_le, if◌then◌else◌}
use Rattle.std.specs.Ordering.{nat_cmp, ordering_then}
use Rattle.std.specs.Cmp.Lexicographic.{slice_cmp}
use Rattle.std.specs.declared.cmp.Ordering.{Ordering}
use Rattle.gix_hash.specs.Kind.{digits_in}
use Rattle.gix_hash.specs.ObjectId.{kind_of, hex_of, rank_of, IsId}
use Rattle.gix_hash.specs.declared.kind.Kind.{Kind}
use Rattle.gix_hash.specs.declared.kind.Kind.TheVariants.{Sha1, Sha256}
use Rattle.gix_hash.specs.declared.object_id.ObjectId.{ObjectId}

-- the fewest digits of a prefix: fewer would match too many ids of one repository
abbrev pub fewest_digits : ℕ
fewest_digits = 4

-- so many digits `0`, each of them byte 48
abbrev pub zero_digits : ℕ → List ℕ
zero_digits n = replicate n 48

-- a prefix as an id with this many digits in front
pub record PrefixOf : Type 0 where
  pub id : ObjectId
  pub hex_len : ℕ

-- the digits of a prefix
abbrev pub digits_of : PrefixOf → List ℕ
digits_of prefix = take prefix.hex_len (hex_of prefix.id)

-- what holds of every prefix: it has from the fewest digits to all that its kind has, and zeros follow them
pub record IsPrefix (prefix : PrefixOf) : Type 0 where
  pub id : IsId prefix.id
  pub not_short : fewest_digits ≤ prefix.hex_len
  pub not_long : prefix.hex_len ≤ digits_in (kind_of prefix.id)
  pub zeros : drop prefix.hex_len (hex_of prefix.id) ≡ zero_digits (digits_in (kind_of prefix.id) - prefix.hex_len)

-- an id is of the prefix's kind, and its text begins with the prefix
pub record HasPrefix (prefix : PrefixOf) (id : ObjectId) : Type 0 where
  pub kind : kind_of id ≡ kind_of prefix.id
  pub digits : take prefix.hex_len (hex_of id) ≡ digits_of prefix

-- the order of a prefix and an id: kinds first, and then the digits that the prefix has
abbrev pub prefix_cmp : PrefixOf → ObjectId → Ordering
prefix_cmp prefix id =
    ordering_then (nat_cmp (rank_of (kind_of prefix.id)) (rank_of (kind_of id)))
    (slice_cmp nat_cmp (digits_of prefix) (take prefix.hex_len (hex_of id)))

-- the kind of id that a text of so many digits is a prefix of
abbrev pub kind_of_digits : ℕ → Kind
kind_of_digits digits = if nat_le digits (digits_in Sha1) then Sha1 else Sha256

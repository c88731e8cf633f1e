-- The kinds of hash.
use Rattle.std.specs.Prelude.{ℕ, ◌*◌, List, codes}
use Rattle.gix_hash.specs.declared.kind.Kind.{Kind}
use Rattle.gix_hash.specs.declared.kind.Kind.TheVariants.{Sha1, Sha256}

-- the length of an id of this kind, in bytes: a digest of SHA-1 has 160 bits, and one of SHA-256 has 256 (FIPS 180-4)
abbrev pub len_in_bytes_of : Kind → ℕ
len_in_bytes_of Sha1 = 20
len_in_bytes_of Sha256 = 32

-- the length of an id of this kind as text: two hex digits for each byte
abbrev pub digits_in : Kind → ℕ
digits_in kind = 2 * len_in_bytes_of kind

-- the most digits that an id has
abbrev pub most_digits : ℕ
most_digits = digits_in Sha256

-- the name that is printed
abbrev pub name_of : Kind → List ℕ
name_of Sha1 = codes "sha1"
name_of Sha256 = codes "sha256"

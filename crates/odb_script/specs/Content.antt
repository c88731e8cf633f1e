-- Data and the contents of files as fields of a line.
use Rattle.std.specs.Prelude.{ℕ, List, [], ◌∷◌, ◌++◌, ◌^◌, ◌&&◌, nat_eq, nat_lt, length, map, sum_by, codes, Bool, Option, Some, None, option_map, option_and_then, Result, Ok, Err, if◌then◌else◌}
use Rattle.std.specs.List.{starts_with}
use Rattle.hex.specs.Hex.{decode_of}
use Rattle.hex.specs.declared.error.FromHexError.{FromHexError}
use Rattle.odb_base.specs.Path.{same_name}
use Rattle.gix_hash.specs.declared.kind.Kind.TheVariants.{Sha1}
use Rattle.gix_object.specs.declared.kind.Kind.{Kind}
use Rattle.gix_object.specs.Kind.{kind_of_word}
use Rattle.gix_object.specs.Loose.{header_of}
use Rattle.gix_pack_write.specs.declared.object.Object.{Object}
use Rattle.gix_pack_write.specs.declared.multi_index.named_pack.NamedPack.{NamedPack}
use Rattle.gix_pack_read.specs.MultiIndex.{are_names}
use Rattle.gix_pack_write.specs.WrittenPack.{object_seen, pack_of}
use Rattle.gix_pack_write.specs.WrittenIndex.{index_of}
use Rattle.gix_pack_write.specs.WrittenMultiIndex.{Named, names_of, named_seen, multi_index_of_packs}
use Rattle.odb_script.specs.Split.{before_colon, after_colon, before_equals, after_equals, at_commas, at_semicolons}

-- the bytes of hex digits of either case
abbrev pub given : Result (List ℕ) FromHexError → Option (List ℕ)
given (Ok bytes) = Some bytes
given (Err error) = None

-- data: `-` for nothing, else an even number of hex digits, at least two
unfoldable pub data_of : List ℕ → Option (List ℕ)
data_of [] = None
data_of (c ∷ rest) = if same_name (c ∷ rest) (codes "-") then Some [] else given (decode_of (c ∷ rest))

-- ---- objects and packs

abbrev pub object_by : Option Kind → Option (List ℕ) → Option Object
object_by None found = None
object_by (Some kind) None = None
object_by (Some kind) (Some bytes) = Some (record { kind = kind; bytes = bytes })

-- `KIND:DATA`, by the first colon
unfoldable pub object_of : List ℕ → Option Object
object_of text = object_by (kind_of_word (before_colon text)) (data_of (after_colon text))

-- what is read with one more item
abbrev pub with_item : {A : Type 0} → (List A → Option (List A)) → List A → Option A → Option (List A)
with_item further items None = None
with_item further items (Some item) = further (items ++ item ∷ [])

-- the items that texts spell, after those that are read; None if one spells none
unfoldable pub items_of : {A : Type 0} → (List ℕ → Option A) → List (List ℕ) → List A → Option (List A)
items_of read [] items = Some items
items_of read (text ∷ texts) items = with_item (items_of read texts) items (read text)

-- `OBJ,OBJ..`
abbrev pub objects_of : List ℕ → Option (List Object)
objects_of text = items_of object_of (at_commas text) []

abbrev pub pack_by : List ℕ → Option (List Object) → Option NamedPack
pack_by stem None = None
pack_by stem (Some objects) = Some (record { name = stem ++ codes ".idx"; objects = objects })

-- `STEM=OBJ,OBJ..`, by the first `=`: the pack whose index is `STEM.idx`
unfoldable pub named_pack_of : List ℕ → Option NamedPack
named_pack_of text = pack_by (before_equals text) (objects_of (after_equals text))

-- `STEM=OBJ,OBJ..;STEM=..`
abbrev pub packs_of : List ℕ → Option (List NamedPack)
packs_of text = items_of named_pack_of (at_semicolons text) []

-- ---- what is encoded

-- an object as the bytes of its loose file
abbrev pub loose_file : Object → List ℕ
loose_file object = header_of object.kind (length object.bytes) ++ object.bytes

-- Packs and indices have fewer objects: a row of an index names a wide offset by 31 bits. No script is long enough for so many.
abbrev pub object_limit : ℕ
object_limit = 2 ^ 31

-- whether a pack or an index can have so many objects
abbrev pub are_few : List Object → Bool
are_few objects = nat_lt (length objects) object_limit

-- the pack of objects, and its index
abbrev pub pack_file : List Object → Option (List ℕ)
pack_file objects = if are_few objects then Some (pack_of Sha1 (map object_seen objects)) else None

abbrev pub index_file : List Object → Option (List ℕ)
index_file objects = if are_few objects then Some (index_of Sha1 (map object_seen objects)) else None

-- whether packs can be in a multi-index: their names are those of indices and rise, and they and their objects are few
unfoldable pub can_be_written : List Named → Bool
can_be_written packs =
    are_names (names_of packs) && nat_lt (length packs) object_limit && nat_lt (sum_by (λ (pack : Named). length pack.objects) packs) object_limit

-- the multi-index of packs
abbrev pub multi_index_by : List Named → Option (List ℕ)
multi_index_by packs = if can_be_written packs then Some (multi_index_of_packs Sha1 packs) else None

abbrev pub multi_index_file : List NamedPack → Option (List ℕ)
multi_index_file packs = multi_index_by (map named_seen packs)

-- the word and what follows its colon
abbrev pub encoded : List ℕ → List ℕ → Option (List ℕ)
encoded word rest =
    if same_name word (codes "@loose") then option_map loose_file (object_of rest)
    else if same_name word (codes "@pack") then option_and_then pack_file (objects_of rest)
    else if same_name word (codes "@idx") then option_and_then index_file (objects_of rest)
    else if same_name word (codes "@midx") then option_and_then multi_index_file (packs_of rest)
    else None

abbrev pub is_encoded : List ℕ → Bool
is_encoded text = starts_with nat_eq text (codes "@")

-- the contents of a file: with `@` first encoded objects, else plain data
unfoldable pub content_of : List ℕ → Option (List ℕ)
content_of text = if is_encoded text then encoded (before_colon text) (after_colon text) else data_of text

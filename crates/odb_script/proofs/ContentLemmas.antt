-- Laws of data and of the contents of files.
use Rattle.std.proofs.Common.{◌≡◌, ℕ, ◌==◌, ◌&&◌, Bool, true, false, List, [], ◌∷◌, ◌++◌, length, map, codes, slice_index, ◌/◌, Option, Some, refl, sym, ap, ◌∙◌, append_assoc}
use Rattle.std.specs.List.{after_first, join_with_byte, AllByRecursion, AllZip}
use Rattle.std.proofs.lemmas.List.{append-nil}
use Rattle.hex.specs.Hex.{lower_digits, encode_with, encode_lower, IsBytes}
use Rattle.hex.proofs.HexLemmas.{decode_of-encode_lower}
use Rattle.gix_hash.specs.declared.kind.Kind.TheVariants.{Sha1}
use Rattle.gix_object.specs.declared.kind.Kind.{Kind}
use Rattle.gix_object.specs.declared.kind.Kind.TheVariants.{Commit, Tree, Blob, Tag}
use Rattle.gix_object.specs.Kind.{kind_word, kind_of_word}
use Rattle.gix_object.specs.Loose.{header_of}
use Rattle.gix_pack_write.specs.declared.object.Object.{Object}
use Rattle.gix_pack_write.specs.declared.multi_index.named_pack.NamedPack.{NamedPack}
use Rattle.gix_pack_write.specs.WrittenPack.{object_seen, pack_of}
use Rattle.gix_pack_write.specs.WrittenIndex.{index_of}
use Rattle.gix_pack_write.specs.WrittenMultiIndex.{CanBeWritten, named_seen, multi_index_of_packs}
use Rattle.odb_script.specs.Content.{are_few, content_of, data_of, is_encoded, items_of, named_pack_of, object_of, objects_of, pack_by, packs_of, with_item}
use Rattle.odb_script.proofs.PackLemmas.{can_be_written-true}
use Rattle.odb_script.proofs.SplitLemmas.{after_first-followed, before_first-followed, lacks, slice_split-join}

-- data as hex digits, and nothing as `-`
pub data_of-nothing : data_of (codes "-") ≡ Some []
unfolding data_of
data_of-nothing = refl

and-false : (b : Bool) → (b && false) ≡ false
and-false true = refl
and-false false = refl

pub data_of-hex : (b : ℕ) (bytes : List ℕ) → IsBytes (b ∷ bytes) → data_of (encode_lower (b ∷ bytes)) ≡ Some (b ∷ bytes)
unfolding data_of encode_with
data_of-hex b bytes are = rw (and-false (slice_index lower_digits (b / 16) == 45), decode_of-encode_lower (b ∷ bytes) are) refl

-- an object of some kind
pub object_of-spelled : (kind : Kind) (digits bytes : List ℕ) → data_of digits ≡ Some bytes → object_of (kind_word kind ++ 58 ∷ digits) ≡ Some (record { kind = kind; bytes = bytes })
unfolding object_of kind_of_word
object_of-spelled Commit digits bytes e = rw e refl
object_of-spelled Tree digits bytes e = rw e refl
object_of-spelled Blob digits bytes e = rw e refl
object_of-spelled Tag digits bytes e = rw e refl

-- an object as the bytes of its loose file
pub content_of-loose : (kind : Kind) (digits bytes : List ℕ) → data_of digits ≡ Some bytes
    → content_of (codes "@loose:" ++ kind_word kind ++ 58 ∷ digits) ≡ Some (header_of kind (length bytes) ++ bytes)
unfolding content_of object_of kind_of_word
content_of-loose Commit digits bytes e = rw e refl
content_of-loose Tree digits bytes e = rw e refl
content_of-loose Blob digits bytes e = rw e refl
content_of-loose Tag digits bytes e = rw e refl

-- plain data are the bytes of a file
pub content_of-plain : (digits bytes : List ℕ) → is_encoded digits ≡ false → data_of digits ≡ Some bytes → content_of digits ≡ Some bytes
unfolding content_of
content_of-plain digits bytes plain e = rw (plain, e) refl

-- ---- lists

-- texts spell these items, one each
abbrev pub Spell : {A : Type 0} → (List ℕ → Option A) → List (List ℕ) → List A → Type 0
Spell read texts items = AllZip (λ text item. read text ≡ Some item) texts items

items_of-spelled : {A : Type 0} (read : List ℕ → Option A) (texts : List (List ℕ)) (new items : List A) → Spell read texts new → items_of read texts items ≡ Some (items ++ new)
unfolding items_of
items_of-spelled read [] [] items are = ap Some (sym (append-nil items))
items_of-spelled read [] (item ∷ new) items are = absurd are
items_of-spelled read (text ∷ texts) [] items are = absurd are
items_of-spelled read (text ∷ texts) (item ∷ new) items are =
    ap (with_item (items_of read texts) items) are.0 ∙ items_of-spelled read texts new (items ++ item ∷ []) are.1 ∙ ap Some (append_assoc items (item ∷ []) new)

-- texts that lack a separator
abbrev pub Lack : ℕ → List (List ℕ) → Type 0
Lack c texts = AllByRecursion (λ t. lacks c t ≡ true) texts

-- objects between commas
pub objects_of-spelled : (text : List ℕ) (texts : List (List ℕ)) (objects : List Object) → Lack 44 (text ∷ texts) → Spell object_of (text ∷ texts) objects
    → objects_of (join_with_byte 44 (text ∷ texts)) ≡ Some objects
objects_of-spelled text texts objects lack are =
    ap (λ parts. items_of object_of parts []) (slice_split-join 44 text texts lack) ∙ items_of-spelled object_of (text ∷ texts) objects [] are

-- objects as their pack
pub content_of-pack : (spelled : List ℕ) (objects : List Object) → objects_of spelled ≡ Some objects → are_few objects ≡ true
    → content_of (codes "@pack:" ++ spelled) ≡ Some (pack_of Sha1 (map object_seen objects))
unfolding content_of
content_of-pack spelled objects e few = rw (e, few) refl

-- objects as the index of that pack
pub content_of-idx : (spelled : List ℕ) (objects : List Object) → objects_of spelled ≡ Some objects → are_few objects ≡ true
    → content_of (codes "@idx:" ++ spelled) ≡ Some (index_of Sha1 (map object_seen objects))
unfolding content_of
content_of-idx spelled objects e few = rw (e, few) refl

-- a pack with the stem of its name
pub named_pack_of-spelled : (stem spelled : List ℕ) (objects : List Object) → lacks 61 stem ≡ true → objects_of spelled ≡ Some objects
    → named_pack_of (stem ++ 61 ∷ spelled) ≡ Some (record { name = stem ++ codes ".idx"; objects = objects })
unfolding named_pack_of
named_pack_of-spelled stem spelled objects lack e =
    ap (λ s. pack_by s (objects_of (after_first (λ c. c == 61) (stem ++ 61 ∷ spelled)))) (before_first-followed 61 stem spelled lack)
    ∙ ap (λ t. pack_by stem (objects_of t)) (after_first-followed 61 stem spelled lack)
    ∙ ap (pack_by stem) e

-- packs between semicolons
pub packs_of-spelled : (text : List ℕ) (texts : List (List ℕ)) (packs : List NamedPack) → Lack 59 (text ∷ texts) → Spell named_pack_of (text ∷ texts) packs
    → packs_of (join_with_byte 59 (text ∷ texts)) ≡ Some packs
packs_of-spelled text texts packs lack are =
    ap (λ parts. items_of named_pack_of parts []) (slice_split-join 59 text texts lack) ∙ items_of-spelled named_pack_of (text ∷ texts) packs [] are

-- packs as their multi-index
pub content_of-midx : (spelled : List ℕ) (packs : List NamedPack) → packs_of spelled ≡ Some packs → CanBeWritten (map named_seen packs)
    → content_of (codes "@midx:" ++ spelled) ≡ Some (multi_index_of_packs Sha1 (map named_seen packs))
unfolding content_of
content_of-midx spelled packs e can = rw (e, can_be_written-true (map named_seen packs) can) refl

-- What the files of a store hold, as answers of calls.
use Rattle.std.specs.Prelude.{◌≡◌, ℕ, Bool, true, false, List, Option, Some, None, Ok}
use Rattle.std.specs.FinMap.{get}
use Rattle.odb_base.specs.Path.{Name, Path}
use Rattle.odb_disk.specs.Tree.{Tree}
use Rattle.odb_disk.specs.Tree.Follow.{read_of}
use Rattle.gix_hash.specs.declared.object_id.ObjectId.{ObjectId}
use Rattle.gix_hash.specs.ObjectId.{kind_of}
use Rattle.gix_hash.specs.declared.kind.Kind.{Kind as HashKind}
use Rattle.gix_object.specs.declared.kind.Kind.{Kind}
use Rattle.gix_object.specs.declared.want.Want.{Want}
use Rattle.gix_object.specs.declared.want.Want.TheVariants as wants
use Rattle.gix_pack_read.specs.Pack.{Entry, entry_at, header_at, is_pack}
use Rattle.gix_pack_read.specs.declared.data.entry.Header as entry
use Rattle.gix_odb_loose.specs.LooseFile as loose
use Rattle.gix_odb_loose.specs.LooseOrder.{job_of}
use Rattle.gix_odb.specs.Found.{Gives, GivesIn}
use Rattle.gix_odb.specs.Store.{listed_for}
pub use Rattle.gix_odb_calls.specs.StoreParts.{folder_list}
use Rattle.gix_odb_calls.specs.declared.query.Query.{Query}
use Rattle.gix_odb_calls.specs.declared.store_parts.StoreParts.{StoreParts}
use Rattle.gix_odb_calls.specs.declared.find.Header as headers
use Rattle.gix_odb_calls.specs.declared.find.Header.TheVariants.{Loose, Packed}

-- what an object's bytes may be read from: one loose file; an index of a folder of packs, by its name, which gives an offset; the multi-pack index
-- of the folder, which gives an offset in the pack of an index of a name; or one of these two and the pack
pub data Contents : Type 0 where
  LooseFile : (bytes : List ℕ) → Contents
  InIndex : (name : Name) (index : List ℕ) (offset : ℕ) → Contents
  InPack : (name : Name) (index pack : List ℕ) (offset : ℕ) → Contents
  InMulti : (name : Name) (multi : List ℕ) (offset : ℕ) → Contents
  InMultiPack : (name : Name) (multi pack : List ℕ) (offset : ℕ) → Contents

-- what a call may be answered with
pub data Answer : Type 0 where
  Object : (kind : Kind) (bytes : List ℕ) → Answer
  HeaderOf : (header : headers.Header) → Answer
  Presence : Answer

-- an id, or another one where there is none
abbrev pub or_itself : Option ObjectId → ObjectId → ObjectId
or_itself None id = id
or_itself (Some other) id = other

-- the replacement of an id, where it has one and replacements aren't ignored
abbrev pub replaced : (ObjectId → Option ObjectId) → (ignoring : Bool) → ObjectId → ObjectId
replaced replacement true id = id
replaced replacement false id = or_itself (replacement id) id

-- the id that is sought for an asked one: for a find and a header its replacement, with no chain of replacements
abbrev pub sought_for : (ObjectId → Option ObjectId) → (ignoring : Bool) → Want → ObjectId → ObjectId
sought_for replacement ignoring wants.Object id = replaced replacement ignoring id
sought_for replacement ignoring wants.Header id = replaced replacement ignoring id
sought_for replacement ignoring wants.Presence id = id

-- the id that a call seeks
abbrev pub sought_with : (ObjectId → Option ObjectId) → (ignoring : Bool) → Query → ObjectId
sought_with replacement ignoring query = sought_for replacement ignoring query.want query.of

-- the id that replaces another in a store
abbrev pub replacement_in : StoreParts → ObjectId → Option ObjectId
replacement_in store id = get store.replacements id

abbrev pub sought : StoreParts → (ignoring : Bool) → Query → ObjectId
sought store ignoring query = sought_with (replacement_in store) ignoring query

-- a path of a tree shows a file with those bytes and that time, links followed
abbrev pub ShowsFileAt : Tree → Path → (time : ℕ) → List ℕ → Type 0
ShowsFileAt tree path time bytes = read_of tree path ≡ Ok (bytes, time)

-- at any time of the file
abbrev pub ShowsFile : Tree → Path → List ℕ → Type 0
ShowsFile tree path bytes = (time : ℕ) × ShowsFileAt tree path time bytes

-- What a loose file answers a call, as an answer of a store. A file holds only answers of one form for a call, so the last row, for those
-- of another form, never applies.
abbrev pub of_loose : Want → loose.Answer → Answer
of_loose wants.Object (loose.Object kind bytes) = Object kind bytes
of_loose wants.Header (loose.HeaderOf kind size) = HeaderOf (Loose kind size)
of_loose want own = Presence

-- The row of an index answers only a test.
abbrev pub IsOfRow : Want → Answer → Type 0
IsOfRow wants.Presence answer = answer ≡ Presence
IsOfRow want answer = ⊥

-- A pack holds an answer at an offset: for a find the base entry there, with its data within the limit, and for a header that of the entry there.
abbrev pub HoldsEntry : StoreParts → Want → HashKind → (pack : List ℕ) → (offset : ℕ) → Answer → Type 0
HoldsEntry store wants.Object hash pack offset answer =
    (own : Entry) × (entry_at hash pack offset store.alloc_limit_bytes ≡ Ok own) × (answer ≡ Object own.kind own.bytes)
HoldsEntry store wants.Header hash pack offset answer =
    (own : entry.Header) × (header_at hash pack offset ≡ Ok own) × (answer ≡ HeaderOf (Packed own.kind own.size))
HoldsEntry store wants.Presence hash pack offset answer = ⊥

-- Contents hold an answer of a call that seeks an id. A loose file holds an object if it is a header with that kind and the length of
-- the data, and then the data, whose length is within the limit. It holds a header if it begins with it. Any file holds the answer of
-- a test. An index and its pack, both of the hash of the id, hold an answer where the index gives the id an offset at which the pack holds it;
-- for a test the index is enough. So do a multi-pack index that the store can use, and the pack that it names.
abbrev pub Holds : StoreParts → Want → (id : ObjectId) → Contents → Answer → Type 0
Holds store want id (LooseFile bytes) answer = (own : loose.Answer) × (answer ≡ of_loose want own) × loose.Holds store.alloc_limit_bytes (job_of want id) bytes own
Holds store want id (InIndex name index offset) answer = Gives (kind_of id) index id offset × IsOfRow want answer
Holds store want id (InPack name index pack offset) answer =
    Gives (kind_of id) index id offset × (is_pack (kind_of id) pack ≡ true) × HoldsEntry store want (kind_of id) pack offset answer
Holds store want id (InMulti name multi offset) answer = GivesIn (listed_for store).multi multi id name offset × IsOfRow want answer
Holds store want id (InMultiPack name multi pack offset) answer =
    GivesIn (listed_for store).multi multi id name offset × (is_pack (kind_of id) pack ≡ true) × HoldsEntry store want (kind_of id) pack offset answer

-- contents are sound for a call that seeks an id where they hold some answer of it
abbrev pub IsSound : StoreParts → Want → (id : ObjectId) → Contents → Type 0
IsSound store want id contents = (answer : Answer) × Holds store want id contents answer

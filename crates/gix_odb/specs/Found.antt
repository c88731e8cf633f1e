-- What a look-up found in packs: an index or a multi-pack index that gives the id an offset in a pack, and this pack, both shown since the store was
-- opened.
use Rattle.std.specs.Prelude.{◌≡◌, ◌⊎◌, ℕ, true, List, slice_get, Contains, Option, Some, Ok}
use Rattle.odb_base.specs.Path.{Name, Path}
use Rattle.gix_hash.specs.declared.kind.Kind.{Kind}
use Rattle.gix_hash.specs.declared.object_id.ObjectId.{ObjectId}
use Rattle.gix_pack_read.specs.Index.{index_rows, is_index}
use Rattle.gix_pack_read.specs.MultiIndex.{told}
use Rattle.gix_pack_read.specs.Pack.{Entry, entry_at, header_at, is_pack}
use Rattle.gix_pack_read.specs.declared.data.entry.Header as pack_header
use Rattle.gix_pack_read.specs.Rows.{PackRow, Row}
use Rattle.gix_odb_events.specs.PackPath.{folder_of, pack_in, pack_path}
use Rattle.gix_odb_calls.specs.declared.call.Reply.{Reply}
use Rattle.gix_odb_calls.specs.declared.call.Reply.TheVariants as replies
use Rattle.gix_odb_calls.specs.declared.find.Header.TheVariants as headers
use Rattle.gix_object.specs.declared.want.Want.{Want}
use Rattle.gix_object.specs.declared.want.Want.TheVariants.{Object, Header, Presence}
use Rattle.gix_odb.specs.LookUpOrder.{Setting}
use Rattle.gix_odb_search.specs.MultiPack.{is_usable}
use Rattle.gix_odb_search.specs.declared.multi_pack.MultiUse.{MultiUse}
use Rattle.gix_odb.specs.Shown.{IsIndexPath, IsMultiPath, ShowedBytes}
use Rattle.gix_odb.specs.Store.{listed_for}

-- the bytes of an index give an id an offset
pub record Gives (hash : Kind) (bytes : List ℕ) (id : ObjectId) (offset : ℕ) : Type 0 where
  pub parsed : is_index hash bytes ≡ true
  pub row : Row
  pub among : Contains (index_rows hash bytes) row
  pub of_id : row.id ≡ id
  pub at : row.offset ≡ offset

-- the bytes of a multi-pack index that a store can use give an id an offset in the pack of an index of this name
pub record GivesIn (multi : Option MultiUse) (bytes : List ℕ) (id : ObjectId) (name : Name) (offset : ℕ) : Type 0 where
  pub usable : is_usable multi bytes ≡ true
  pub row : PackRow
  pub among : Contains (told bytes).rows row
  pub of_id : row.id ≡ id
  pub named : slice_get (told bytes).names row.pack ≡ Some name
  pub at : row.offset ≡ offset

-- a pack has a base entry at an offset, with its data within the limit, which is this reply
pub record IsEntryReply (hash : Kind) (limit : Option ℕ) (pack : List ℕ) (offset : ℕ) (reply : Reply) : Type 0 where
  pub entry : Entry
  pub there : entry_at hash pack offset limit ≡ Ok entry
  pub is : reply ≡ replies.Found entry.kind entry.bytes

-- a pack has an entry at an offset, whose header is this reply
pub record IsHeaderReply (hash : Kind) (pack : List ℕ) (offset : ℕ) (reply : Reply) : Type 0 where
  pub header : pack_header.Header
  pub there : header_at hash pack offset ≡ Ok header
  pub is : reply ≡ replies.Header (headers.Packed header.kind header.size)

-- Here `Shown path time bytes` says that a file with these bytes and this time was shown at this path since the store was opened.
module _ (Shown : Path → ℕ → List ℕ → Type 0) (setting : Setting) (hash : Kind) (id : ObjectId) where
  -- an index of one of the folders was shown that gives the id an offset in its pack, which has this path
  pub record IsInSingle (pack : Path) (offset : ℕ) : Type 0 where
    pub path : Path
    pub at : IsIndexPath setting path
    pub is : pack ≡ pack_path path
    pub bytes : List ℕ
    pub shown : ShowedBytes Shown path bytes
    pub gives : Gives hash bytes id offset

  -- a multi-pack index of one of the folders was shown that gives the id an offset in a pack that it names
  pub record IsInMulti (pack : Path) (offset : ℕ) : Type 0 where
    pub path : Path
    pub at : IsMultiPath setting path
    pub name : Name
    pub is : pack ≡ pack_in (folder_of path) name
    pub bytes : List ℕ
    pub shown : ShowedBytes Shown path bytes
    pub gives : GivesIn (listed_for setting.parts).multi bytes id name offset

  abbrev pub IsInIndex : (pack : Path) → (offset : ℕ) → Type 0
  IsInIndex pack offset = IsInSingle pack offset ⊎ IsInMulti pack offset

  -- and the pack was shown, whose content at the offset is such
  pub record IsInPack (Content : (pack : List ℕ) → (offset : ℕ) → Type 0) : Type 0 where
    pub path : Path
    pub offset : ℕ
    pub index : IsInIndex path offset
    pub pack : List ℕ
    pub parsed : is_pack hash pack ≡ true
    pub shown : ShowedBytes Shown path pack
    pub content : Content pack offset

  -- what was found in packs, as the reply to what is wanted. For a test the row of an index is enough
  abbrev pub IsFound : Want → Reply → Type 0
  IsFound Object reply = IsInPack (λ pack offset. IsEntryReply hash setting.parts.alloc_limit_bytes pack offset reply)
  IsFound Header reply = IsInPack (λ pack offset. IsHeaderReply hash pack offset reply)
  IsFound Presence reply = (pack : Path) × (offset : ℕ) × IsInIndex pack offset × (reply ≡ replies.Tested true)

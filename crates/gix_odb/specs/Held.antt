-- What a store held, and what stayed unchanged in it, over any family of trees numbered by moments. A kind of contents has its constructor in
-- `Contents` and its lines in `Holds`, `WasShown`, `Place` and `LiesAt`; what is said of all kinds names none.
use Rattle.std.specs.Prelude.{◌≡◌, ℕ, true, false, List, [], ◌∷◌, ◌++◌, Contains, Ok}
use Rattle.odb_base.specs.Path.{Name, Path}
use Rattle.odb_disk.specs.Tree.{Tree}
use Rattle.odb_disk.specs.Tree.Follow.{looked}
use Rattle.odb_disk.specs.declared.meta.Kind.TheVariants as kinds
use Rattle.odb_disk.specs.declared.meta.Meta.{Meta}
use Rattle.gix_hash.specs.declared.object_id.ObjectId.{ObjectId}
use Rattle.gix_odb_loose.specs.LooseFile.{loose_path}
use Rattle.gix_pack_read.specs.MultiIndex.{told}
use Rattle.gix_odb_search.specs.MultiPack.{is_usable}
use Rattle.gix_odb_search.specs.PackFolder.{is_index_name, multi_index_path, pack_folder}
use Rattle.gix_odb_events.specs.PackPath.{pack_in, pack_path}
use Rattle.gix_object.specs.declared.want.Want.{Want}
use Rattle.gix_object.specs.declared.want.Want.TheVariants.{Object, Header, Presence}
use Rattle.gix_odb.specs.Contents.{folder_list, Contents, LooseFile, InIndex, InPack, InMulti, InMultiPack, Answer, Holds, IsSound, ShowsFile, ShowsFileAt}
use Rattle.gix_odb_calls.specs.declared.store_parts.StoreParts.{StoreParts}
use Rattle.gix_odb.specs.Found.{GivesIn}
use Rattle.gix_odb.specs.Store.{listed_for}
use Rattle.gix_odb.specs.Moments.{Sometime, Throughout}

-- ---- held

-- the path of an index of a name in the folder of packs of a folder
abbrev pub index_path : (folder : Path) → Name → Path
index_path folder name = pack_folder folder ++ name ∷ []

-- the path of the multi-pack index of a folder
abbrev pub multi_path : (folder : Path) → Path
multi_path folder = multi_index_path (pack_folder folder)

-- a file with these bytes was shown at a path at some moment from one to another
abbrev pub WasShownAt : (trees : ℕ → Tree) → (from now : ℕ) → Path → List ℕ → Type 0
WasShownAt trees from now path bytes = Sometime from now (λ moment. ShowsFile (trees moment) path bytes)

-- and one with this time
abbrev pub WasShownWith : (trees : ℕ → Tree) → (from now : ℕ) → Path → (time : ℕ) → List ℕ → Type 0
WasShownWith trees from now path time bytes = Sometime from now (λ moment. ShowsFileAt (trees moment) path time bytes)

-- a path showed no two contents at moments from one to another
abbrev pub ShowsOne : (trees : ℕ → Tree) → (from now : ℕ) → Path → Type 0
ShowsOne trees from now path = (one other : List ℕ) → WasShownAt trees from now path one → WasShownAt trees from now path other → one ≡ other

-- A folder showed the parts of contents for an id, each at a moment of its own and none before the one that their kind says: `opened`,
-- at which the store was opened, or `begun`, at which the call began. A loose file is one part, shown since the call began; an
-- index or a multi-pack index, and the pack, were shown since the store was opened, each at a moment of its own.
abbrev pub WasShown : (trees : ℕ → Tree) → (opened begun now : ℕ) → (folder : Path) → ObjectId → Contents → Type 0
WasShown trees opened begun now folder id (LooseFile bytes) = Sometime begun now (λ moment. ShowsFile (trees moment) (loose_path folder id) bytes)
WasShown trees opened begun now folder id (InIndex name index offset) = (is_index_name name ≡ true) × WasShownAt trees opened now (index_path folder name) index
WasShown trees opened begun now folder id (InPack name index pack offset) =
    (is_index_name name ≡ true) × WasShownAt trees opened now (index_path folder name) index × WasShownAt trees opened now (pack_path (index_path folder name)) pack
WasShown trees opened begun now folder id (InMulti name multi offset) = WasShownAt trees opened now (multi_path folder) multi
WasShown trees opened begun now folder id (InMultiPack name multi pack offset) =
    WasShownAt trees opened now (multi_path folder) multi × WasShownAt trees opened now (pack_in (pack_folder folder) name) pack

-- In one folder of a store that was opened at the moment `opened`, contents were shown for the sought id in a call from `begun` to
-- `now` that hold the answer.
pub record Held (trees : ℕ → Tree) (store : StoreParts) (opened begun now : ℕ) (want : Want) (id : ObjectId) (answer : Answer) : Type 0 where
  pub folder : Path
  pub among : Contains (folder_list store) folder
  pub contents : Contents
  pub shown : WasShown trees opened begun now folder id contents
  pub holds : Holds store want id contents answer

-- ---- unchanged

-- Where an object lies in a folder: a kind of contents, with what stays the same of them while the object stays unchanged. For a loose file
-- that is only its path, which the id determines; for an index and its pack it is the name of the index, and the offset that this gives the id; for a
-- multi-pack index and a pack, the name of the pack's index, and the offset.
pub data Place : Type 0 where
  InLooseFile : Place
  InPackFile : (name : Name) (offset : ℕ) → Place
  InMultiPackFile : (name : Name) (offset : ℕ) → Place

-- a path is itself a file: a link in the last place is none
pub record IsItselfFile (tree : Tree) (path : Path) : Type 0 where
  pub meta : Meta
  pub looks : looked tree path false ≡ Ok meta
  pub is_file : meta.kind ≡ kinds.File

-- an index and its pack are sound for a call at an offset: for a test the row of the index is enough
abbrev pub IsSoundPair : StoreParts → Want → ObjectId → Name → (index pack : List ℕ) → (offset : ℕ) → Type 0
IsSoundPair store Object id name index pack offset = IsSound store Object id (InPack name index pack offset)
IsSoundPair store Header id name index pack offset = IsSound store Header id (InPack name index pack offset)
IsSoundPair store Presence id name index pack offset = IsSound store Presence id (InIndex name index offset)

-- A multi-pack index of a folder that the store can use and that names an index gives the id an offset in the pack of this index. Where the path is a
-- link, what it leads to counts, since a listing reads it.
abbrev pub AgreesWithMulti : StoreParts → Tree → (folder : Path) → ObjectId → (name : Name) → (offset : ℕ) → Type 0
AgreesWithMulti store tree folder id name offset =
    (multi : List ℕ) → ShowsFile tree (multi_path folder) multi → is_usable (listed_for store).multi multi ≡ true → Contains (told multi).names name
    → GivesIn (listed_for store).multi multi id name offset

-- At one moment an object lies in a pack of a folder: the index of a name is itself a file, and a file is shown as its pack. The two are sound
-- for the call, and the index gives the id this offset.
pub record LiesInPack (store : StoreParts) (want : Want) (tree : Tree) (folder : Path) (id : ObjectId) (name : Name) (offset : ℕ) : Type 0 where
  pub named : is_index_name name ≡ true
  pub itself : IsItselfFile tree (index_path folder name)
  pub index : List ℕ
  pub shows_index : ShowsFile tree (index_path folder name) index
  pub pack : List ℕ
  pub shows_pack : ShowsFile tree (pack_path (index_path folder name)) pack
  pub sound : IsSoundPair store want id name index pack offset
  pub agrees : AgreesWithMulti store tree folder id name offset

-- a multi-pack index and a pack are sound for a call at an offset: for a test the row is enough
abbrev pub IsSoundMulti : StoreParts → Want → ObjectId → Name → (multi pack : List ℕ) → (offset : ℕ) → Type 0
IsSoundMulti store Object id name multi pack offset = IsSound store Object id (InMultiPack name multi pack offset)
IsSoundMulti store Header id name multi pack offset = IsSound store Header id (InMultiPack name multi pack offset)
IsSoundMulti store Presence id name multi pack offset = IsSound store Presence id (InMulti name multi offset)

-- At one moment an object lies in a pack of a folder by its multi-pack index, which is itself a file, and a file is shown as the pack. The two are
-- sound for the call, and the multi-pack index gives the id this offset in the pack.
pub record LiesInMulti (store : StoreParts) (want : Want) (tree : Tree) (folder : Path) (id : ObjectId) (name : Name) (offset : ℕ) : Type 0 where
  pub itself : IsItselfFile tree (multi_path folder)
  pub multi : List ℕ
  pub shows_multi : ShowsFile tree (multi_path folder) multi
  pub pack : List ℕ
  pub shows_pack : ShowsFile tree (pack_in (pack_folder folder) name) pack
  pub sound : IsSoundMulti store want id name multi pack offset

-- At one moment an object lies at a place of a folder, in contents that are sound for the call.
abbrev pub LiesAt : StoreParts → Want → Tree → (folder : Path) → ObjectId → Place → Type 0
LiesAt store want tree folder id InLooseFile =
    (bytes : List ℕ) × ShowsFile tree (loose_path folder id) bytes × IsSound store want id (LooseFile bytes)
LiesAt store want tree folder id (InPackFile name offset) = LiesInPack store want tree folder id name offset
LiesAt store want tree folder id (InMultiPackFile name offset) = LiesInMulti store want tree folder id name offset

-- In one folder, at one place, the object of an id lay at every moment from `begun` to `now`, in contents that are sound for the call.
pub record Still (trees : ℕ → Tree) (store : StoreParts) (begun now : ℕ) (want : Want) (id : ObjectId) : Type 0 where
  pub folder : Path
  pub among : Contains (folder_list store) folder
  pub place : Place
  pub always : Throughout begun now (λ moment. LiesAt store want (trees moment) folder id place)

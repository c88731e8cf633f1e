-- An object that stays unchanged in a pack while a query works, as far as its look-ups may see it. No public clause cites this.
use Rattle.std.specs.Prelude.{◌≡◌, ℕ, true, List, Contains}
use Rattle.odb_base.specs.Path.{Name, Path}
use Rattle.odb_disk.specs.Tree.{Tree}
use Rattle.gix_hash.specs.declared.object_id.ObjectId.{ObjectId}
use Rattle.gix_odb_search.specs.PackFolder.{is_index_name}
use Rattle.gix_odb_calls.specs.declared.store_parts.StoreParts.{StoreParts}
use Rattle.gix_odb.specs.Fair.{Carrier, IsCarried, ItsIndex, PackedPlace, TheMulti, index_at, multi_at, pack_at}
use Rattle.gix_odb.specs.Found.{Gives, GivesIn}
use Rattle.gix_odb.specs.Contents.{ShowsFile, folder_list}
use Rattle.gix_odb.specs.Held.{AgreesWithMulti, IsItselfFile, ShowsOne, WasShownWith, index_path, multi_path}
use Rattle.gix_odb.specs.Moments.{Throughout}
use Rattle.gix_odb.specs.Store.{listed_for}
use Rattle.gix_odb_world.specs.AtWork.{Store}

-- At one moment the index of a place is itself a file, whose bytes give the id the place's offset. So does the multi-pack index of the folder, if one
-- is shown that the store can use and that names the index.
pub record LiesIndexed (store : StoreParts) (tree : Tree) (id : ObjectId) (place : PackedPlace) : Type 0 where
  pub itself : IsItselfFile tree (index_at place)
  pub index : List ℕ
  pub shows_index : ShowsFile tree (index_at place) index
  pub gives : Gives store.object_hash index id place.offset
  pub agrees : AgreesWithMulti store tree place.folder id place.name place.offset

-- at one moment the multi-pack index of a place's folder is itself a file, which the store can use, and gives the id the place's offset
pub record LiesByMulti (store : StoreParts) (tree : Tree) (id : ObjectId) (place : PackedPlace) : Type 0 where
  pub itself : IsItselfFile tree (multi_at place)
  pub multi : List ℕ
  pub shows_multi : ShowsFile tree (multi_at place) multi
  pub gives : GivesIn (listed_for store).multi multi id place.name place.offset

abbrev pub LiesBy : Carrier → StoreParts → Tree → ObjectId → PackedPlace → Type 0
LiesBy ItsIndex store tree id place = LiesIndexed store tree id place
LiesBy TheMulti store tree id place = LiesByMulti store tree id place

-- at one moment an object lies at a place by its carrier, and a file is shown as its pack
pub record LiesPacked (store : StoreParts) (tree : Tree) (id : ObjectId) (place : PackedPlace) : Type 0 where
  pub by_carrier : LiesBy place.carrier store tree id place
  pub pack : List ℕ
  pub shows_pack : ShowsFile tree (pack_at place) pack

-- a place's own index, if it is the carrier, has shown nothing else since the store was opened
abbrev pub ShowsOneBy : Carrier → (trees : ℕ → Tree) → Store → (now : ℕ) → PackedPlace → Type 0
ShowsOneBy ItsIndex trees store now place = ShowsOne trees store.opened now (index_at place)
ShowsOneBy TheMulti trees store now place = Unit {0}

-- it lies there at every moment from `begun` to `now`
pub record IsPackedStill (trees : ℕ → Tree) (store : Store) (begun now : ℕ) (id : ObjectId) (place : PackedPlace) : Type 0 where
  pub carried : IsCarried (listed_for store.parts).multi place
  pub always : Throughout begun now (λ moment. LiesPacked store.parts (trees moment) id place)
  pub one : ShowsOneBy place.carrier trees store now place

-- no index of the folders of packs of a store has shown two contents since the store was opened
abbrev pub IndicesShowOne : (trees : ℕ → Tree) → Store → (now : ℕ) → Type 0
IndicesShowOne trees store now =
    (folder : Path) → Contains (folder_list store.parts) folder → (name : Name) → is_index_name name ≡ true
    → ShowsOne trees store.opened now (index_path folder name)

-- and no multi-pack index of these folders two at one time
abbrev pub MultisShowOne : (trees : ℕ → Tree) → Store → (now : ℕ) → Type 0
MultisShowOne trees store now =
    (folder : Path) → Contains (folder_list store.parts) folder → (time : ℕ) (one other : List ℕ)
    → WasShownWith trees store.opened now (multi_path folder) time one → WasShownWith trees store.opened now (multi_path folder) time other → one ≡ other

-- What lies in a pack for a call lies there for its look-up: the index, or the multi-pack index, gives the id the offset.
use Rattle.std.proofs.Common.{◌≡◌, ℕ, true, List, [], ◌∷◌, ◌++◌, Option, Some, None, is_some, refl, sym, subst}
use Rattle.odb_base.specs.Path.{Name, Path}
use Rattle.odb_disk.specs.Tree.{Tree}
use Rattle.gix_hash.specs.ObjectId.{kind_of}
use Rattle.gix_hash.specs.declared.object_id.ObjectId.{ObjectId}
use Rattle.gix_object.specs.declared.want.Want.{Want}
use Rattle.gix_object.specs.declared.want.Want.TheVariants.{Object, Header, Presence}
use Rattle.gix_odb_search.specs.MultiPack.{is_usable}
use Rattle.gix_odb_search.specs.PackFolder.{pack_folder}
use Rattle.gix_odb_search.specs.declared.multi_pack.MultiUse.{MultiUse}
use Rattle.gix_odb_calls.specs.declared.store_parts.StoreParts.{StoreParts}
use Rattle.gix_odb.specs.Contents.{ShowsFile}
use Rattle.gix_odb.specs.Fair.{Carrier, ItsIndex, PackedPlace, TheMulti, carrier_name, name_by}
use Rattle.gix_odb.specs.Found.{Gives, GivesIn}
use Rattle.gix_odb.specs.Held.{IsItselfFile, IsSoundMulti, IsSoundPair, LiesInMulti, LiesInPack}
use Rattle.gix_odb.specs.Store.{listed_for}
use Rattle.gix_odb_world.specs.Running.PackedStill.{LiesBy, LiesPacked}
use Rattle.gix_odb_world.proofs.PackPaths.{pack_path-push}

-- the place of a pack that an index or a multi-pack index names
abbrev pub packed_at : (folder : Path) → Carrier → Name → (offset : ℕ) → PackedPlace
packed_at folder carrier name offset = record { folder = folder; carrier = carrier; name = name; offset = offset }

-- its carrier is itself a file
pub carrier_itself : (store : StoreParts) (tree : Tree) (id : ObjectId) (place : PackedPlace) → LiesPacked store tree id place
    → IsItselfFile tree (pack_folder place.folder ++ carrier_name place ∷ [])
carrier_itself store tree id place lies = by place.carrier lies.by_carrier
  where
    by : (carrier : Carrier) → LiesBy carrier store tree id place → IsItselfFile tree (pack_folder place.folder ++ name_by carrier place.name ∷ [])
    by ItsIndex own = own.itself
    by TheMulti own = own.itself

-- ---- an index and its pack

-- the index of a sound pair gives the id the offset
sound_pair_gives : (store : StoreParts) (want : Want) (id : ObjectId) (name : Name) (index pack : List ℕ) (offset : ℕ)
    → IsSoundPair store want id name index pack offset → Gives (kind_of id) index id offset
sound_pair_gives store Object id name index pack offset sound = sound.1.0
sound_pair_gives store Header id name index pack offset sound = sound.1.0
sound_pair_gives store Presence id name index pack offset sound = sound.1.0

pub lies_by_index : (store : StoreParts) (want : Want) (tree : Tree) (id : ObjectId) → kind_of id ≡ store.object_hash → (folder : Path) (name : Name) (offset : ℕ)
    → LiesInPack store want tree folder id name offset → LiesPacked store tree id (packed_at folder ItsIndex name offset)
lies_by_index store want tree id hashed folder name offset lies = record {
  by_carrier = record {
    itself = lies.itself;
    index = lies.index;
    shows_index = lies.shows_index;
    gives = subst (λ kind. Gives kind lies.index id offset) hashed (sound_pair_gives store want id name lies.index lies.pack offset lies.sound);
    agrees = lies.agrees;
  };
  pack = lies.pack;
  shows_pack = lies.shows_pack;
}

-- ---- a multi-pack index and a pack

-- a store uses multi-pack indices if it can use one
pub uses_multis : (multi : Option MultiUse) (bytes : List ℕ) → is_usable multi bytes ≡ true → is_some multi ≡ true
uses_multis (Some multi) bytes usable = refl
uses_multis None bytes usable = absurd (cc usable)

pub sound_multi_gives : (store : StoreParts) (want : Want) (id : ObjectId) (name : Name) (multi pack : List ℕ) (offset : ℕ)
    → IsSoundMulti store want id name multi pack offset → GivesIn (listed_for store).multi multi id name offset
sound_multi_gives store Object id name multi pack offset sound = sound.1.0
sound_multi_gives store Header id name multi pack offset sound = sound.1.0
sound_multi_gives store Presence id name multi pack offset sound = sound.1.0

pub lies_by_multi : (store : StoreParts) (want : Want) (tree : Tree) (id : ObjectId) (folder : Path) (name : Name) (offset : ℕ)
    → LiesInMulti store want tree folder id name offset → LiesPacked store tree id (packed_at folder TheMulti name offset)
lies_by_multi store want tree id folder name offset lies = record {
  by_carrier = record {
    itself = lies.itself;
    multi = lies.multi;
    shows_multi = lies.shows_multi;
    gives = sound_multi_gives store want id name lies.multi lies.pack offset lies.sound;
  };
  pack = lies.pack;
  shows_pack = subst (λ (path : Path). ShowsFile tree path lies.pack) (sym (pack_path-push (pack_folder folder) name)) lies.shows_pack;
}

-- Why an opening or a call is refused: each error, and what the run shows where it is given.
use Rattle.std.specs.Prelude.{◌≡◌, ℕ, ◌<◌, true, List, Contains, Result, Ok, Err}
use Rattle.odb_base.specs.Path.{Path}
use Rattle.odb_disk.specs.Tree.{Tree}
use Rattle.odb_disk.specs.Tree.Follow.{Refusal, looked, read_of}
use Rattle.odb_disk.specs.declared.meta.Meta.{Meta}
use Rattle.odb_disk.specs.declared.meta.Kind.TheVariants as kinds
use Rattle.gix_hash.specs.declared.object_id.ObjectId.{ObjectId}
use Rattle.gix_odb_loose.specs.Causes.{Cause}
use Rattle.gix_odb_loose.specs.LooseFile.{Reading, loose_path}
use Rattle.gix_odb_loose.specs.LooseOrder.{job_of}
use Rattle.gix_odb_loose.specs.declared.find.Error as loose
use Rattle.gix_object.specs.declared.want.Want.{Want}
use Rattle.gix_odb_calls.specs.declared.init.Error as opening
use Rattle.gix_odb_calls.specs.declared.init.Error.TheVariants as opening_errors
use Rattle.gix_odb_calls.specs.declared.find.Error as finding
use Rattle.gix_odb_calls.specs.declared.find.Error.TheVariants as find_errors
pub use Rattle.gix_odb.specs.Moments.{Sometime}
use Rattle.gix_odb.specs.Contents.{folder_list}
use Rattle.gix_odb.specs.Held.{WasShownWith}
use Rattle.gix_odb.specs.Caused.{IsCaused}
use Rattle.gix_odb.specs.OpenExchanges as openings
use Rattle.gix_odb.specs.OpenExchanges.{IsNumber}
use Rattle.gix_odb.specs.LookExchanges.{Exchange}
use Rattle.gix_odb_events.specs.declared.event.Refusal.{Refusal as CoreRefusal}
use Rattle.gix_odb_world.specs.Refused.{LoadCause}
use Rattle.gix_odb_world.specs.AtWork.{Store, setting_in}
use Rattle.gix_odb_events.specs.PackId.{most_slots}

abbrev pub IsDirectoryMeta : Result Meta Refusal → Type 0
IsDirectoryMeta (Ok meta) = meta.kind ≡ kinds.Dir
IsDirectoryMeta (Err refusal) = ⊥

-- a path leads to a directory, links followed
abbrev pub ShowsDirectory : Tree → Path → Type 0
ShowsDirectory tree path = IsDirectoryMeta (looked tree path true)

-- What each error of an opening says, where `Failed` says that a call of the disk failed in the opening, and `told` are the answers to its handle
-- since it began. The slots that are too many are those that were given, or as many as the listed indices need. A store can't be listed where
-- a call of the disk failed, where a folder of packs is no directory, or where a multi-pack index that was read names too many packs.
abbrev pub OpeningCause : (ℕ → Tree) → Type 0 → (told : List Exchange) → Store → ℕ → ℕ → opening.Error → Type 0
OpeningCause trees Failed told store begun now opening_errors.NotADirectory = Sometime begun now (λ moment. ¬ ShowsDirectory (trees moment) store.parts.objects)
OpeningCause trees Failed told store begun now (opening_errors.TooManySlots asked) =
    IsNumber (setting_in store) store.parts.slots told asked × (most_slots < asked) × Sometime begun now (λ moment. ShowsDirectory (trees moment) store.parts.objects)
OpeningCause trees Failed told store begun now opening_errors.Io = Failed
OpeningCause trees Failed told store begun now (opening_errors.LoadIndex error) = openings.IsCaused (setting_in store) store.parts.slots told (opening_errors.LoadIndex error)
OpeningCause trees Failed told store begun now opening_errors.NoMemory = ⊥

-- a read of a path had this result at some moment of a call
abbrev pub GaveSometime : (ℕ → Tree) → ℕ → ℕ → Path → Reading → Type 0
GaveSometime trees begun now path read = Sometime begun now (λ moment. read ≡ read_of (trees moment) path)

-- An error of the loose objects has its cause at the loose path of the sought id in some folder of the store.
pub record LooseCause (trees : ℕ → Tree) (Failed : Type 0) (store : Store) (begun now : ℕ) (want : Want) (id : ObjectId) (error : loose.Error) : Type 0 where
  pub folder : Path
  pub among : Contains (folder_list store.parts) folder
  pub cause : Cause (job_of want id) (loose_path folder id) store.parts.alloc_limit_bytes (GaveSometime trees begun now (loose_path folder id)) Failed ⊥ error

-- What each error of a query says, where `Failed` says that a call of the disk failed in it, `Refused` which refusals its core answered,
-- and `told` are the answers to the handle since it began: an error of the loose objects of a folder was caused by what these read; one of the
-- core by a refusal; any other one by what was shown since the store was opened, or by what was asked and answered.
abbrev pub FindCause : (ℕ → Tree) → Type 0 → (Refused : CoreRefusal → Type 0) → (told : List Exchange) → Store → ℕ → ℕ → Want → ObjectId → finding.Error → Type 0
FindCause trees Failed Refused told store begun now want id (find_errors.Loose error) = LooseCause trees Failed store begun now want id error
FindCause trees Failed Refused told store begun now want id (find_errors.LoadIndex error) =
    LoadCause Refused (IsCaused (WasShownWith trees store.opened now) (setting_in store) store.parts.object_hash id want told (find_errors.LoadIndex error)) error
FindCause trees Failed Refused told store begun now want id error = IsCaused (WasShownWith trees store.opened now) (setting_in store) store.parts.object_hash id want told error

-- Why a listing breaks off, and why an event is refused.
use Rattle.std.specs.Prelude.{◌≡◌, ◌⊎◌, ℕ, ◌<◌, true, List, Contains, Err}
use Rattle.odb_base.specs.Path.{Path}
use Rattle.odb_disk.specs.declared.ask.DiskAnswer.TheVariants as disk_answers
use Rattle.odb_disk.specs.declared.ask.DiskAsk.TheVariants as disk_asks
use Rattle.odb_disk.specs.declared.disk_error.DiskError.{DiskError}
use Rattle.odb_disk.specs.declared.disk_error.DiskError.TheVariants as disk_errors
use Rattle.gix_odb_events.specs.declared.event.Event.{Event}
use Rattle.gix_odb_events.specs.declared.event.Refusal.{Refusal}
use Rattle.gix_odb_events.specs.declared.answer.Answer.TheVariants as told
use Rattle.gix_odb_events.specs.declared.answer.Ask.TheVariants as asks
use Rattle.gix_odb_search.specs.MultiPack.{is_multi_index, most_packs, packs_named}
use Rattle.gix_odb_search.specs.PackFolder.{multi_index_path, pack_folder}
use Rattle.gix_odb.specs.Exchange.{Exchange, WasTold}
use Rattle.gix_odb.specs.Shown.{folders_of}
use Rattle.gix_odb.specs.Store.{Setting, listed_for}

-- the path leads to the wrong kind, or a part of its way is one or a link loop
abbrev pub IsBlocked : DiskError → Type 0
IsBlocked error = (error ≡ disk_errors.WrongKind) ⊎ (error ≡ disk_errors.LinkLoop)

-- the folder of packs of one of the folders is no directory
pub record IsNoFolder (setting : Setting) (exchanges : List Exchange) : Type 0 where
  pub folder : Path
  pub among : Contains (folders_of setting) folder
  pub error : DiskError
  pub blocked : IsBlocked error
  pub told : WasTold exchanges (asks.Disk (disk_asks.OpenDir (pack_folder folder))) (told.Disk (disk_answers.Refused error))

-- The multi-pack index of one of the folders was read, which the store may use but for the number of packs that it names: more than the limit.
pub record NamesTooMany (setting : Setting) (exchanges : List Exchange) (actual limit : ℕ) (path : Path) : Type 0 where
  pub folder : Path
  pub among : Contains (folders_of setting) folder
  pub is : path ≡ multi_index_path (pack_folder folder)
  pub bytes : List ℕ
  pub time : ℕ
  pub told : WasTold exchanges (asks.Disk (disk_asks.Read path)) (told.Disk (disk_answers.File bytes time))
  pub multi : is_multi_index (listed_for setting.parts).multi bytes ≡ true
  pub names : packs_named bytes ≡ actual
  pub most : limit ≡ most_packs
  pub many : limit < actual

-- the core refused an event with this refusal
pub record IsRefused (exchanges : List Exchange) (refusal : Refusal) : Type 0 where
  pub event : Event
  pub told : WasTold exchanges (asks.Core event) (told.Core (Err refusal))

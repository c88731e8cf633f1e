-- What a look-up read last, and what it passes on of it.
use Rattle.std.specs.Prelude.{◌≡◌, ℕ, false, List, [], ◌∷◌, ◌++◌, Contains, codes}
use Rattle.odb_base.specs.Path.{Name, Path}
use Rattle.odb_disk.specs.declared.ask.DiskAnswer.{DiskAnswer}
use Rattle.odb_disk.specs.declared.ask.DiskAnswer.TheVariants as disk_answers
use Rattle.odb_disk.specs.declared.ask.DiskAsk.TheVariants as disk_asks
use Rattle.odb_disk.specs.declared.disk_error.DiskError.TheVariants as disk_errors
use Rattle.gix_hash.specs.declared.kind.Kind.{Kind}
use Rattle.gix_pack_read.specs.Index.{is_index}
use Rattle.gix_odb_events.specs.declared.event.Event.{Event}
use Rattle.gix_odb_events.specs.declared.event.Event.TheVariants as events
use Rattle.gix_odb_events.specs.declared.event.PassWhy.{PassWhy}
use Rattle.gix_odb_events.specs.declared.event.PassWhy.TheVariants as whys
use Rattle.gix_odb_search.specs.PackFolder.{pack_folder}
use Rattle.gix_odb_events.specs.declared.answer.Answer.TheVariants as told
use Rattle.gix_odb_events.specs.declared.answer.Ask.TheVariants as asks
use Rattle.gix_odb.specs.LookExchanges.{Exchange, IsLast}
use Rattle.gix_odb.specs.LookUpOrder.{Setting}
use Rattle.gix_odb.specs.Shown.{folders_of}

-- the path of a pack in the folder of packs of one of the folders
pub record IsPackPath (setting : Setting) (path : Path) : Type 0 where
  pub folder : Path
  pub among : Contains (folders_of setting) folder
  pub stem : Name
  pub is : path ≡ pack_folder folder ++ (stem ++ codes ".pack") ∷ []

-- ---- reads

-- a read of a path, and its answer
abbrev pub read_of : Path → DiskAnswer → Exchange
read_of path answer = record { ask = asks.Disk (disk_asks.Read path); answer = told.Disk answer }

-- the last of the exchanges read this path
abbrev pub ReadLast : List Exchange → Path → DiskAnswer → Type 0
ReadLast exchanges path answer = IsLast exchanges (read_of path answer)

-- the last of the exchanges read a file with these bytes at this path
pub record GotLast (exchanges : List Exchange) (path : Path) (bytes : List ℕ) : Type 0 where
  pub time : ℕ
  pub last : ReadLast exchanges path (disk_answers.File bytes time)

-- ---- files that are passed over

-- why a file is passed over, by what a read of its path gave: nothing was there, the call failed, something else was there, there were too many
-- links, or the bytes are no index
abbrev pub IsWhy : Kind → DiskAnswer → PassWhy → Type 0
IsWhy hash (disk_answers.Refused disk_errors.Absent) whys.Absent = Unit {0}
IsWhy hash (disk_answers.Refused disk_errors.Failed) whys.Failed = Unit {0}
IsWhy hash (disk_answers.Refused disk_errors.WrongKind) whys.WrongKind = Unit {0}
IsWhy hash (disk_answers.Refused disk_errors.LinkLoop) whys.LinkLoop = Unit {0}
IsWhy hash (disk_answers.File bytes time) whys.Bad = is_index hash bytes ≡ false
IsWhy hash answer why = ⊥

-- the last of the exchanges read this path, and this is why it is passed over
pub record MissedLast (hash : Kind) (exchanges : List Exchange) (path : Path) (why : PassWhy) : Type 0 where
  pub answer : DiskAnswer
  pub last : ReadLast exchanges path answer
  pub reason : IsWhy hash answer why

-- ---- events

-- a file that is stored is the one that was read last, at its path; and a file that is passed over was read last
abbrev pub IsOfLastRead : Kind → List Exchange → Event → Type 0
IsOfLastRead hash exchanges (events.PutIndex slot path file) = GotLast exchanges path file.bytes
IsOfLastRead hash exchanges (events.PutPack pack path file) = GotLast exchanges path file.bytes
IsOfLastRead hash exchanges (events.PassOver slot path why) = MissedLast hash exchanges path why
IsOfLastRead hash exchanges event = Unit {0}

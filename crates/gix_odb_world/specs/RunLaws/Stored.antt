-- What a call stores or passes over of what it read.
use Rattle.std.specs.Prelude.{ℕ, List}
use Rattle.odb_base.specs.Path.{Path}
use Rattle.odb_disk.specs.declared.ask.DiskAnswer.{DiskAnswer}
use Rattle.odb_disk.specs.declared.ask.DiskAnswer.TheVariants as answers
use Rattle.odb_disk.specs.Tree.{Tree}
use Rattle.gix_hash.specs.declared.kind.Kind.{Kind}
use Rattle.gix_odb_events.specs.declared.event.Event.{Event as CoreEvent}
use Rattle.gix_odb_events.specs.declared.event.Event.TheVariants as events
use Rattle.gix_odb_events.specs.declared.event.PassWhy.{PassWhy}
use Rattle.gix_odb.specs.Contents.{ShowsFile}
use Rattle.gix_odb.specs.JustRead.{IsWhy}
use Rattle.gix_odb_history.specs.Event.{Event}
use Rattle.gix_odb_world.specs.RunLaws.Turn.{IsTurnBefore, Reads}

-- In the turn before a place a call read a path, and got this answer.
pub record WasJustRead (run : List Event) (handle begun next : ℕ) (path : Path) (answer : DiskAnswer) : Type 0 where
  pub place : ℕ
  pub event : Event
  pub before : IsTurnBefore run handle begun place event next
  pub reads : Reads event path answer

-- A file that a call stores has the bytes that were read in the turn before, and its path showed them then.
pub record IsAsRead (run : List Event) (trees : ℕ → Tree) (handle begun next : ℕ) (path : Path) (bytes : List ℕ) : Type 0 where
  pub time : ℕ
  pub read : WasJustRead run handle begun next path (answers.File bytes time)
  pub shown : ShowsFile (trees read.place) path bytes

-- A file is passed over for what was read of its path in the turn before.
pub record IsMissing (run : List Event) (handle begun next : ℕ) (hash : Kind) (path : Path) (why : PassWhy) : Type 0 where
  pub answer : DiskAnswer
  pub read : WasJustRead run handle begun next path answer
  pub reason : IsWhy hash answer why

-- What an event of a core stores is as it was read, and what it passes over was missing.
abbrev pub IsBacked : List Event → (trees : ℕ → Tree) → (handle begun next : ℕ) → Kind → CoreEvent → Type 0
IsBacked run trees handle begun next hash (events.PutIndex slot path file) = IsAsRead run trees handle begun next path file.bytes
IsBacked run trees handle begun next hash (events.PutPack pack path file) = IsAsRead run trees handle begun next path file.bytes
IsBacked run trees handle begun next hash (events.PassOver slot path why) = IsMissing run handle begun next hash path why
IsBacked run trees handle begun next hash event = Unit {0}

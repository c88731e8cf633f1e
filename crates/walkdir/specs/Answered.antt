-- What the calls of a walk were answered, on any disk: each error was answered by a call of the walk.
use Rattle.std.specs.Prelude.{◌≡◌, ◌⊎◌, ℕ, Bool, true, List, [], ◌∷◌, Option, Some, None, Result, Ok, Err, IfSome}
use Rattle.odb_base.specs.Path.{Path}
use Rattle.odb_disk.specs.CallsMade.{Leads, IsAnsweredBetween}
use Rattle.odb_disk.specs.declared.ask.DiskAsk.{DiskAsk}
use Rattle.odb_disk.specs.declared.ask.DiskAsk.TheVariants as asks
use Rattle.odb_disk.specs.declared.ask.DiskAnswer.{DiskAnswer}
use Rattle.odb_disk.specs.declared.ask.DiskAnswer.TheVariants as answers
use Rattle.odb_disk.specs.declared.disk_error.DiskError.{DiskError}
use Rattle.odb_disk.specs.declared.meta.Meta.{Meta}
use Rattle.walkdir.specs.Entry.{is_dir_kind}
use Rattle.walkdir.specs.Error.{IsFromPath}
use Rattle.walkdir.specs.Innermost.{IsBeside, IsHead}
use Rattle.walkdir.specs.Directory.{held}
use Rattle.walkdir.specs.Walk.{Item}
use Rattle.walkdir.specs.Walk.Entries.{place_of}
use Rattle.walkdir.specs.declared.error.Error.{Error}
use Rattle.walkdir.specs.declared.error.ErrorInner.{ErrorInner}
use Rattle.walkdir.specs.declared.error.ErrorInner.TheVariants.{Io, Loop, NoMemory}
use Rattle.walkdir.specs.declared.directory.DirList.{DirList}
use Rattle.walkdir.specs.declared.directory.Place.{Place}

module _ {D : Type 0} (answered : D → DiskAsk → DiskAnswer → D → Type 0) where
  -- a stat of a path was answered: what it found, or a refusal, which is an error at this depth unless memory ran out
  abbrev pub LooksBy : ℕ → Path → Bool → D → Result Meta Error → D → Type 0
  LooksBy depth path follow old (Ok meta) new = answered old (asks.Look path follow) (answers.Meta meta) new
  LooksBy depth path follow old (Err error) new =
      (refusal : DiskError) × answered old (asks.Look path follow) (answers.Refused refusal) new × IsFromPath depth path refusal error

  module _ (first now : D) where
    -- of the calls between two disks, one was a stat of this path through links, and reported this place
    abbrev pub IsPlaceTold : Path → Place → Type 0
    IsPlaceTold path place = (meta : Meta) × IsAnsweredBetween answered first now (asks.Look path true) (answers.Meta meta) × (place_of meta ≡ place)

    -- stats of both paths reported one place, and that of the link a directory
    pub record IsLoopTold (ancestor child : Path) : Type 0 where
      pub meta : Meta
      pub looked : IsAnsweredBetween answered first now (asks.Look child true) (answers.Meta meta)
      pub kind : is_dir_kind meta.kind ≡ true
      pub above : IsPlaceTold ancestor (place_of meta)

    -- a stat of the path was refused so, or its opening
    abbrev pub IsLookRefused : Path → DiskError → Type 0
    IsLookRefused path error = (follow : Bool) × IsAnsweredBetween answered first now (asks.Look path follow) (answers.Refused error)

    abbrev pub IsOpeningRefused : Path → DiskError → Type 0
    IsOpeningRefused path error = IsAnsweredBetween answered first now (asks.OpenDir path) (answers.Refused error)

    -- a call of the walk was answered so: a stat of the path, or its opening; a stream's next entry; or stats that show a
    -- loop. The walk may also run out of memory itself.
    abbrev pub IsToldIn : ErrorInner → Type 0
    IsToldIn (Io (Some path) error) = IsLookRefused path error ⊎ IsOpeningRefused path error
    IsToldIn (Io None error) = (dir : ℕ) × IsAnsweredBetween answered first now (asks.NextEntry dir) (answers.Refused error)
    IsToldIn (Loop ancestor child) = IsLoopTold ancestor child
    IsToldIn NoMemory = Unit {0}

    abbrev pub IsTold : Item → Type 0
    IsTold (Ok entry) = Unit {0}
    IsTold (Err error) = IsToldIn error.inner

    abbrev pub IsItemTold : Option Item → Type 0
    IsItemTold None = Unit {0}
    IsItemTold (Some item) = IsTold item

    abbrev pub AreTold : List Item → Type 0
    AreTold [] = Unit {0}
    AreTold (item ∷ items) = IsTold item × AreTold items

    -- an error that a directory still has: its opening was answered so, or its stream's next entry
    abbrev pub IsHeldIn : ErrorInner → Type 0
    IsHeldIn (Io (Some path) error) = IsOpeningRefused path error
    IsHeldIn (Io None error) = (dir : ℕ) × IsAnsweredBetween answered first now (asks.NextEntry dir) (answers.Refused error)
    IsHeldIn (Loop ancestor child) = ⊥
    IsHeldIn NoMemory = Unit {0}

    abbrev pub IsHeld : Item → Type 0
    IsHeld (Ok entry) = Unit {0}
    IsHeld (Err error) = IsHeldIn error.inner

    abbrev pub AreHeld : List Item → Type 0
    AreHeld [] = Unit {0}
    AreHeld (item ∷ items) = IsHeld item × AreHeld items

    -- the errors that a directory still has were answered, and its place was reported
    abbrev pub IsListTold : DirList → Type 0
    IsListTold list = AreHeld (held list.items) × IfSome list.place (λ place. IsPlaceTold list.path place)

    abbrev pub AreListsTold : List DirList → Type 0
    AreListsTold [] = Unit {0}
    AreListsTold (list ∷ outer) = IsListTold list × AreListsTold outer

    -- calls lead from the one disk to the other, and reported what the walk keeps
    pub record IsStackTold (stack : List DirList) : Type 0 where
      pub leads : Leads answered first now
      pub lists : AreListsTold stack

    -- A path that couldn't be statted is in the innermost directory. A directory that couldn't be opened is the innermost.
    abbrev pub IsRefusedIn : ℕ → ErrorInner → List DirList → Type 0
    IsRefusedIn depth (Io (Some path) error) stack =
        (IsLookRefused path error × IsBeside path depth stack) ⊎ (IsOpeningRefused path error × IsHead path depth stack)
    IsRefusedIn depth (Io None error) stack = Unit {0}
    IsRefusedIn depth (Loop ancestor child) stack = Unit {0}
    IsRefusedIn depth NoMemory stack = Unit {0}

    -- an item that is an error was refused so
    abbrev pub IsRefusedAt : Option Item → List DirList → Type 0
    IsRefusedAt None stack = Unit {0}
    IsRefusedAt (Some (Ok entry)) stack = Unit {0}
    IsRefusedAt (Some (Err error)) stack = IsRefusedIn error.depth error.inner stack

  -- A step of a walk makes calls. If calls that lead to the old disk reported what the walk keeps there, then these calls
  -- reported what it keeps and gives now. If that is an error with a path, the refused call says which directory is
  -- innermost.
  pub record TellsOn (old : D) (stack : List DirList) (item : Option Item) (new : D) (rest : List DirList) : Type 0 where
    pub leads : Leads answered old new
    pub told : (first : D) → IsStackTold first old stack → IsStackTold first new rest × IsItemTold first new item
    pub refused : (first : D) → IsStackTold first old stack → IsRefusedAt first new item rest

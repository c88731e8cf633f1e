-- What the parts of a turn were answered. No public clause cites this module.
use Rattle.std.specs.Prelude.{List, Option, Some, None, Result, Ok, Err, IfErr, IfOk, IfSome}
use Rattle.odb_base.specs.Path.{Path}
use Rattle.odb_disk.specs.CallsMade.{Leads}
use Rattle.odb_disk.specs.declared.ask.DiskAsk.{DiskAsk}
use Rattle.odb_disk.specs.declared.ask.DiskAnswer.{DiskAnswer}
use Rattle.walkdir.specs.Answered.{AreHeld, IsHeld, IsLookRefused, IsLoopTold, IsPlaceTold, IsStackTold}
use Rattle.walkdir.specs.Directory.{held}
use Rattle.walkdir.specs.Walk.{Item}
use Rattle.walkdir.specs.declared.error.Error.{Error}
use Rattle.walkdir.specs.declared.error.ErrorInner.{ErrorInner}
use Rattle.walkdir.specs.declared.error.ErrorInner.TheVariants.{Io, Loop, NoMemory}
use Rattle.walkdir.specs.declared.directory.DirList.{DirList}
use Rattle.walkdir.specs.declared.directory.Entering.{Entering}
use Rattle.walkdir.specs.declared.directory.Entering.TheVariants.{Stays, Enters}
use Rattle.walkdir.specs.declared.directory.Items.{Items}
use Rattle.walkdir.specs.declared.directory.Place.{Place}
use Rattle.walkdir.specs.declared.stack.follow.Found.{Found}

module _ {D : Type 0} (answered : D → DiskAsk → DiskAnswer → D → Type 0) where
  abbrev pub IsItemHeld : D → D → Option Item → Type 0
  IsItemHeld first now item = IfSome item (λ i. IsHeld answered first now i)

  -- calls lead on, and reported what was drawn
  pub record TellsItem (old : D) (item : Option Item) (new : D) : Type 0 where
    pub leads : Leads answered old new
    pub told : IsItemHeld old new item

  -- calls lead on, and reported all that was read
  pub record TellsContents (old : D) (result : Result Items Error) (new : D) : Type 0 where
    pub leads : Leads answered old new
    pub told : IfOk result (λ items. AreHeld answered old new (held items))

  -- a place that is known was reported for the path
  abbrev pub IsKnown : D → D → Path → Option Place → Type 0
  IsKnown first now path place = IfSome place (λ p. IsPlaceTold answered first now path p)

  -- stats alone reported an error
  abbrev pub IsSeenIn : D → D → ErrorInner → Type 0
  IsSeenIn first now (Io (Some path) error) = IsLookRefused answered first now path error
  IsSeenIn first now (Io None error) = ⊥
  IsSeenIn first now (Loop ancestor child) = IsLoopTold answered first now ancestor child
  IsSeenIn first now NoMemory = Unit {0}

  -- calls lead on, and stats reported the error, if there is one
  pub record TellsLook {A : Type 0} (old : D) (result : Result A Error) (new : D) : Type 0 where
    pub leads : Leads answered old new
    pub told : (first : D) → Leads answered first old → IfErr result (λ e. IsSeenIn first new e.inner)

  -- ---- answers

  abbrev pub IsFoundTold : D → D → Result Found Error → Type 0
  IsFoundTold first now (Ok found) = IsKnown first now found.entry.path found.place
  IsFoundTold first now (Err error) = IsSeenIn first now error.inner

  abbrev pub IsWhereTold : D → D → Path → Result (Option Place) Error → Type 0
  IsWhereTold first now path (Ok place) = IsKnown first now path place
  IsWhereTold first now path (Err error) = IsSeenIn first now error.inner

  abbrev pub IsEnteringTold : D → D → Path → Result Entering Error → Type 0
  IsEnteringTold first now path (Ok (Enters place)) = IsKnown first now path place
  IsEnteringTold first now path (Ok Stays) = Unit {0}
  IsEnteringTold first now path (Err error) = IsSeenIn first now error.inner

  -- ---- parts of a turn

  pub record TellsFound (old : D) (stack : List DirList) (result : Result Found Error) (new : D) : Type 0 where
    pub leads : Leads answered old new
    pub told : (first : D) → IsStackTold answered first old stack → IsFoundTold first new result

  pub record TellsPlace (old : D) (found : Found) (result : Result (Option Place) Error) (new : D) : Type 0 where
    pub leads : Leads answered old new
    pub told : (first : D) → Leads answered first old → IsKnown first old found.entry.path found.place → IsWhereTold first new found.entry.path result

  pub record TellsEntering (old : D) (found : Found) (result : Result Entering Error) (new : D) : Type 0 where
    pub leads : Leads answered old new
    pub told : (first : D) → Leads answered first old → IsKnown first old found.entry.path found.place
        → IsEnteringTold first new found.entry.path result

  -- a directory with this path and place is put on the stack, or memory ran out
  pub record TellsPushed (old : D) (stack : List DirList) (path : Path) (place : Option Place) (new : D) (rest : List DirList) : Type 0 where
    pub leads : Leads answered old new
    pub told : (first : D) → IsStackTold answered first old stack → IsKnown first old path place → IsStackTold answered first new rest

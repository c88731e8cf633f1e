-- What the code of a world does with what it keeps of watched paths. No public clause cites this.
use Rattle.std.specs.Prelude.{◌≡◌, ℕ, List, Option, Some, None}
use Rattle.odb_base.specs.Path.{Path}
use Rattle.odb_disk.specs.Tree.{Tree}
use Rattle.odb_disk.specs.Tree.Change.{changed}
use Rattle.odb_disk.specs.declared.change.Change.{Change}
use Rattle.gix_odb_watch.specs.Kept.{Fits, Folders, IsSecond, Kept, Notes}
use Rattle.gix_odb_watch.specs.HasShown.{AreBegun, Keeps, Since}
use Rattle.gix_odb_watch.specs.Revealed.{IsRevealed}
use Rattle.gix_odb_watch.specs.declared.revealed.Revealed.{Revealed}
use Rattle.gix_odb_world.specs.TwoContents.{watched_too}

-- these folders are watched too from now on, by this tree
abbrev pub Watches : Kept → Kept → Tree → List Path → Type 0
Watches old new tree folders =
    (trees : ℕ → Tree) (since : Since) (now : ℕ) → trees now ≡ tree → AreBegun since now → Keeps trees since now old
    → Keeps trees (watched_too since now folders) now new

-- after the change, if there is one, a watched path would show a second content
abbrev pub ShowsSecondBy : Kept → Tree → Option Change → Type 0
ShowsSecondBy kept tree None = ⊥
ShowsSecondBy kept tree (Some change) = IsSecond kept (changed tree change)

-- what the change would make watched paths show, if there is one
abbrev pub TellsRevealed : Folders → Tree → Change → Option Revealed → Type 0
TellsRevealed folders tree change None = ⊥
TellsRevealed folders tree change (Some revealed) = IsRevealed folders tree (changed tree change) revealed

abbrev pub TellsChange : Folders → Tree → Option Change → Option Revealed → Type 0
TellsChange folders tree None revealed = Unit {0}
TellsChange folders tree (Some change) revealed = TellsRevealed folders tree change revealed

-- a change of a tree was noted
pub record NotesChange (old : Kept) (tree : Tree) (change : Change) (new : Kept) : Type 0 where
  pub notes : Notes old old.folders (changed tree change) new
  pub fits : Fits new (changed tree change)

-- the change of a turn was noted, if it made one
abbrev pub NotesMade : Kept → Tree → Option Change → Kept → Type 0
NotesMade old tree None new = new ≡ old
NotesMade old tree (Some change) new = NotesChange old tree change new
